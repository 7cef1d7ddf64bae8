-- What a node is.

pub data Role : Type 0 where
  Wallet : Role
  Watcher : Role
  Operator : Role
