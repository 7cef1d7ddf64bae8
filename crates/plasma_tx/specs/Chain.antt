use Rattle.std.specs.Prelude.{ℕ, List}
use Rattle.plasma_tx.specs.declared.call.RootCall.{RootCall}

-- what callers see of a root log or a root contract
pub record Chain : Type 0 where
  pub tag : List ℕ
  pub operator : ℕ
  pub most_blocks : ℕ
  -- the accepted calls, the newest first
  pub log : List RootCall

-- the chain with this log
abbrev pub with_log : Chain → List RootCall → Chain
with_log chain log = record chain { log = log }
