-- What events say of a node is what its records are, and each command keeps it so and makes bytes.
use Rattle.world_rules.proofs.Basics.{◌≡◌, ℕ, ◌^◌, ◌<◌, ◌-◌, ◌==◌, Bool, true, false, if◌then◌else◌, List, [], ◌∷◌, Option, Some, None, refl, sym, ◌∙◌, subst, zero, suc, arith, Result, IfSome, slice_get, unwrap_or, option_map, false≢true, common_steps}
use Rattle.world_rules.proofs.CoinWords.{Owner, RootCall, IsOwner, blocks, some_same}
use Rattle.world_rules.proofs.NodeWords.{WalletRefusal, WalletEffect, with_more, after, wallet_cause, WalletOrder, WatcherOrder, OperatorOrder, NodeOrder, Response, answered, wallet_doing, with_record, Small, small-nil}
use Rattle.world_rules.proofs.WorldWords.{HexOrName, OWNER_BYTES, IsHexOrItem, IsHexOrName, Command, WalletCommand, Role, Node, World, wallet_of, is_wallet_role, is_watcher_role, is_operator_role, bytes_of, new_owner_of, Deed, as_deed, order_of, with_records}
use Rattle.line_forms.specs.declared.tokens.HexOrItem.{HexOrItem}
use Rattle.schedule_text.specs.declared.command.WatcherCommand.{WatcherCommand}
use Rattle.schedule_text.specs.declared.command.OperatorCommand.{OperatorCommand}
use Rattle.world_rules.proofs.OrderEnds.{wallet_told}
use Rattle.world_rules.proofs.OperatorItems.{AreSmallRecords}
use Rattle.world_rules.proofs.Said.{Said, told}
use Rattle.world_rules.proofs.KeptWallet.{KeptWallet, records-push}
use Rattle.world_rules.proofs.KeptWatcher.{KeptWatcher}

-- what is said of a node is what its records are, by its role
pub record KeptNode (dig : List ℕ → List ℕ) (s : Said) (log : List RootCall) (node : Node) : Type 0 where
  pub wallet : is_wallet_role node.role ≡ true → KeptWallet dig s log (wallet_of node)
  pub watcher : is_watcher_role node.role ≡ true → KeptWatcher dig s node.notes
  pub operator : is_operator_role node.role ≡ true → AreSmallRecords node.notes

-- an owner of the type, whose key is bytes
pub record IsGoodOwner (owner : Owner) : Type 0 where
  pub is : IsOwner owner
  pub key : Small owner.key

-- what a command may take from a world: mail items that are bytes, and owners; and the log's blocks are few
pub record Feeds (world : World) : Type 0 where
  pub mail : AreSmallRecords world.mail
  pub owners : (to : HexOrName) (owner : Owner) → IsHexOrName OWNER_BYTES to → new_owner_of world to ≡ Some owner
      → IsGoodOwner owner
  pub few : blocks world.chain.log < 2 ^ 64

-- the bytes of a token
pub item-small : (texts : List (List ℕ)) (i : ℕ) → AreSmallRecords texts → Small (unwrap_or (slice_get texts i) [])
item-small [] i small = small-nil
item-small (text ∷ texts) zero small = small.0
item-small (text ∷ texts) (suc i) small = item-small texts i small.1

pub token-small : (world : World) (token : HexOrItem) → AreSmallRecords world.mail → IsHexOrItem token
    → Small (bytes_of world token)
token-small world (HexOrItem.Hex bytes) mail is = record { are = is }
token-small world (HexOrItem.Item line) mail is =
    elim (line == 0) as (λ b. Small (if b then [] else unwrap_or (slice_get world.mail (line - 1)) [])) [
      | true ↦ small-nil
      | false ↦ item-small world.mail (line - 1) mail
    ]

-- ---- commands in the grammar

abbrev pub IsFitWallet : WalletCommand → Type 0
IsFitWallet (WalletCommand.Accept bundle) = IsHexOrItem bundle
IsFitWallet (WalletCommand.Send coin to last) =
    (coin < 2 ^ 64) × IsHexOrName OWNER_BYTES to × IfSome last (λ n. n < 2 ^ 64)
IsFitWallet (WalletCommand.Again coin) = Unit {0}
IsFitWallet (WalletCommand.Leave coin) = coin < 2 ^ 64
IsFitWallet (WalletCommand.Reclaim bundle) = IsHexOrItem bundle
IsFitWallet WalletCommand.Migrate = Unit {0}

abbrev pub IsFitWatcher : WatcherCommand → Type 0
IsFitWatcher (WatcherCommand.Guard bundle) = IsHexOrItem bundle
IsFitWatcher (WatcherCommand.Release coin tip) = (coin < 2 ^ 64) × (tip < 2 ^ 64)

abbrev pub IsFitOperator : OperatorCommand → Type 0
IsFitOperator (OperatorCommand.Offer transfer) = IsHexOrItem transfer
IsFitOperator (OperatorCommand.Lay coin leaf) = IsHexOrItem leaf
IsFitOperator command = Unit {0}

abbrev pub IsFit : Command → Type 0
IsFit (Command.Wallet name own) = IsFitWallet own
IsFit (Command.Watcher name own) = IsFitWatcher own
IsFit (Command.Operator own) = IsFitOperator own
IsFit (Command.Watch name) = Unit {0}
IsFit (Command.Open name) = Unit {0}

-- ---- their orders

abbrev pub IsFitOrder : NodeOrder → Type 0
IsFitOrder (NodeOrder.Wallet (WalletOrder.Accept bytes)) = Small bytes
IsFitOrder (NodeOrder.Wallet (WalletOrder.Send coin to last)) =
    (coin < 2 ^ 64) × IsGoodOwner to × IfSome last (λ n. n < 2 ^ 64)
IsFitOrder (NodeOrder.Wallet (WalletOrder.Leave coin)) = coin < 2 ^ 64
IsFitOrder (NodeOrder.Wallet (WalletOrder.Reclaim bytes)) = Small bytes
IsFitOrder (NodeOrder.Watcher (WatcherOrder.Guard bytes)) = Small bytes
IsFitOrder (NodeOrder.Watcher (WatcherOrder.Release coin tip)) = (coin < 2 ^ 64) × (tip < 2 ^ 64)
IsFitOrder (NodeOrder.Operator (OperatorOrder.Offer bytes)) = Small bytes
IsFitOrder (NodeOrder.Operator (OperatorOrder.Lay coin leaf)) = Small leaf
IsFitOrder order = Unit {0}

-- the order of a command in the grammar, whose tokens the world feeds
pub order-fit : (world : World) (feeds : Feeds world) (role : Role) (command : Command) (order : NodeOrder)
    → IsFit command → order_of world role command ≡ Some order → IsFitOrder order
unfolding order_of
order-fit world feeds role command order fit is = by command fit is
  where
    sent : (coin : ℕ) (to : HexOrName) (last : Option ℕ) → IsFitWallet (WalletCommand.Send coin to last)
        → (found : Option Owner) → new_owner_of world to ≡ found
        → option_map NodeOrder.Wallet (option_map (λ owner. WalletOrder.Send coin owner last) found) ≡ Some order
        → IsFitOrder order
    sent coin to last fit None found wrong = absurd (cc wrong)
    sent coin to last fit (Some owner) found is =
        subst IsFitOrder (some_same _ order is) (fit.0, feeds.owners to owner fit.1 found, fit.2)

    by : (command : Command) → IsFit command → order_of world role command ≡ Some order → IsFitOrder order
    by (Command.Wallet name (WalletCommand.Accept bundle)) fit is =
        subst IsFitOrder (some_same _ order is) (token-small world bundle feeds.mail fit)
    by (Command.Wallet name (WalletCommand.Send coin to last)) fit is =
        sent coin to last fit (new_owner_of world to) refl is
    by (Command.Wallet name (WalletCommand.Again coin)) fit is = subst IsFitOrder (some_same _ order is) tt
    by (Command.Wallet name (WalletCommand.Leave coin)) fit is = subst IsFitOrder (some_same _ order is) fit
    by (Command.Wallet name (WalletCommand.Reclaim bundle)) fit is =
        subst IsFitOrder (some_same _ order is) (token-small world bundle feeds.mail fit)
    by (Command.Wallet name WalletCommand.Migrate) fit is = subst IsFitOrder (some_same _ order is) tt
    by (Command.Watcher name (WatcherCommand.Guard bundle)) fit is =
        subst IsFitOrder (some_same _ order is) (token-small world bundle feeds.mail fit)
    by (Command.Watcher name (WatcherCommand.Release coin tip)) fit is = subst IsFitOrder (some_same _ order is) fit
    by (Command.Operator (OperatorCommand.Offer transfer)) fit is =
        subst IsFitOrder (some_same _ order is) (token-small world transfer feeds.mail fit)
    by (Command.Operator (OperatorCommand.Lay coin leaf)) fit is =
        subst IsFitOrder (some_same _ order is) (token-small world leaf feeds.mail fit)
    by (Command.Operator own) fit is = subst IsFitOrder (some_same _ order is) tt
    by (Command.Watch name) fit is = grind (arith, common_steps, some_same)
    by (Command.Open name) fit is = subst IsFitOrder (some_same _ order is) tt

-- ---- what a command leaves

-- what a deed of a node leaves, and what it makes
pub record IsKeptDeed (dig : List ℕ → List ℕ) (s : Said) (log : List RootCall) (node : Node) (deed : Deed)
    : Type 0 where
  pub kept : KeptNode dig (told deed.gives.event s) log (with_records node deed)
  pub made : Small deed.gives.made

pub wallet-alone : (role : Role) → is_wallet_role role ≡ true → (is_watcher_role role ≡ false)
    × (is_operator_role role ≡ false)
wallet-alone role is = grind (arith, common_steps, false≢true)

pub watcher-alone : (role : Role) → is_watcher_role role ≡ true → (is_wallet_role role ≡ false)
    × (is_operator_role role ≡ false)
watcher-alone role is = grind (arith, common_steps, false≢true)

operator-alone : (role : Role) → is_operator_role role ≡ true → (is_wallet_role role ≡ false)
    × (is_watcher_role role ≡ false)
operator-alone role is = grind (arith, common_steps, false≢true)

never : {A : Type 0} (b : Bool) → b ≡ false → b ≡ true → A
never b off on = absurd (false≢true (sym off ∙ on))

-- records with what a command adds
records-more : (records : List (List ℕ)) (added : Option (List ℕ)) → with_more added records ≡ with_record records added
records-more records added = grind (arith, common_steps)

pub records-noted : (records : List (List ℕ)) (added : Option (List ℕ)) → AreSmallRecords records → IfSome added Small
    → AreSmallRecords (with_record records added)
records-noted records added small one = grind (arith, common_steps, records-push)

module _ (dig : List ℕ → List ℕ) (s : Said) (log : List RootCall) (node : Node) where
  -- of a wallet
  pub of-wallet : is_wallet_role node.role ≡ true → (deed : Deed)
      → KeptWallet dig (told deed.gives.event s) log (wallet_of (with_records node deed)) → Small deed.gives.made
      → IsKeptDeed dig s log node deed
  of-wallet role deed kept made = grind (arith, common_steps, never, wallet-alone)

  -- by a wallet's effect
  pub by-effect : {A : Type 0} → is_wallet_role node.role ≡ true → (n : ℕ) (order : WalletOrder) (give : A → Response)
      (effect : WalletEffect (Result A WalletRefusal))
      → KeptWallet dig (told (wallet_told n order give effect.answer) s) log (after effect (wallet_of node))
      → Small (answered wallet_cause give effect.answer).made
      → IsKeptDeed dig s log node (as_deed n (NodeOrder.Wallet order) (wallet_doing give effect))
  by-effect role n order give effect kept made = grind (arith, common_steps, of-wallet, told, wallet_told, records-more)

  pub of-watcher : is_watcher_role node.role ≡ true → (deed : Deed)
      → KeptWatcher dig (told deed.gives.event s) (with_record node.notes deed.note) → Small deed.gives.made
      → IsKeptDeed dig s log node deed
  of-watcher role deed kept made = grind (arith, common_steps, never, watcher-alone)

  pub of-operator : is_operator_role node.role ≡ true → (deed : Deed)
      → AreSmallRecords (with_record node.notes deed.note) → Small deed.gives.made → IsKeptDeed dig s log node deed
  of-operator role deed kept made = grind (arith, common_steps, never, operator-alone)
