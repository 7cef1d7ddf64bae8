-- What a run of a wallet's order does to its disks.
use Rattle.std.specs.Prelude.{ℕ, List, Option, Some, None}
use Rattle.crash_disk.specs.Disk.{History, FaultPlan}
use Rattle.node_journal.specs.declared.stop.Stop.{Stop}
use Rattle.wallet_node.specs.State.{WalletState, DidNote, DidLeaf}
use Rattle.node_replies.specs.Orders.{Doing}

-- over disks that tell their history, foretell their faults and count them
module _ {D H : Type 0} (told : D → Option History) (plan : D → Option FaultPlan) (faults : D → ℕ) where
  -- what a command did that adds this leaf's record, or else this note, or neither, and that was stopped so, or not
  abbrev pub DidEither : Option (List ℕ) → Option (List ℕ) → WalletState D H → Option Stop → WalletState D H → Type 0
  DidEither (Some leaf) added old stop new = DidLeaf told plan faults (Some leaf) old stop new
  DidEither None added old stop new = DidNote told plan faults added old stop new

  -- what a run of an order did to a wallet, where the order does this
  abbrev pub Does : Doing → WalletState D H → Option Stop → WalletState D H → Type 0
  Does doing old stop new = DidEither doing.leaf doing.note old stop new
