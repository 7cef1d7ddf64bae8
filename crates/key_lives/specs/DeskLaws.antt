-- What holds of the receipts of an operator's whole life, whatever calls come, faults and crashes.
use Rattle.std.specs.Prelude.{◌≡◌, ℕ, List, ◌∷◌, ◌++◌, Option}
use Rattle.std.specs.List.{Contains}
use Rattle.crash_disk.specs.Disk.{History, FaultPlan}
use Rattle.node_replies.specs.Roles.{Operator}
use Rattle.node_lives.specs.Calls.{Call}
use Rattle.node_lives.specs.Lives.{IsLife}
use Rattle.node_lives.specs.Laws.{Begins}
use Rattle.key_lives.specs.Desks.{GivesReceipt}

-- over disks that tell their history, foretell their faults and count them, and under a digest
module _ {D : Type 0} (told : D → Option History) (plan : D → Option FaultPlan) (faults : D → ℕ)
    (dig : List ℕ → List ℕ) where
  -- What a leaf of an operator's key gave out is one receipt: one promise with one signature, in all that was written out
  -- by all runs since the operator was begun.
  abbrev pub DesksPromiseOnce : Type 0
  DesksPromiseOnce = (later earlier : List (Call told plan faults dig))
      (first one other : Call told plan faults dig) (q : ℕ) (made also : List ℕ)
      → IsLife told plan faults dig (later ++ first ∷ earlier) → Begins told plan faults dig Operator first
      → Contains later one → Contains later other
      → GivesReceipt told plan faults dig one q made → GivesReceipt told plan faults dig other q also → made ≡ also
