-- A node's two disks, and what becomes of them between two calls of the program.
use Rattle.std.specs.Prelude.{◌≡◌, ℕ, true, List, Option, Some, is_some}
use Rattle.crash_disk.specs.Disk.{History, fresh_history, MayLeave}

-- a node's two disks: that of its notes, and that of its leaves, which a wallet uses, and an operator with a key
pub record Pair (D : Type 0) : Type 0 where
  pub notes : D
  pub leaves : D

-- over disks that tell their history
module _ {D : Type 0} (told : D → Option History) where
  -- A disk before the next call: it is as it was left; or a crash left an image of it that the disk model allows, with
  -- which it begins anew. Its faults to come and its room are then any.
  pub data Lies (left next : D) : Type 0 where
    Stays : next ≡ left → Lies left next
    Crashed : (before : History) (image : List ℕ) → told left ≡ Some before → MayLeave before image
        → told next ≡ Some (fresh_history image) → Lies left next

  -- both disks do
  abbrev pub BothLie : Pair D → Pair D → Type 0
  BothLie left next = Lies left.notes next.notes × Lies left.leaves next.leaves

  -- both tell their history
  abbrev pub BothTell : Pair D → Type 0
  BothTell pair = (is_some (told pair.notes) ≡ true) × (is_some (told pair.leaves) ≡ true)
