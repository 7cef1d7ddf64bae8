-- A node's life: calls of the program, one after another, on one pair of disks, and crashes between them.
use Rattle.std.specs.Prelude.{ℕ, List, [], ◌∷◌, Option}
use Rattle.crash_disk.specs.Disk.{History, FaultPlan}
use Rattle.node_lives.specs.{Disks.{Pair, BothLie, BothTell}, Calls.{Call}}

-- over disks that tell their history, foretell their faults and count them, and under a digest
module _ {D : Type 0} (told : D → Option History) (plan : D → Option FaultPlan) (faults : D → ℕ)
    (dig : List ℕ → List ℕ) where
  -- the disks lie as the newest of these calls left them, or a crash since
  abbrev pub LieBehind : List (Call told plan faults dig) → Pair D → Type 0
  LieBehind [] pair = Unit {0}
  LieBehind (call ∷ calls) pair = BothLie told call.new pair

  -- calls, the newest first, each on disks that tell, and that lie behind the one before
  unfoldable pub IsLife : List (Call told plan faults dig) → Type 0
  IsLife [] = Unit {0}
  IsLife (call ∷ calls) = BothTell told call.old × LieBehind calls call.old × IsLife calls
