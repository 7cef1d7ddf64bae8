-- What the disk model and the plans of faults say of themselves.
use Rattle.std.specs.Prelude.{◌≡◌, ℕ, ◌+◌, ◌-◌, false, List, [], min, option_map}
use Rattle.std.specs.Option.{option_map_or}
use Rattle.crash_disk.specs.Disk.{History, fresh_history, content, unsynced_ranges, MayLeave, FaultPlan, after_calls, passing}
use Rattle.crash_disk.specs.Outcomes.{image_after}
use Rattle.crash_disk.specs.Memory.{MemState, plan_of}
use Rattle.crash_disk.specs.declared.outcome.Outcome.{Outcome}

-- each outcome leaves an image that the disk model allows
abbrev pub OutcomesMayBeLeft : Type 0
OutcomesMayBeLeft = (outcome : Outcome) (history : History) → MayLeave history (image_after outcome history)

-- what a disk holds may be left
abbrev pub ContentMayBeLeft : Type 0
ContentMayBeLeft = (history : History) → MayLeave history (content history)

-- with nothing written since a sync that succeeded, what a read gives is what a crash leaves
abbrev pub SyncedContentIsLeft : Type 0
SyncedContentIsLeft = (history : History) (image : List ℕ)
    → unsynced_ranges history ≡ [] → MayLeave history image → image ≡ content history

-- a disk that begins with an image leaves that image alone
abbrev pub FreshDiskLeavesItself : Type 0
FreshDiskLeavesItself = (began image : List ℕ) → MayLeave (fresh_history began) image → image ≡ began

-- what is listed, and what may still pass, after so many calls
abbrev pub AfterCalls : Type 0
AfterCalls = (count : ℕ) (plan : FaultPlan)
    → ((n : ℕ) → (after_calls count plan).listed n ≡ plan.listed (count + n))
    × ((after_calls count plan).fuse ≡ option_map (λ calls. calls - count) plan.fuse)

-- with no listed call, as many pass as the fuse lets pass, and all where there is no fuse
abbrev pub NextPassByFuse : Type 0
NextPassByFuse = (plan : FaultPlan) (count : ℕ) → ((n : ℕ) → plan.listed n ≡ false)
    → passing count plan ≡ option_map_or (min count) plan.fuse count

-- the same after so many calls: as many pass as the fuse still lets pass
abbrev pub PassesByFuse : Type 0
PassesByFuse = (plan : FaultPlan) (made count : ℕ) → ((n : ℕ) → plan.listed n ≡ false)
    → passing count (after_calls made plan) ≡ option_map_or (λ calls. min count (calls - made)) plan.fuse count

-- a disk in memory with an empty list foretells no listed call
abbrev pub NoneListed : Type 0
NoneListed = (disk : MemState) (n : ℕ) → disk.fails ≡ [] → (plan_of disk).listed n ≡ false
