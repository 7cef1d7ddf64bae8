-- The disk in memory.
use Rattle.std.specs.Prelude.{ℕ, zero, suc, ◌+◌, ◌-◌, Bool, ◌==◌, max, List, [], length, Option, Some, None}
use Rattle.std.specs.List.{list_any}
use Rattle.plasma_base.specs.Causes.{counted, faults_after}
use Rattle.crash_disk.specs.Disk.{Step, asks_length, reads, writes, syncs, History, fresh_history, with_call, FaultPlan, fails_first, after_one, Room}
use Rattle.crash_disk.specs.declared.past.AskedStep.{AskedStep}
use Rattle.crash_disk.specs.declared.past.AskedStep.TheVariants.{Length, Read, Write, Sync}

-- what it tells; the numbers of the calls that are to fail, counted from 1 since it was made; how many calls were made;
-- how many may still pass where there is a fuse; the faults; and the room left
pub record MemState : Type 0 where
  pub history : History
  pub fails : List ℕ
  pub made : ℕ
  pub fuse : Option ℕ
  pub faults : ℕ
  pub room : Room

-- whether the n-th call to come is on the list, after so many were made
abbrev pub listed_at : List ℕ → ℕ → ℕ → Bool
listed_at fails made zero = list_any (λ number. number == made + 1) fails
listed_at fails made (suc n) = listed_at fails (counted made) n

-- the plan of a list, after so many calls, with a fuse
abbrev pub plan_at : List ℕ → ℕ → Option ℕ → FaultPlan
plan_at fails made fuse = record { listed = listed_at fails made; fuse = fuse }

-- the plan of a disk's faults
abbrev pub plan_of : MemState → FaultPlan
plan_of disk = plan_at disk.fails disk.made disk.fuse

-- the next call fails
abbrev pub fails_next : MemState → Bool
fails_next disk = fails_first (plan_of disk)

-- the bytes that a step writes
abbrev pub bytes_of : Step → List ℕ
bytes_of (writes place bytes) = bytes
bytes_of step = []

-- the room after a step
abbrev pub room_after : Step → Room → Room
room_after step room = record { calls = room.calls - 1; bytes = room.bytes - length (bytes_of step) }

-- room for at least so many calls, which write so many bytes
abbrev pub room_with : ℕ → ℕ → Room → Room
room_with calls bytes room = record { calls = max calls room.calls; bytes = max bytes room.bytes }

-- the disk after a device call
abbrev pub after_call : MemState → Step → MemState
after_call disk step = record disk {
  history = with_call step (fails_next disk) disk.history;
  made = counted disk.made;
  fuse = (after_one (plan_of disk)).fuse;
  faults = faults_after disk.faults (fails_next disk);
  room = room_after step disk.room;
}

-- the disk with a fuse
abbrev pub with_fuse : ℕ → MemState → MemState
with_fuse calls disk = record disk { fuse = Some calls }

-- the disk with room for at least so many calls, which write so many bytes
abbrev pub with_room : ℕ → ℕ → MemState → MemState
with_room calls bytes disk = record disk { room = room_with calls bytes disk.room }

-- the disk after a crash that left this image: no calls to tell, no fuse and no room
abbrev pub after_crash : List ℕ → MemState → MemState
after_crash image disk = record disk {
  history = fresh_history image;
  fuse = None;
  room = record { calls = 0; bytes = 0 };
}

-- the step that a call asks for
abbrev pub step_of : AskedStep → Step
step_of Length = asks_length
step_of (Read place count) = reads place count
step_of (Write place bytes) = writes place bytes.now
step_of Sync = syncs
