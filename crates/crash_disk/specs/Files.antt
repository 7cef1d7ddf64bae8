-- Disks over a file: none foretells which of its calls fail, and one over a file of the operating system tells nothing of
-- what it holds.
use Rattle.std.specs.Prelude.{ℕ, ◌^◌, List, Option, None}
use Rattle.crash_disk.specs.Disk.{History, FaultPlan, Room}
use Rattle.crash_disk.specs.FileCalls.{FileCall}

-- a disk over a file of the operating system: its count of faults, and the calls that it made of the file, the newest
-- first
pub record FileDiskState : Type 0 where
  pub faults : ℕ
  pub calls : List FileCall

-- a disk over any file: the file, the device calls since the disk was made, and its count of faults
pub record DiskOverState (F : Type 0) : Type 0 where
  pub file : F
  pub past : History
  pub faults : ℕ

-- no device call is told
abbrev pub no_history : {D : Type 0} → D → Option History
no_history disk = None

-- nor is it foretold which of its calls fail
abbrev pub no_plan : {D : Type 0} → D → Option FaultPlan
no_plan disk = None

-- room for every call
abbrev pub every_room : Room
every_room = record { calls = 2 ^ 64; bytes = 2 ^ 64 }
