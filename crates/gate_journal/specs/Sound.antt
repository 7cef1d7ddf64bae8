-- What holds of every journal.
use Rattle.std.specs.Prelude.{◌≡◌, ◌<◌, ◌≤◌, ℕ, ◌+◌, ◌*◌, ◌^◌, Bool, false, List, length, Option}
use Rattle.crash_disk.specs.Disk.{History, Room}
use Rattle.gate_journal.specs.Image.{spelled}
use Rattle.crash_disk.specs.Calls.{WhereTold}
use Rattle.gate_journal.specs.Journal.{IsSettled}

-- the records that the disk holds, with the closed gate behind them
pub record RestsAt (gate : ℕ) (history : History) : Type 0 where
  pub records : List (List ℕ)
  pub settled : IsSettled history records
  pub place : gate ≡ length (spelled records)

-- an open journal rests at its gate, and its disk and its buffer have the room that is spare
pub record IsSound (told : Option History) (left : Room) (gate : ℕ) (closed : Bool)
    (bodies bytes capacity : ℕ) : Type 0 where
  pub rests : closed ≡ false → WhereTold told (RestsAt gate)
  pub place : gate + 1 < 2 ^ 64
  pub calls : closed ≡ false → bodies * 4 ≤ left.calls
  pub room : closed ≡ false → bodies * (bytes + 6) ≤ left.bytes
  pub buffer : 0 < bodies → bytes + 5 ≤ capacity
