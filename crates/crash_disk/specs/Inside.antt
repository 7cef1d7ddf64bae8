-- What the disk in memory keeps, and how it stands for its state.
use Rattle.std.specs.Prelude.{◌≡◌, ◌≤◌, ◌+◌, length, vec_len}
use Rattle.std.specs.Vec.{vec_capacity}
use Rattle.crash_disk.specs.Disk.{content, synced_content, unsynced_ranges}
use Rattle.crash_disk.specs.Memory.{MemState}
use Rattle.crash_disk.specs.Undo.{undone, IsUndoable}
use Rattle.crash_disk.specs.declared.memory.MemDisk.TheInside.{Inside}

-- the state that its log tells
abbrev pub state_of : Inside → MemState
state_of disk = disk.log

-- The lists stand for what the calls left: with the writes since the sync undone, the bytes are those as of it. And
-- there is memory for the room that is left.
pub record IsWhole (disk : Inside) : Type 0 where
  pub holds : disk.bytes.items ≡ content disk.log.history
  pub ranges : disk.unsynced.items ≡ unsynced_ranges disk.log.history
  pub starts : vec_len disk.starts ≡ vec_len disk.unsynced
  pub undoable : IsUndoable (length disk.unsynced.items) disk.unsynced.items disk.starts.items disk.replaced.items
      disk.bytes.items
  pub synced : undone (length disk.unsynced.items) disk.unsynced.items disk.starts.items disk.replaced.items
      disk.bytes.items ≡ synced_content disk.log.history
  pub ranges_room : vec_len disk.unsynced + disk.log.room.calls ≤ vec_capacity disk.unsynced
  pub starts_room : vec_len disk.starts + disk.log.room.calls ≤ vec_capacity disk.starts
  pub bytes_room : vec_len disk.bytes + disk.log.room.bytes ≤ vec_capacity disk.bytes
  pub replaced_room : vec_len disk.replaced + disk.log.room.bytes ≤ vec_capacity disk.replaced
