-- What the log of the disk in memory stands for.
use Rattle.crash_disk.specs.Memory.{MemState}
use Rattle.crash_disk.specs.declared.log.CallLog.TheInside.{Inside}

-- the state of its disk
abbrev pub log_of : Inside → MemState
log_of log = record {
  history = log.past.history;
  fails = log.faults.fails.items;
  made = log.faults.made;
  fuse = log.faults.fuse;
  faults = log.faults.count;
  room = record { calls = log.room_calls; bytes = log.room_bytes };
}
