-- What callers see of a watcher, and what stops its commands.
use Rattle.std.specs.Prelude.{Option, Some, None, Result, Ok, Err}
use Rattle.node_journal.specs.declared.stop.Stop.{Stop}
use Rattle.node_journal.specs.declared.stop.Stop.TheVariants.{Closed, NoMemory, DeviceFault}
use Rattle.node_rules.specs.declared.refusal.WatcherRefusal.{WatcherRefusal}
use Rattle.node_rules.specs.declared.refusal.WatcherRefusal.TheVariants.{Closed as RefusedClosed, NoMemory as RefusedMemory, DeviceFault as RefusedFault}

-- what stopped a command that was refused for this: its definition says nothing of these three
abbrev pub stop_in : WatcherRefusal → Option Stop
stop_in RefusedClosed = Some Closed
stop_in RefusedMemory = Some NoMemory
stop_in RefusedFault = Some DeviceFault
stop_in why = None

-- what stopped a command of a watcher, if anything did
abbrev pub watcher_stop : {T : Type 0} → Result T WatcherRefusal → Option Stop
watcher_stop (Ok done) = None
watcher_stop (Err why) = stop_in why
