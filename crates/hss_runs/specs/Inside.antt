-- What functions inside this crate do.
use Rattle.node_journal.specs.declared.stop.Stop.{Stop}
use Rattle.node_journal.specs.declared.stop.Stop.TheVariants.{Closed as StopClosed, NoMemory as StopNoMemory, DeviceFault as StopFault}
use Rattle.hss_keys.specs.declared.refusal.LevelRefusal.{LevelRefusal}
use Rattle.hss_keys.specs.declared.refusal.LevelRefusal.TheVariants.{Closed, DeviceFault}

-- what stopped a call that was refused for another cause than those of its definition
abbrev pub stop_in : LevelRefusal → Stop
stop_in DeviceFault = StopFault
stop_in Closed = StopClosed
stop_in why = StopNoMemory
