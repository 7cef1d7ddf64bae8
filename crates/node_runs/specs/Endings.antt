-- What a run of a node writes whose disks are not opened or not begun, and what one writes of an init.
use Rattle.std.specs.Prelude.{[], ◌∷◌, ◌++◌, codes, Result, Ok, Err}
use Rattle.gate_journal.specs.{declared.refusal.JournalRefusal.{JournalRefusal}, declared.refusal.JournalRefusal.TheVariants.{NotJournal as NotJournalRefusal, DeviceFault as DeviceRefusal}, declared.refusal.InitRefusal.{InitRefusal}}
use Rattle.gate_journal.specs.declared.refusal.InitRefusal.TheVariants.{AlreadyMade as InitMade, DeviceFault as InitFault, NoMemory as InitNoMemory}
use Rattle.run_endings.specs.{declared.status.Status.TheVariants.{Done, NoMemory, NotJournal, AlreadyMade}, Outputs.{Output}, Texts.{not_journal_text, already_made_text}, Endings.{fault_output}}

-- an opening that was refused
abbrev pub refused_output : JournalRefusal → Output
refused_output (NotJournalRefusal place) = record { status = NotJournal; answers = []; last = not_journal_text place }
refused_output DeviceRefusal = fault_output []
refused_output why = record { status = NoMemory; answers = []; last = [] }

-- an init that was refused
abbrev pub refused_init : InitRefusal → Output
refused_init (InitMade length) = record { status = AlreadyMade; answers = []; last = already_made_text length }
refused_init InitFault = fault_output []
refused_init InitNoMemory = record { status = NoMemory; answers = []; last = [] }

-- an init that was answered so
abbrev pub init_output : Result Unit InitRefusal → Output
init_output (Ok done) = record { status = Done; answers = []; last = codes "made" ++ 10 ∷ [] }
init_output (Err why) = refused_init why
