-- The statuses of a run: their numbers, and what they say of its sink and its source.
use Rattle.std.specs.Prelude.{ℕ, Bool, true, false}
use Rattle.plasma_outside.specs.declared.sink.SinkRefusal.{SinkRefusal}
use Rattle.plasma_outside.specs.declared.sink.SinkRefusal.TheVariants.{Failed, NoMemory as WantsMemory}
use Rattle.run_endings.specs.declared.status.Status.{Status}
use Rattle.run_endings.specs.declared.status.Status.TheVariants.{Done, Refused, Usage, BadLine, ReadFault, WriteFault, DeviceFault, NoMemory, TooLong, NotJournal, AlreadyMade}

-- the exit status
abbrev pub code_of : Status → ℕ
code_of Done = 0
code_of Refused = 1
code_of Usage = 2
code_of BadLine = 3
code_of ReadFault = 4
code_of WriteFault = 5
code_of DeviceFault = 6
code_of NoMemory = 7
code_of TooLong = 8
code_of NotJournal = 9
code_of AlreadyMade = 10

-- the status of what stopped the writing
abbrev pub status_of_refusal : SinkRefusal → Status
status_of_refusal Failed = WriteFault
status_of_refusal WantsMemory = NoMemory

-- whether a status says that the sink failed
abbrev pub is_write_fault : Status → Bool
is_write_fault WriteFault = true
is_write_fault Done = false
is_write_fault Refused = false
is_write_fault Usage = false
is_write_fault BadLine = false
is_write_fault ReadFault = false
is_write_fault DeviceFault = false
is_write_fault NoMemory = false
is_write_fault TooLong = false
is_write_fault NotJournal = false
is_write_fault AlreadyMade = false

-- What a status says of the reading: it failed, or it didn't. Where the text wasn't written to the end, it may have
-- failed or not.
abbrev pub ReadsBy : Status → (Bool → Type 0) → Type 0
ReadsBy ReadFault Reads = Reads true
ReadsBy WriteFault Reads = (failed : Bool) × Reads failed
ReadsBy NoMemory Reads = (failed : Bool) × Reads failed
ReadsBy Done Reads = Reads false
ReadsBy Refused Reads = Reads false
ReadsBy Usage Reads = Reads false
ReadsBy BadLine Reads = Reads false
ReadsBy DeviceFault Reads = Reads false
ReadsBy TooLong Reads = Reads false
ReadsBy NotJournal Reads = Reads false
ReadsBy AlreadyMade Reads = Reads false

-- What a status says of a node's disks: they met a fault, or they met none. Where the text wasn't written to the end,
-- they may have met one or not.
abbrev pub FaultsBy : Status → (Bool → Type 0) → Type 0
FaultsBy DeviceFault Met = Met true
FaultsBy WriteFault Met = (fault : Bool) × Met fault
FaultsBy NoMemory Met = (fault : Bool) × Met fault
FaultsBy Done Met = Met false
FaultsBy Refused Met = Met false
FaultsBy Usage Met = Met false
FaultsBy BadLine Met = Met false
FaultsBy ReadFault Met = Met false
FaultsBy TooLong Met = Met false
FaultsBy NotJournal Met = Met false
FaultsBy AlreadyMade Met = Met false

-- the run was done, or something failed that it stands on: the source, the sink, a disk or memory
abbrev pub IsDoneUnlessFailed : Status → Type 0
IsDoneUnlessFailed Done = Unit {0}
IsDoneUnlessFailed ReadFault = Unit {0}
IsDoneUnlessFailed WriteFault = Unit {0}
IsDoneUnlessFailed DeviceFault = Unit {0}
IsDoneUnlessFailed NoMemory = Unit {0}
IsDoneUnlessFailed status = ⊥
