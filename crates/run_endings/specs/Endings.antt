-- What a run writes behind the lines that it answered, and its status.
use Rattle.std.specs.Prelude.{ℕ, Bool, true, false, List, []}
use Rattle.streamed_lines.specs.declared.ending.Ending.{Ending}
use Rattle.streamed_lines.specs.declared.ending.Ending.TheVariants.{Complete, BadLine, ReadFault, TooLong, Ended}
use Rattle.streamed_lines.specs.Streams.{Streamed}
use Rattle.run_endings.specs.declared.status.Status.{Status}
use Rattle.run_endings.specs.declared.status.Status.TheVariants.{Done, Refused, BadLine as BadLineStatus, ReadFault as ReadFaultStatus, DeviceFault, TooLong as TooLongStatus}
use Rattle.run_endings.specs.Outputs.{Output}
use Rattle.run_endings.specs.Texts.{bad_line_text, too_long_text, refused_text, read_fault_text, device_fault_text}

-- the status of a session that ended so
abbrev pub status_of : Ending (List ℕ) → Status
status_of Complete = Done
status_of (BadLine n) = BadLineStatus
status_of ReadFault = ReadFaultStatus
status_of (TooLong n) = TooLongStatus
status_of (Ended n cause) = Refused

-- the last line of one: none where all lines were answered
unfoldable pub last_text : Ending (List ℕ) → List ℕ
last_text Complete = []
last_text (BadLine n) = bad_line_text n
last_text ReadFault = read_fault_text
last_text (TooLong n) = too_long_text n
last_text (Ended n cause) = refused_text cause

-- whether it is made for the run: it has a number or a cause
abbrev pub is_composed : Ending (List ℕ) → Bool
is_composed Complete = false
is_composed ReadFault = false
is_composed (BadLine n) = true
is_composed (TooLong n) = true
is_composed (Ended n cause) = true

-- a session: its answers, and what ended it
abbrev pub session_output : {R : Type 0} → Streamed R (List ℕ) → Output
session_output session = record {
  status = status_of session.ending;
  answers = session.stream.text;
  last = last_text session.ending;
}

-- answers behind which a command met a device fault
abbrev pub fault_output : List ℕ → Output
fault_output answers = record { status = DeviceFault; answers = answers; last = device_fault_text }
