-- What a session of a node does, from its first line to its last.
use Rattle.std.specs.Prelude.{◌≡◌, ◌⊎◌, ℕ, Bool, List, ◌++◌, Option, Some}
use Rattle.plasma_tx.specs.declared.call.RootCall.{RootCall}
use Rattle.streamed_lines.specs.{Streams.{Rules, Stream, Streamed, stream_of}, Bounds.{TakesFew}, Outside.{Gave, WroteFront}, Reading.{RunsTo, MayBeAnswered, next_text}}
use Rattle.node_sessions.specs.Sessions.{SessionState, begun, calls_of, commanded}
use Rattle.run_endings.specs.{declared.status.Status.{Status}, declared.status.Status.TheVariants.{WriteFault, NoMemory}, Outputs.{EndsAs}, Endings.{session_output, fault_output}}

-- what the source of a run had left and its sink had taken, before and after, where they tell it
pub record Outside : Type 0 where
  pub left : Option (List ℕ)
  pub later : Option (List ℕ)
  pub taken : Option (List ℕ)
  pub after : Option (List ℕ)

-- lines with which these bytes begin were answered, and this is their stream
pub record Begins {R C : Type 0} (rules : Rules R C) (first : R) (bytes : List ℕ) (stream : Stream R) : Type 0 where
  pub front : List ℕ
  pub rest : List ℕ
  pub whole : bytes ≡ front ++ rest
  pub runs : RunsTo rules first front stream

-- The next line behind a session may be answered, and spells a command, and with that this holds.
abbrev pub AtNext : {A L : Type 0} → (List ℕ → Option L) → Bool → List ℕ → Stream (SessionState A)
    → (List RootCall → A → L → Type 0) → Type 0
AtNext {L = L} command_in ended bytes stream Holds =
    MayBeAnswered ended bytes stream
    × ((command : L) × (commanded command_in stream.run (next_text bytes stream) ≡ Some command)
    × Holds (calls_of stream.run.log) stream.run.node command)

-- where the disks of a node are behind a session that was broken off with this status: as what its commands came to; or
-- behind the next command, which was done, and whose answer was lost for want of memory
module _ {A L : Type 0} (command_in : List ℕ → Option L) (Left : A → Type 0)
    (Unanswered : List RootCall → A → L → Type 0) where
  abbrev pub BrokenAt : Status → Bool → List ℕ → Stream (SessionState A) → Type 0
  BrokenAt WriteFault ended bytes stream = Left stream.run.node
  BrokenAt NoMemory ended bytes stream = Left stream.run.node ⊎ AtNext command_in ended bytes stream Unanswered
  BrokenAt status ended bytes stream = ⊥

-- By these rules, over a node that the run found here and whose commands are read so. Its disks are handed back as what
-- commands came to; or behind a command that met a device fault; or behind one that was done, and whose answer was lost
-- for want of memory.
module _ {A L : Type 0} (rules : Rules (SessionState A) (List ℕ)) (command_in : List ℕ → Option L) (found : A)
    (Left : A → Type 0) (Faulted Unanswered : List RootCall → A → L → Type 0) where
  -- the session of an input
  abbrev pub session_of : List ℕ → Bool → Streamed (SessionState A) (List ℕ)
  session_of bytes ended = stream_of rules (begun found) bytes ended

  -- `failed` says that the reading failed
  module _ (outside : Outside) (failed : Type 0) (status : Status) where
    -- The session of the bytes that the source gave was answered, up to what ended it: the run has the status and the
    -- text of this, or of a text that was stopped wrote a beginning. Few bytes were taken behind a line that ended it.
    -- The disks are left as the answered lines left them.
    pub record Answered : Type 0 where
      pub bytes : List ℕ
      pub ended : Bool
      pub gave : Gave outside.left outside.later bytes ended
      pub ends : EndsAs (session_output (session_of bytes ended)) status outside.taken outside.after failed
      pub few : TakesFew bytes (session_of bytes ended).ending
      pub left : Left (session_of bytes ended).stream.run.node

    -- Lines were answered, and the command of the next one met a device fault.
    pub record Faults : Type 0 where
      pub bytes : List ℕ
      pub ended : Bool
      pub stream : Stream (SessionState A)
      pub gave : Gave outside.left outside.later bytes ended
      pub begins : Begins rules (begun found) bytes stream
      pub ends : EndsAs (fault_output stream.text) status outside.taken outside.after ⊥
      pub left : AtNext command_in ended bytes stream Faulted

    -- Lines were answered, a beginning of whose answers was written, and then the sink refused or memory ran out.
    pub record BreaksOff : Type 0 where
      pub bytes : List ℕ
      pub ended : Bool
      pub stream : Stream (SessionState A)
      pub gave : Gave outside.left outside.later bytes ended
      pub begins : Begins rules (begun found) bytes stream
      pub front : WroteFront outside.taken outside.after stream.text
      pub left : BrokenAt command_in Left Unanswered status ended bytes stream

    -- what a session with this status did
    abbrev pub RunsSession : Type 0
    RunsSession = Answered ⊎ Faults ⊎ BreaksOff

-- the same of a session in which no command met a device fault
abbrev pub RunsUnfailed : {A L : Type 0} → Rules (SessionState A) (List ℕ) → (List ℕ → Option L) → A → (A → Type 0)
    → (List RootCall → A → L → Type 0) → Outside → Type 0 → Status → Type 0
RunsUnfailed rules command_in found Left Unanswered outside failed status =
    RunsSession rules command_in found Left (λ log at command. ⊥) Unanswered outside failed status
