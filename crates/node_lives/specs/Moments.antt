-- The moments of a call, told without a fault: of an init before each of its device calls; of a run within the openings
-- of its disks, and in its session behind lines that it answered, within the appends of the next command, or behind
-- these; and at the end. At each of them a call may be cut off. Over drives, whose faults to come are any.
use Rattle.std.specs.Prelude.{◌≡◌, ◌⊎◌, ◌≤◌, ◌<◌, ℕ, Bool, false, List, [], length, Option, Some, None}
use Rattle.std.specs.List.{All}
use Rattle.crash_disk.specs.{Disk.{Step, History, content}, Calls.{stopped_after, after_course}}
use Rattle.gate_journal.specs.{Image.{most}, Steps.{open_steps}}
use Rattle.node_journal.specs.{Begin.{is_taken, journal_steps, init_steps, IsAsked, PassesInit, IsLong, IsShort}, Notes.{NotesState, Opened}, Role.{role_in}, Parts.{Parts, alone, both, OfEach}}
use Rattle.node_rules.specs.Watcher.{watcher_kinds}
use Rattle.operator_rules.specs.Records.{operator_kinds, who_is}
use Rattle.wallet_node.specs.{State.{WalletState}, Opening.{OpensNotes, OpensWallet}}
use Rattle.node_replies.specs.Roles.{Role, Wallet, Watcher, Operator}
use Rattle.node_roles.specs.{Notes.{NotesAt, told_after, with_note}, Parts.{with_effect, EachFails}, Nodes.{NodeAt, Commands, outcome_at}, Roles.{watcher_commands, wallet_commands, operator_commands, desk_commands, wallet_parts}}
use Rattle.node_sessions.specs.Sessions.{SessionState, begun}
use Rattle.streamed_lines.specs.{Streams.{Stream}, Outside.{Gave, WroteFront}}
use Rattle.node_runs.specs.{Sessions.{Outside, Begins, AtNext}, Runs.{node_rules, node_found}, Operators.{desk_records_in}}
use Rattle.node_lives.specs.{Disks.{Pair}, Calls.{Asked, NotesAlone, BothDisks, ToBegin, ToRun}, Cuts.{Cut}, Answered.{Lines, Ran, ran_with, ran_in}, Samples.{Drive, told, foretold, met, DriveCall}}

-- A part's disk tells this. Each record has a length that an append takes.
pub record Tells (at : NotesAt) (history : History) : Type 0 where
  pub told_is : at.told ≡ Some history
  pub fit : All (λ body. length body ≤ most) at.records

-- of the four device calls of the append of this record so many were made, and not all
pub record Appending (body : List ℕ) (at : NotesAt) (history : History) : Type 0 where
  pub fits : length body ≤ most
  pub all_fit : All (λ one. length one ≤ most) at.records
  pub made : ℕ
  pub few : made < 4
  pub told_is : told_after (stopped_after made) at body ≡ Some history

-- of these device calls, over what the disk held, so many were made, and not all
pub record Making (steps : List ℕ → List Step) (old : Drive) (history : History) : Type 0 where
  pub made : ℕ
  pub few : made < length (steps (content old.history))
  pub told_is : history ≡ after_course (stopped_after made) (steps (content old.history)) old.history

-- nothing was read or written
pub record DoesNothing (outside : Outside) : Type 0 where
  pub gave : Gave outside.left outside.later [] false
  pub wrote : WroteFront outside.taken outside.after []

-- under a digest
module _ (dig : List ℕ → List ℕ) where
  module _ {L : Type 0} (commands : Commands L) (opened : Parts (NotesState Drive)) where
    -- what the disks told behind lines, or within the next command's appends, or behind them: its note's append comes
    -- first, and then that of its leaf's record
    abbrev pub TellsAt : Bool → List ℕ → Stream (SessionState (NodeAt NotesAt)) → Parts History → Type 0
    TellsAt ended bytes before disks =
        OfEach Tells before.run.node.kept disks
        ⊎ AtNext commands.command_in ended bytes before
        (λ log at line. EachFails Tells Appending (outcome_at commands log at line) at.kept disks)
        ⊎ AtNext commands.command_in ended bytes before
        (λ log at line. OfEach Tells (with_effect with_note at.kept (outcome_at commands log at line)) disks)

    -- A moment of a session of these bytes, by which lines were answered, and a beginning of their answers was written.
    pub record Moment (outside : Outside) (bytes : List ℕ) (ended : Bool) (disks : Parts History) : Type 0 where
      pub before : Stream (SessionState (NodeAt NotesAt))
      pub begins : Begins (node_rules told foretold met dig commands opened)
          (begun (node_found told foretold met dig opened)) bytes before
      pub gave : Gave outside.left outside.later bytes ended
      pub wrote : WroteFront outside.taken outside.after before.text
      pub tells : TellsAt ended bytes before disks

    abbrev pub lines_by : {outside : Outside} {bytes : List ℕ} {ended : Bool} {disks : Parts History}
        → Moment outside bytes ended disks → Lines (NodeAt NotesAt)
    lines_by {bytes = bytes} moment = record { bytes = bytes; stream = moment.before }

  -- a call that was asked for this on these disks, did this outside, answered these lines, if it was opened, and was
  -- cut off as its disks told this
  pub record IsCutAt (asked : Asked) (old : Pair Drive) (outside : Outside) (ran : Option Ran) (notes leaves : History)
      : Type 0 where
    pub cut : Cut told foretold met dig
    pub asked_is : cut.call.asked ≡ asked
    pub old_is : cut.call.old ≡ old
    pub outside_is : cut.call.outside ≡ outside
    pub ran_is : ran_in told foretold met dig cut.call ≡ ran
    pub notes_is : cut.notes ≡ notes
    pub leaves_is : cut.leaves ≡ leaves

  -- A call that ended may be cut off at its end.
  abbrev pub EndsMayBeCut : Type 0
  EndsMayBeCut = (call : DriveCall dig)
      → IsCutAt call.asked call.old call.outside (ran_in told foretold met dig call) call.new.notes.history
      call.new.leaves.history

  -- An init may be cut off before each of its device calls. Of one of both disks: before the notes are asked for their
  -- length; behind that, where they are long, as their journal is opened, as that of the leaves is made or opened, and
  -- as the identity is appended to the notes; and where they are short, as the leaves' journal is made or opened, and
  -- as the notes' one is, with the identity.
  pub record InitsMayBeCut : Type 0 where
    pub alone : (identity : List ℕ) (old : Pair Drive) (outside : Outside) (notes : History) → DoesNothing outside
        → Making (init_steps identity) old.notes notes
        → IsCutAt (ToBegin NotesAlone identity) old outside None notes old.leaves.history
    pub unasked : (identity : List ℕ) (old : Pair Drive) (outside : Outside) → DoesNothing outside
        → IsCutAt (ToBegin BothDisks identity) old outside None old.notes.history old.leaves.history
    pub long_notes : (identity : List ℕ) (old : Pair Drive) (asked : Drive) (outside : Outside) (notes : History)
        → DoesNothing outside → IsAsked told foretold met old.notes asked → IsLong (told asked)
        → Making journal_steps asked notes
        → IsCutAt (ToBegin BothDisks identity) old outside None notes old.leaves.history
    pub leaves_behind : (identity : List ℕ) (old : Pair Drive) (asked opened : Drive) (outside : Outside)
        (leaves : History) → DoesNothing outside → IsAsked told foretold met old.notes asked → IsLong (told asked)
        → PassesInit told foretold met journal_steps asked opened → Making journal_steps old.leaves leaves
        → IsCutAt (ToBegin BothDisks identity) old outside None opened.history leaves
    pub identity_behind : (identity : List ℕ) (old : Pair Drive) (asked leaves : Drive) (outside : Outside)
        (notes : History) → DoesNothing outside → IsAsked told foretold met old.notes asked → IsLong (told asked)
        → is_taken (content asked.history) ≡ false → PassesInit told foretold met journal_steps old.leaves leaves
        → (making : Making (init_steps identity) asked notes)
        → length (journal_steps (content asked.history)) ≤ making.made
        → IsCutAt (ToBegin BothDisks identity) old outside None notes leaves.history
    pub leaves_first : (identity : List ℕ) (old : Pair Drive) (asked : Drive) (outside : Outside) (leaves : History)
        → DoesNothing outside → IsAsked told foretold met old.notes asked → IsShort (told asked)
        → Making journal_steps old.leaves leaves
        → IsCutAt (ToBegin BothDisks identity) old outside None asked.history leaves
    pub notes_behind : (identity : List ℕ) (old : Pair Drive) (asked leaves : Drive) (outside : Outside)
        (notes : History) → DoesNothing outside → IsAsked told foretold met old.notes asked → IsShort (told asked)
        → PassesInit told foretold met journal_steps old.leaves leaves → Making (init_steps identity) asked notes
        → IsCutAt (ToBegin BothDisks identity) old outside None notes leaves.history

  -- A run of each role may be cut off within the opening of its notes, and within that of its leaves behind it.
  pub record OpeningsMayBeCut : Type 0 where
    pub notes : (role : Role) (old : Pair Drive) (outside : Outside) (notes : History) → DoesNothing outside
        → Making open_steps old.notes notes → IsCutAt (ToRun role) old outside None notes old.leaves.history
    pub wallet : (old : Pair Drive) (opened : NotesState Drive) (outside : Outside) (leaves : History)
        → OpensNotes told foretold met dig old.notes opened → DoesNothing outside → Making open_steps old.leaves leaves
        → IsCutAt (ToRun Wallet) old outside None opened.disk.history leaves
    pub desk : (old : Pair Drive) (opened : NotesState Drive) (seed : List ℕ) (outside : Outside) (leaves : History)
        → Opened told foretold met (role_in operator_kinds) old.notes opened
        → (who_is opened.records).key_seed ≡ Some seed → DoesNothing outside → Making open_steps old.leaves leaves
        → IsCutAt (ToRun Operator) old outside None opened.disk.history leaves

  -- Behind an opening that went through a run may be cut off at each moment of its session.
  pub record SessionsMayBeCut : Type 0 where
    pub wallet : (old : Pair Drive) (opened : WalletState Drive (Unit {0})) (outside : Outside) (bytes : List ℕ)
        (ended : Bool) (notes leaves : History) → OpensWallet told foretold met dig old.notes old.leaves opened
        → (moment : Moment wallet_commands (wallet_parts opened) outside bytes ended (both notes leaves))
        → IsCutAt (ToRun Wallet) old outside (Some (ran_with (wallet_parts opened) (lines_by wallet_commands
        (wallet_parts opened) moment))) notes leaves
    pub watcher : (old : Pair Drive) (opened : NotesState Drive) (outside : Outside) (bytes : List ℕ) (ended : Bool)
        (notes : History) → Opened told foretold met (role_in (watcher_kinds dig)) old.notes opened
        → (moment : Moment watcher_commands (alone opened) outside bytes ended (alone notes))
        → IsCutAt (ToRun Watcher) old outside (Some (ran_with (alone opened) (lines_by watcher_commands (alone opened)
        moment))) notes old.leaves.history
    pub operator : (old : Pair Drive) (opened : NotesState Drive) (outside : Outside) (bytes : List ℕ) (ended : Bool)
        (notes : History) → Opened told foretold met (role_in operator_kinds) old.notes opened
        → (who_is opened.records).key_seed ≡ None
        → (moment : Moment operator_commands (alone opened) outside bytes ended (alone notes))
        → IsCutAt (ToRun Operator) old outside (Some (ran_with (alone opened) (lines_by operator_commands (alone opened)
        moment))) notes old.leaves.history
    pub desk : (old : Pair Drive) (opened keys : NotesState Drive) (seed : List ℕ) (outside : Outside)
        (bytes : List ℕ) (ended : Bool) (notes leaves : History)
        → Opened told foretold met (role_in operator_kinds) old.notes opened
        → (who_is opened.records).key_seed ≡ Some seed
        → Opened told foretold met (desk_records_in seed) old.leaves keys
        → (moment : Moment desk_commands (both opened keys) outside bytes ended (both notes leaves))
        → IsCutAt (ToRun Operator) old outside (Some (ran_with (both opened keys) (lines_by desk_commands
        (both opened keys) moment))) notes leaves
