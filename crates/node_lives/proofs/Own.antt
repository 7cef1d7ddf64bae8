-- What a session's lines leave of a node whose commands keep what is asked of its records: such records, which go on
-- behind the first ones, and disks that keep them.
use Rattle.std.proofs.Common.{◌≡◌, ◌≤◌, ◌⊎◌, ℕ, Bool, false, List, Option, Some, None, is_some, Result, Ok, Err, refl, sym, ap, subst, inl, inr, arith}
use Rattle.std.proofs.lemmas.Grind.{common_steps}
use Rattle.crash_disk.specs.Disk.{History, FaultPlan}
use Rattle.plasma_tx.specs.declared.call.RootCall.{RootCall}
use Rattle.plasma_tx.specs.Views.{blocks}
use Rattle.gate_journal.specs.Life.{Continue}
use Rattle.node_journal.specs.Notes.{NotesState}
use Rattle.gate_journal.proofs.Lives.{itself, one_more}
use Rattle.node_rules.specs.Wallet.{WalletRecords}
use Rattle.streamed_lines.specs.declared.TheConstants.{MOST_LINES}
use Rattle.streamed_lines.specs.Streams.{Stream}
use Rattle.streamed_lines.specs.Reading.{next_text}
use Rattle.run_endings.specs.declared.status.Status.{Status}
use Rattle.node_replies.specs.Orders.{with_record}
use Rattle.node_answers.specs.Answers.{Outcome}
use Rattle.node_roles.specs.Notes.{NotesAt, with_note}
use Rattle.node_journal.specs.Parts.{Parts}
use Rattle.node_roles.specs.Parts.{with_effect}
use Rattle.node_roles.specs.Nodes.{NodeAt, keeping, records_at, Commands, left_with, outcome_at, node_does}
use Rattle.node_roles.specs.Roles.{wallet_records}
use Rattle.node_sessions.specs.Sessions.{SessionState, calls_of}
use Rattle.node_runs.specs.Disks.{KeepsNode, NodeFailed}
use Rattle.node_runs.specs.Sessions.{Outside, AtNext, BrokenAt}
use Rattle.node_runs.specs.Runs.{node_found, NodeSession}
use Rattle.node_lives.specs.Standing.{GoOn}
use Rattle.node_lives.specs.Answered.{kept_at, lines_answered}
use Rattle.node_lives.proofs.Lines.{may-few}
use Rattle.node_lives.proofs.Stays.{further}
use Rattle.node_lives.proofs.Sessions.{session-holds, run-holds, spelled-in}

-- ---- records that go on

pub all-same : (records : WalletRecords) → GoOn records records
all-same records = record { notes = itself records.notes; leaves = itself records.leaves }

pub both-on : (first old now : WalletRecords) → GoOn first old → GoOn old now → GoOn first now
both-on first old now on more = grind (arith, common_steps, further) steps 20000

-- with what a command adds
abbrev pub with_added : WalletRecords → Option (List ℕ) → Option (List ℕ) → WalletRecords
with_added records note leaf =
    record { notes = with_record records.notes note; leaves = with_record records.leaves leaf }

pub more-on : (first records : List (List ℕ)) (added : Option (List ℕ)) → Continue first records
    → Continue first (with_record records added)
more-on first records None on = on
more-on first records (Some body) on = one_more first records body on

pub adds-on : (first records : WalletRecords) (note leaf : Option (List ℕ)) → GoOn first records
    → GoOn first (with_added records note leaf)
adds-on first records note leaf on = grind (arith, common_steps, more-on) steps 20000

pub noted : (at : NotesAt) (added : Option (List ℕ)) → (with_note at added).records ≡ with_record at.records added
noted at None = refl
noted at (Some body) = refl

-- the records of these parts
abbrev pub records_with : NotesAt → Option NotesAt → WalletRecords
records_with notes leaves = wallet_records (records_at (record { notes = notes; leaves = leaves }))

-- what holds of records with what a command adds holds of the node with it; without leaves it has the note alone
pub with-added : (P : WalletRecords → Type 0) (kept : Parts NotesAt) (outcome : Outcome)
    → (is_some kept.leaves ≡ false → P (with_added (wallet_records (records_at kept)) outcome.note None))
    → P (with_added (wallet_records (records_at kept)) outcome.note outcome.leaf)
    → P (wallet_records (records_at (with_effect with_note kept outcome)))
with-added P kept outcome = grind (arith, common_steps, noted) steps 20000

-- where an answered command leaves a node
pub left-is : {A : Type 0} (now : A) (says : Result (List ℕ) (List ℕ)) (left : A × List ℕ)
    → left_with now says ≡ Ok left → now ≡ left.0
left-is now (Err cause) left is = absurd (cc is)
left-is {A} now (Ok said) left is = (let pair : (now, said) ≡ left = cc is in ap (λ (p : A × List ℕ). p.0) pair)

-- a session that was broken off left the node where its lines did, or behind the next command
broken-left : {A L : Type 0} (command_in : List ℕ → Option L) (Left : A → Type 0)
    (Unanswered : List RootCall → A → L → Type 0) (status : Status) (ended : Bool) (bytes : List ℕ)
    (stream : Stream (SessionState A)) → BrokenAt command_in Left Unanswered status ended bytes stream
    → Left stream.run.node ⊎ AtNext command_in ended bytes stream Unanswered
broken-left command_in Left Unanswered status ended bytes stream is = grind (arith, common_steps) steps 150000

-- ---- records of which something is asked

-- with a command's note they are so still, and with its leaf's record too
pub record Grows (Good : WalletRecords → Type 0) (records : WalletRecords) (outcome : Outcome) : Type 0 where
  pub noted : Good (with_added records outcome.note None)
  pub both : Good (with_added records outcome.note outcome.leaf)

module _ (dig : List ℕ → List ℕ) (Good : WalletRecords → Type 0) where
  -- a node's records are so, and go on behind the first ones
  pub record IsOwn (first : WalletRecords) (at : NodeAt NotesAt) : Type 0 where
    pub dig_is : at.dig ≡ dig
    pub good : Good (kept_at at)
    pub on : GoOn first (kept_at at)

  -- its own records as the first ones
  pub anew : (first : WalletRecords) (at : NodeAt NotesAt) → IsOwn first at → IsOwn (kept_at at) at
  anew first at own = record { dig_is = own.dig_is; good = own.good; on = all-same (kept_at at) }

  -- a node behind a session, whose records stay so far as this says
  pub record Leaves (Stays : WalletRecords → Type 0) (first : WalletRecords) (at : NodeAt NotesAt) : Type 0 where
    pub own : IsOwn first at
    pub stays : Stays (kept_at at)

  -- each command that a line spells keeps them so
  abbrev pub Growing : {L : Type 0} → Commands L → Type 0
  Growing {L = L} commands =
      (log : List RootCall) (parts : Parts (List (List ℕ))) (line : List ℕ) (command : L)
      → blocks log ≤ MOST_LINES → commands.command_in line ≡ Some command → Good (wallet_records parts)
      → Grows Good (wallet_records parts) (commands.comes_to dig log parts command)

  module _ {L : Type 0} (commands : Commands L) (growing : Growing commands) where
    own-grows : (first : WalletRecords) (log : List RootCall) (at : NodeAt NotesAt) (line : List ℕ) (command : L)
        → blocks log ≤ MOST_LINES → commands.command_in line ≡ Some command → IsOwn first at
        → Grows Good (kept_at at) (outcome_at commands log at command)
    own-grows first log at line command few spells own =
        subst
        (λ (d : List ℕ → List ℕ). Grows Good (kept_at at) (commands.comes_to d log (records_at at.kept) command))
        (sym own.dig_is) (growing log (records_at at.kept) line command few spells own.good)

    -- where a command leaves a node that is done
    abbrev pub behind : List RootCall → NodeAt NotesAt → L → NodeAt NotesAt
    behind log at command = keeping at (with_effect with_note at.kept (outcome_at commands log at command))

    own-with : (first : WalletRecords) (log : List RootCall) (at : NodeAt NotesAt) (line : List ℕ) (command : L)
        → blocks log ≤ MOST_LINES → commands.command_in line ≡ Some command → IsOwn first at
        → IsOwn first (behind log at command)
    own-with first log at line command few spells own =
        let outcome = outcome_at commands log at command in
        let grows = own-grows first log at line command few spells own in
        record {
          dig_is = own.dig_is;
          good = with-added Good at.kept outcome (λ none. grows.noted) grows.both;
          on =
              with-added (GoOn first) at.kept outcome
              (λ none. adds-on first (kept_at at) outcome.note None own.on)
              (adds-on first (kept_at at) outcome.note outcome.leaf own.on);
        }

    pub own-step : (first : WalletRecords) (log : List RootCall) (at : NodeAt NotesAt) (line : List ℕ) (command : L)
        (left : NodeAt NotesAt) (text : List ℕ) → blocks log ≤ MOST_LINES
        → commands.command_in line ≡ Some command → IsOwn first at
        → node_does commands log at command ≡ Ok (left, text) → IsOwn first left
    own-step first log at line command left text few spells own did =
        subst (IsOwn first) (left-is (behind log at command) (outcome_at commands log at command).says (left, text) did)
        (own-with first log at line command few spells own)

    -- Over disks of which something is to stay with records: it does where they are handed back with them, or behind a
    -- fault of a command.
    module _ {D : Type 0} (told : D → Option History) (plan : D → Option FaultPlan) (faults : D → ℕ) (disks : Parts D)
        (Stays : WalletRecords → Type 0)
        (earlier : (one other : WalletRecords) → GoOn one other → Stays other → Stays one)
        (kept : (at : Parts NotesAt) → Good (wallet_records (records_at at)) → KeepsNode told faults at disks
        → Stays (wallet_records (records_at at)))
        (fails : (at : Parts NotesAt) (outcome : Outcome) → Good (wallet_records (records_at at))
        → Grows Good (wallet_records (records_at at)) outcome → NodeFailed told faults outcome at disks
        → Stays (wallet_records (records_at at)))
        (opened : Parts (NotesState D)) (outside : Outside) (failed : Type 0) (status : Status)
        (first : WalletRecords) (starts : IsOwn first (node_found told plan faults dig opened)) where
      abbrev Session : Type 0
      Session = NodeSession told plan faults dig commands opened disks outside failed status

      abbrev Unanswered : List RootCall → NodeAt NotesAt → L → Type 0
      Unanswered log at line = KeepsNode told faults (behind log at line).kept disks

      broken-stays : (ended : Bool) (bytes : List ℕ) (stream : Stream (SessionState (NodeAt NotesAt)))
          → IsOwn first stream.run.node → blocks (calls_of stream.run.log) ≤ stream.count
          → KeepsNode told faults stream.run.node.kept disks
          ⊎ AtNext commands.command_in ended bytes stream Unanswered
          → Stays (kept_at stream.run.node)
      broken-stays ended bytes stream here few (inl is) = kept stream.run.node.kept here.good is
      broken-stays ended bytes stream here few (inr (may, (command, spells, is))) =
          let at = stream.run.node in
          let more = own-with (kept_at at) (calls_of stream.run.log) at (next_text bytes stream) command
          (omega (arith, few, may-few ended bytes stream may))
          (spelled-in commands.command_in stream.run (next_text bytes stream) command spells) (anew first at here) in
          let next = behind (calls_of stream.run.log) at command in
          earlier (kept_at at) (kept_at next) more.on (kept next.kept more.good is)

      pub session-leaves : (session : Session) → Leaves Stays first (lines_answered session).stream.run.node
      session-leaves (inl answered) =
          let holds = session-holds (commands.tag opened.notes.records) commands.command_in (node_does commands)
          (IsOwn first) (own-step first) (node_found told plan faults dig opened) answered.bytes answered.ended starts
          in
          record { own = holds.node; stays = kept _ holds.node.good answered.left }
      session-leaves (inr (inl faulted)) =
          let stream = faulted.stream in
          let at = stream.run.node in
          let line = next_text faulted.bytes stream in
          let holds = run-holds (commands.tag opened.notes.records) commands.command_in (node_does commands)
          (IsOwn first) (own-step first) (node_found told plan faults dig opened) faulted.begins.front stream
          faulted.begins.runs starts in
          record {
            own = holds.node;
            stays =
                fails at.kept _ holds.node.good
                (own-grows first (calls_of stream.run.log) at line faulted.left.1.0
                (omega (arith, holds.few, may-few faulted.ended faulted.bytes stream faulted.left.0))
                (spelled-in commands.command_in stream.run line faulted.left.1.0 faulted.left.1.1) holds.node)
                faulted.left.1.2;
          }
      session-leaves (inr (inr broken)) =
          let holds = run-holds (commands.tag opened.notes.records) commands.command_in (node_does commands)
          (IsOwn first) (own-step first) (node_found told plan faults dig opened) broken.begins.front broken.stream
          broken.begins.runs starts in
          record {
            own = holds.node;
            stays =
                broken-stays broken.ended broken.bytes broken.stream holds.node holds.few
                (broken-left commands.command_in (λ at. KeepsNode told faults at.kept disks) Unanswered status
                broken.ended broken.bytes broken.stream broken.left);
          }
