-- At each moment of a session a call may be cut off: what its disks told then, they tell in front of a device call that
-- fails, or of none.
use Rattle.std.proofs.Common.{◌≡◌, ◌⊎◌, ◌<◌, ◌≤◌, ℕ, zero, suc, Bool, true, false, List, [], ◌∷◌, ◌++◌, length, take, drop, Option, Some, None, Ok, refl, sym, ap, ◌∙◌, subst, inl, inr, arith, append_assoc}
use Rattle.std.specs.Option.{option_map}
use Rattle.std.specs.List.{All}
use Rattle.std.proofs.lemmas.List.Elements.{All-nil, All-cons, All-head, All-tail}
use Rattle.std.proofs.lemmas.Grind.{common_steps}
use Rattle.crash_disk.specs.Disk.{Step, DeviceCall, History, LeavesOnly}
use Rattle.crash_disk.specs.Calls.{WhereTold, passed, failed_after, stopped_after, made_of, after_course}
use Rattle.gate_journal.specs.Image.{most, spelled}
use Rattle.gate_journal.specs.Journal.{IsSettled, KeepsWithOrWithout}
use Rattle.gate_journal.specs.Steps.{append_steps}
use Rattle.gate_journal.proofs.Rest.{settled_rests, course_leaves, appends_settle}
use Rattle.node_journal.specs.Notes.{NotesState}
use Rattle.node_journal.specs.Parts.{Parts, OfLeaves, OfEach}
use Rattle.plasma_base.specs.Causes.{faults_after}
use Rattle.plasma_tx.specs.declared.call.RootCall.{RootCall}
use Rattle.plasma_tx.specs.Views.{blocks}
use Rattle.streamed_lines.specs.declared.TheConstants.{MOST_LINES}
use Rattle.streamed_lines.specs.Streams.{Stream}
use Rattle.streamed_lines.specs.Outside.{WroteFront}
use Rattle.run_endings.specs.Texts.{device_fault_text}
use Rattle.run_endings.specs.declared.status.Status.{Status}
use Rattle.run_endings.specs.declared.status.Status.TheVariants.{WriteFault, NoMemory}
use Rattle.node_answers.specs.Answers.{Outcome}
use Rattle.node_roles.specs.Notes.{NotesAt, with_note}
use Rattle.node_roles.specs.Parts.{with_effect, PartFails, EachFails}
use Rattle.node_roles.specs.Nodes.{NodeAt, keeping, Commands, outcome_at, node_does}
use Rattle.node_sessions.specs.Sessions.{SessionState, begun, calls_of}
use Rattle.node_runs.specs.Disks.{Keeps, MayKeep, opened_at, KeepsNode, NodeFailed}
use Rattle.node_runs.specs.Sessions.{Outside, Begins}
use Rattle.node_runs.specs.Runs.{node_rules, node_found, NodeSession}
use Rattle.node_lives.specs.Disks.{Pair}
use Rattle.node_lives.specs.Calls.{Asked, DoesAsked, Starves}
use Rattle.node_lives.specs.Cuts.{FailsSince}
use Rattle.node_lives.specs.Answered.{lines_answered, Ran, ran_by}
use Rattle.node_lives.specs.Samples.{Drive, told, foretold, met}
use Rattle.node_lives.specs.Moments.{Tells, Appending, TellsAt, Moment, lines_by, IsCutAt}
use Rattle.node_lives.proofs.Own.{left-is}
use Rattle.node_lives.proofs.Sessions.{run-holds}
use Rattle.node_lives.proofs.Drives.{telling}

abbrev pub short : List ℕ → Type 0
short body = length body ≤ most

pub front-fits : (records : List (List ℕ)) (body : List ℕ) → All short (records ++ body ∷ [])
    → All short records × short body
front-fits [] body all = (All-nil short, All-head short body [] all)
front-fits (one ∷ records) body all =
    let rest = front-fits records body (All-tail short one (records ++ body ∷ []) all) in (
      All-cons short one records (All-head short one (records ++ body ∷ []) all) rest.0,
      rest.1,
    )

some-of : {A B : Type 0} (make : A → B) (old : Option A) (new : B) → option_map make old ≡ Some new
    → (one : A) × (old ≡ Some one) × (make one ≡ new)
some-of make None new is = absurd (cc is)
some-of make (Some one) new is = (one, refl, cc is)

-- ---- the last device call failed

pub one-failed : (call : DeviceCall) → call.failed ≡ true
    → All (λ (one : DeviceCall). one.failed ≡ true) (call ∷ [])
one-failed call is =
    All-cons (λ (one : DeviceCall). one.failed ≡ true) call [] is (All-nil (λ (one : DeviceCall). one.failed ≡ true))

stopped-calls : (count : ℕ) (steps : List Step) (calls : List DeviceCall) → count < length steps
    → made_of count (take count steps) calls ≡ drop 1 (made_of count steps calls)
stopped-calls count [] calls few = absurd (omega (arith, few))
stopped-calls zero (step ∷ steps) calls few = refl
stopped-calls (suc count) (step ∷ steps) calls few =
    stopped-calls count steps (record { step = step; failed = false } ∷ calls) (omega (arith, few))

last-failed : (count : ℕ) (steps : List Step) (calls : List DeviceCall) → count < length steps
    → All (λ (call : DeviceCall). call.failed ≡ true) (take 1 (made_of count steps calls))
last-failed count [] calls few = absurd (omega (arith, few))
last-failed zero (step ∷ steps) calls few = one-failed _ refl
last-failed (suc count) (step ∷ steps) calls few =
    last-failed count steps (record { step = step; failed = false } ∷ calls) (omega (arith, few))

-- a disk whose next device call fails
pub next-fails : (count : ℕ) (steps : List Step) (before moment : History) (disk : Drive) → count < length steps
    → moment ≡ after_course (stopped_after count) steps before
    → disk.history ≡ after_course (failed_after count) steps before → FailsSince told moment disk
next-fails count steps before moment disk few is fails = record {
  now = after_course (failed_after count) steps before;
  told_is = ap (λ (h : History). Some h) fails;
  count = 1;
  before =
      is
      ∙ ap (λ (calls : List DeviceCall). record { began = before.began; calls = calls })
      (stopped-calls count steps before.calls few);
  failed = last-failed count steps before.calls few;
}

pub none-since : (disk : Drive) → FailsSince told disk.history disk
none-since disk = record {
  now = disk.history;
  told_is = refl;
  count = 0;
  before = refl;
  failed = All-nil (λ (call : DeviceCall). call.failed ≡ true);
}

-- ---- parts that rest

-- each image of a crash keeps the records of a part that tells, where each has a length that an append takes
abbrev pub Rests : NotesAt → Type 0
Rests at = (history : History) → Tells at history → IsSettled history at.records

pub opened-rests : (notes : NotesState Drive) → WhereTold (told notes.disk) (λ now. IsSettled now notes.records)
    → Rests (opened_at told met notes)
opened-rests notes settled history tells = settled history tells.told_is

note-rests : (at : NotesAt) (added : Option (List ℕ)) → Rests at → Rests (with_note at added)
note-rests at None rests = rests
note-rests at (Some body) rests = λ history tells.
    let there = some-of (after_course passed (append_steps (length (spelled at.records)) body)) at.told history
    tells.told_is in
    let fits = front-fits at.records body tells.fit in
    subst (λ (h : History). IsSettled h (at.records ++ body ∷ [])) there.2
    (appends_settle there.0 at.records body
    (rests there.0 (record { told_is = there.1; fit = fits.0 })) fits.1)

pub record RestEach (parts : Parts NotesAt) : Type 0 where
  pub notes : Rests parts.notes
  pub leaves : (leaves : NotesAt) → parts.leaves ≡ Some leaves → Rests leaves

effect-rests : (parts : Parts NotesAt) (outcome : Outcome) → RestEach parts
    → RestEach (with_effect with_note parts outcome)
effect-rests parts outcome rests = record {
  notes = note-rests parts.notes outcome.note rests.notes;
  leaves = λ leaves is.
      (let there = some-of (λ (l : NotesAt). with_note l outcome.leaf) parts.leaves leaves is in
      subst Rests there.2 (note-rests there.0 outcome.leaf (rests.leaves there.0 there.1)));
}

-- ---- the drives that a call hands back which is broken off there

abbrev drive : History → ℕ → Drive
drive history count = record { history = history; met = count }

keeps-at : (at : NotesAt) (history : History) → Rests at → Tells at history
    → Keeps told met at (drive history at.faults)
keeps-at at history rests tells = grind (arith, common_steps, telling) steps 20000

-- a part that is to tell this
record KeepsPart (leaves : Option NotesAt) (history : Option History) : Type 0 where
  disk : Option Drive
  keeps : OfLeaves (Keeps told met) leaves disk
  since : OfLeaves (FailsSince told) history disk

keeps-part : (leaves : Option NotesAt) (history : Option History)
    → ((one : NotesAt) → leaves ≡ Some one → Rests one) → OfLeaves Tells leaves history → KeepsPart leaves history
keeps-part None None rests tells = record { disk = None; keeps = tt; since = tt }
keeps-part None (Some history) rests tells = absurd tells
keeps-part (Some leaves) None rests tells = absurd tells
keeps-part (Some leaves) (Some history) rests tells = record {
  disk = Some (drive history leaves.faults);
  keeps = keeps-at leaves history (rests leaves refl) tells;
  since = none-since (drive history leaves.faults);
}

record KeepsParts (parts : Parts NotesAt) (at : Parts History) : Type 0 where
  disks : Parts Drive
  keeps : KeepsNode told met parts disks
  since : OfEach (FailsSince told) at disks

keeps-parts : (parts : Parts NotesAt) (at : Parts History) → RestEach parts → OfEach Tells parts at
    → KeepsParts parts at
keeps-parts parts at rests (notes, leaves) =
    let part = keeps-part parts.leaves at.leaves rests.leaves leaves in
    record {
      disks = record { notes = drive at.notes parts.notes.faults; leaves = part.disk };
      keeps = (keeps-at parts.notes at.notes rests.notes notes, part.keeps);
      since = (none-since (drive at.notes parts.notes.faults), part.since);
    }

-- an append whose next device call fails
record FailsPart (body : List ℕ) (at : NotesAt) (history : History) : Type 0 where
  disk : Drive
  fails : MayKeep told met body at disk
  since : FailsSince told history disk

fails-part : (body : List ℕ) (at : NotesAt) (history : History) → Rests at → Appending body at history
    → FailsPart body at history
fails-part body at history rests appending =
    let gate = length (spelled at.records) in
    let there = some-of (after_course (stopped_after appending.made) (append_steps gate body)) at.told history
    appending.told_is in
    let now = after_course (failed_after appending.made) (append_steps gate body) there.0 in
    let settled = rests there.0 (record { told_is = there.1; fit = appending.all_fit }) in
    let base : LeavesOnly there.0 now (KeepsWithOrWithout at.records body) =
    course_leaves there.0 at.records body (settled_rests there.0 at.records settled) appending.fits
    (failed_after appending.made) in
    record {
      disk = drive now (faults_after at.faults true);
      fails = record {
        passed = appending.made;
        few = appending.few;
        told_is =
            sym (ap (option_map (after_course (failed_after appending.made) (append_steps gate body))) there.1);
        any_moment = λ before is behind also.
            (let one : there.0 ≡ before = cc (there.1, is) in
            let two : now ≡ behind = cc also in
            subst (λ (h : History). LeavesOnly h behind (KeepsWithOrWithout at.records body)) one
            (subst (λ (h : History). LeavesOnly there.0 h (KeepsWithOrWithout at.records body)) two base));
        faults_are = refl;
      };
      since =
          next-fails appending.made (append_steps gate body) there.0 history
          (drive now (faults_after at.faults true)) appending.few (sym there.2) refl;
    }

-- the note's append, and the leaf's record's
record FailsNote (added : Option (List ℕ)) (at : NotesAt) (history : History) : Type 0 where
  disk : Drive
  fails : PartFails (MayKeep told met) added (Some at) (Some disk)
  since : FailsSince told history disk

fails-note : (added : Option (List ℕ)) (at : NotesAt) (history : History) → Rests at
    → PartFails Appending added (Some at) (Some history) → FailsNote added at history
fails-note None at history rests appending = absurd appending
fails-note (Some body) at history rests appending =
    let part = fails-part body at history rests appending in
    record { disk = part.disk; fails = part.fails; since = part.since }

record FailsLeaf (added : Option (List ℕ)) (leaves : Option NotesAt) (history : Option History) : Type 0 where
  disk : Option Drive
  fails : PartFails (MayKeep told met) added leaves disk
  since : OfLeaves (FailsSince told) history disk

fails-leaf : (added : Option (List ℕ)) (leaves : Option NotesAt) (history : Option History)
    → ((one : NotesAt) → leaves ≡ Some one → Rests one) → PartFails Appending added leaves history
    → FailsLeaf added leaves history
fails-leaf None leaves history rests appending = absurd appending
fails-leaf (Some body) None history rests appending = absurd appending
fails-leaf (Some body) (Some leaves) None rests appending = absurd appending
fails-leaf (Some body) (Some leaves) (Some history) rests appending =
    let part = fails-part body leaves history (rests leaves refl) appending in
    record { disk = Some part.disk; fails = part.fails; since = part.since }

record FailsParts (outcome : Outcome) (parts : Parts NotesAt) (at : Parts History) : Type 0 where
  disks : Parts Drive
  fails : NodeFailed told met outcome parts disks
  since : OfEach (FailsSince told) at disks

fails-parts : (outcome : Outcome) (parts : Parts NotesAt) (at : Parts History) → RestEach parts
    → EachFails Tells Appending outcome parts at → FailsParts outcome parts at
fails-parts outcome parts at rests (inl (notes, leaves)) =
    let note = fails-note outcome.note parts.notes at.notes rests.notes notes in
    let part = keeps-part parts.leaves at.leaves rests.leaves leaves in
    record {
      disks = record { notes = note.disk; leaves = part.disk };
      fails = inl (note.fails, part.keeps);
      since = (note.since, part.since);
    }
fails-parts outcome parts at rests (inr (notes, leaves)) =
    let noted = with_note parts.notes outcome.note in
    let leaf = fails-leaf outcome.leaf parts.leaves at.leaves rests.leaves leaves in
    record {
      disks = record { notes = drive at.notes noted.faults; leaves = leaf.disk };
      fails =
          inr (keeps-at noted at.notes (note-rests parts.notes outcome.note rests.notes) notes, leaf.fails);
      since = (none-since (drive at.notes noted.faults), leaf.since);
    }

-- a beginning of a text is one of a longer text
pub wrote-more : (before after : Option (List ℕ)) (text more : List ℕ) → WroteFront before after text
    → WroteFront before after (text ++ more)
wrote-more before after text more wrote = record {
  front = wrote.front;
  back = wrote.back ++ more;
  whole = sym (append_assoc wrote.front wrote.back more) ∙ ap (λ (t : List ℕ). t ++ more) wrote.whole;
  wrote = wrote.wrote;
}

-- ---- a cut of a call

module _ (dig : List ℕ → List ℕ) where
  pub cut-at : (asked : Asked) (old new : Pair Drive) (outside : Outside) (status : Status) (ran : Option Ran)
      (notes leaves : History)
      → (did : DoesAsked told foretold met dig asked old new outside status ⊎ Starves old new status)
      → ran_by told foretold met dig asked old new outside status did ≡ ran → FailsSince told notes new.notes
      → FailsSince told leaves new.leaves → IsCutAt dig asked old outside ran notes leaves
  cut-at asked old new outside status ran notes leaves did is fails others = record {
    cut = record {
      call = record { asked = asked; old = old; new = new; outside = outside; status = status; did = did };
      notes = notes;
      leaves = leaves;
      notes_fail = fails;
      leaves_fail = others;
    };
    asked_is = refl;
    old_is = refl;
    outside_is = refl;
    ran_is = is;
    notes_is = refl;
    leaves_is = refl;
  }

-- ---- the session

module _ (dig : List ℕ → List ℕ) {L : Type 0} (commands : Commands L) (opened : Parts (NotesState Drive))
    (starts : RestEach (node_found told foretold met dig opened).kept) where
  step-rests : (log : List RootCall) (at : NodeAt NotesAt) (line : List ℕ) (command : L) (left : NodeAt NotesAt)
      (text : List ℕ) → blocks log ≤ MOST_LINES → commands.command_in line ≡ Some command → RestEach at.kept
      → node_does commands log at command ≡ Ok (left, text) → RestEach left.kept
  step-rests log at line command left text few spells rests did =
      let outcome = outcome_at commands log at command in
      subst (λ (n : NodeAt NotesAt). RestEach n.kept)
      (left-is (keeping at (with_effect with_note at.kept outcome)) outcome.says (left, text) did)
      (effect-rests at.kept outcome rests)

  lines-rest : (bytes : List ℕ) (before : Stream (SessionState (NodeAt NotesAt)))
      → Begins (node_rules told foretold met dig commands opened) (begun (node_found told foretold met dig opened))
      bytes before
      → RestEach before.run.node.kept
  lines-rest bytes before begins =
      (run-holds (commands.tag opened.notes.records) commands.command_in (node_does commands)
      (λ at. RestEach at.kept) step-rests (node_found told foretold met dig opened) begins.front before begins.runs
      starts).node

  module _ (outside : Outside) (bytes : List ℕ) (ended : Bool) (at : Parts History)
      (moment : Moment dig commands opened outside bytes ended at) where
    -- a session that faults broke off there
    pub record Broken : Type 0 where
      pub disks : Parts Drive
      pub status : Status
      pub session : NodeSession told foretold met dig commands opened disks outside (Unit {0}) status
      pub lines : lines_answered session ≡ lines_by dig commands opened moment
      pub since : OfEach (FailsSince told) at disks

    abbrev node : NodeAt NotesAt
    node = moment.before.run.node

    pub broken-session : Broken
    broken-session = by moment.tells
      where
        rests : RestEach node.kept
        rests = lines-rest bytes moment.before moment.begins

        by : TellsAt dig commands opened ended bytes moment.before at → Broken
        by (inl tells) =
            let parts = keeps-parts node.kept at rests tells in
            record {
              disks = parts.disks;
              status = WriteFault;
              session = inr (inr (record {
                bytes = bytes;
                ended = ended;
                stream = moment.before;
                gave = moment.gave;
                begins = moment.begins;
                front = moment.wrote;
                left = parts.keeps;
              }));
              lines = refl;
              since = parts.since;
            }
        by (inr (inl (may, (command, spelled, fails)))) =
            let outcome = outcome_at commands (calls_of moment.before.run.log) node command in
            let parts = fails-parts outcome node.kept at rests fails in
            record {
              disks = parts.disks;
              status = WriteFault;
              session = inr (inl (record {
                bytes = bytes;
                ended = ended;
                stream = moment.before;
                gave = moment.gave;
                begins = moment.begins;
                ends = record {
                  front = wrote-more outside.taken outside.after moment.before.text device_fault_text moment.wrote;
                  fault = λ is. absurd (cc is);
                };
                left = (may, (command, spelled, parts.fails));
              }));
              lines = refl;
              since = parts.since;
            }
        by (inr (inr (may, (command, spelled, tells)))) =
            let outcome = outcome_at commands (calls_of moment.before.run.log) node command in
            let behind = with_effect with_note node.kept outcome in
            let parts = keeps-parts behind at (effect-rests node.kept outcome rests) tells in
            record {
              disks = parts.disks;
              status = NoMemory;
              session = inr (inr (record {
                bytes = bytes;
                ended = ended;
                stream = moment.before;
                gave = moment.gave;
                begins = moment.begins;
                front = moment.wrote;
                left = inr (may, (command, spelled, parts.keeps));
              }));
              lines = refl;
              since = parts.since;
            }
