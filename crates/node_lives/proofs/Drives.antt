-- The disks of the sample life, one after another, and what they keep.
use Rattle.std.proofs.Common.{◌≡◌, ◌≤◌, ◌++◌, ℕ, Bool, true, false, List, [], ◌∷◌, length, Some, None, refl, subst, lit≤}
use Rattle.std.proofs.lemmas.List.Elements.{All-nil}
use Rattle.plasma_base.specs.Causes.{faults_after}
use Rattle.crash_disk.specs.Disk.{Step, asks_length, History, fresh_history, content, synced_content, with_call}
use Rattle.crash_disk.specs.Calls.{Course, passed, failed_after, after_course, with_made, Made, GoesByPlan}
use Rattle.gate_journal.specs.Image.{most, spelled}
use Rattle.gate_journal.specs.Journal.{IsSettled}
use Rattle.node_journal.specs.Notes.{note_steps}
use Rattle.gate_journal.specs.Steps.{open_steps}
use Rattle.node_journal.specs.Begin.{journal_steps, init_steps}
use Rattle.gate_journal.proofs.Crash.{settled_now}
use Rattle.gate_journal.proofs.Rest.{appends_settle}
use Rattle.leaf_journal.specs.Records.{marker}
use Rattle.node_lives.specs.Samples.{Drive, told, foretold, identity}

-- behind device calls that went so
abbrev pub after : Course → (List ℕ → List Step) → Bool → Drive → Drive
after course steps failed drive = record {
  history = after_course course (steps (content drive.history)) drive.history;
  met = faults_after drive.met failed;
}

-- behind one call, that asks for the length
abbrev pub asked : Bool → Drive → Drive
asked failed drive = record {
  history = with_call asks_length failed drive.history;
  met = faults_after drive.met failed;
}

-- they were made so, and the plan, of which there is none, foretold nothing
pub made : (course : Course) (steps : List ℕ → List Step) (count : ℕ) (failed : Bool) (old : Drive)
    → GoesByPlan count course None None → Made told foretold steps count course old (after course steps failed old)
made course steps count failed old goes = record { calls = refl; planned = goes }

pub all-passed : (count : ℕ) → GoesByPlan count passed None None
all-passed count = (λ plan is. absurd (cc is), refl)

-- what a disk tells is its history
pub telling : (drive : Drive) (P : History → Type 0) → P drive.history → (before : History)
    → told drive ≡ Some before → P before
telling drive P holds before is = (let same : drive.history ≡ before = cc is in subst P same holds)

-- ---- the disks

abbrev pub blank : Drive
blank = record { history = fresh_history []; met = 0 }

-- the first init isn't told the length; the second one makes both journals
abbrev pub stopped_notes : Drive
stopped_notes = asked true blank

abbrev pub begun_notes : Drive
begun_notes = after passed (init_steps identity) false (asked false stopped_notes)

abbrev pub begun_leaves : Drive
begun_leaves = after passed journal_steps false blank

-- each run opens both
abbrev pub opened : Drive → Drive
opened drive = after passed open_steps false drive

-- the first one's marker meets a fault as its gate is opened
abbrev pub faulted_leaves : Drive
faulted_leaves = after (failed_after 2) (note_steps [] marker) true (opened begun_leaves)

-- a crash leaves the bytes of the last sync
abbrev pub crashed : Drive → Drive
crashed drive = record { history = fresh_history (synced_content drive.history); met = 0 }

abbrev pub crashed_notes : Drive
crashed_notes = crashed (opened begun_notes)

abbrev pub crashed_leaves : Drive
crashed_leaves = crashed faulted_leaves

-- the second one adds its marker
abbrev pub marked_leaves : Drive
marked_leaves = after passed (note_steps [] marker) false (opened crashed_leaves)

-- ---- what they keep

-- a disk that is opened keeps the same
pub opened_settled : (drive : Drive) (records : List (List ℕ)) → IsSettled drive.history records
    → IsSettled (opened drive).history records
opened_settled drive records settled = settled_now _ records (record {
  gate = settled.kept.gate;
  rest = settled.kept.rest;
  is = settled.kept.is;
  closed = settled.kept.closed;
  fits = settled.kept.fits;
}) refl

-- a journal that was just made
pub made_settled : (history : History) → content (with_made 6 (journal_steps []) history) ≡ spelled [] ++ 0 ∷ []
    → IsSettled (with_made 6 (journal_steps []) history) []
made_settled history is = settled_now _ [] (record {
  gate = 0;
  rest = [];
  is = is;
  closed = refl;
  fits = All-nil (λ body. length body ≤ most);
}) refl

pub begun_notes_settled : IsSettled begun_notes.history (identity ∷ [])
begun_notes_settled =
    appends_settle (with_made 6 (journal_steps []) (asked false stopped_notes).history) [] identity
    (made_settled (asked false stopped_notes).history refl) (lit≤ tt)

pub begun_leaves_settled : IsSettled begun_leaves.history []
begun_leaves_settled = made_settled blank.history refl

pub crashed_notes_settled : IsSettled crashed_notes.history (identity ∷ [])
crashed_notes_settled =
    let before = opened_settled begun_notes (identity ∷ []) begun_notes_settled in
    settled_now _ (identity ∷ []) (record {
      gate = before.kept.gate;
      rest = before.kept.rest;
      is = before.kept.is;
      closed = before.kept.closed;
      fits = before.kept.fits;
    }) refl

pub crashed_leaves_settled : IsSettled crashed_leaves.history []
crashed_leaves_settled = settled_now _ [] (record {
  gate = 0;
  rest = 0 ∷ 0 ∷ 0 ∷ 4 ∷ 80 ∷ 71 ∷ 76 ∷ 50 ∷ 0 ∷ [];
  is = refl;
  closed = refl;
  fits = All-nil (λ body. length body ≤ most);
}) refl

pub marked_leaves_settled : IsSettled marked_leaves.history (marker ∷ [])
marked_leaves_settled =
    appends_settle (opened crashed_leaves).history [] marker (opened_settled crashed_leaves [] crashed_leaves_settled)
    (lit≤ tt)
