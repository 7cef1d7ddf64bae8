-- At each moment of a signing's appends, and behind them, it may be cut off.
use Rattle.std.proofs.Common.{◌≡◌, ◌≤◌, ℕ, suc, Bool, true, false, List, [], ◌∷◌, ◌++◌, length, map, take, Option, Some, None, Result, Ok, Err, refl, sym, ap, subst, inl, inr, append_assoc, append-nil, arith}
use Rattle.std.specs.List.{All}
use Rattle.std.proofs.lemmas.Grind.{common_steps}
use Rattle.crash_disk.specs.Disk.{Step, History, MayLeave, LeavesOnly}
use Rattle.crash_disk.specs.Calls.{WhereTold, passed, failed_after, stopped_after, after_course}
use Rattle.gate_journal.specs.Image.{most, spelled}
use Rattle.gate_journal.specs.Journal.{Keeps, IsSettled, KeepsWithOrWithout}
use Rattle.gate_journal.specs.Steps.{append_steps, open_steps}
use Rattle.gate_journal.proofs.Rest.{settled_rests, course_leaves, leaves_now, appends_settle}
use Rattle.gate_journal.specs.declared.refusal.JournalRefusal.TheVariants.{DeviceFault as FaultRefusal}
use Rattle.node_journal.specs.Role.{role_in}
use Rattle.node_journal.specs.Notes.{NotesState, note_steps, AddFailed, Opened}
use Rattle.node_roles.specs.Notes.{NotesAt, with_note}
use Rattle.run_endings.specs.Texts.{device_fault_text}
use Rattle.run_endings.specs.Outputs.{EndsAs}
use Rattle.run_endings.specs.declared.status.Status.TheVariants.{WriteFault}
use Rattle.streamed_lines.specs.Outside.{WroteFront}
use Rattle.node_runs.specs.Endings.{refused_output}
use Rattle.node_runs.specs.Disks.{opened_at}
use Rattle.node_runs.specs.Sessions.{Outside}
use Rattle.hss_keys.specs.declared.entry.Entry.{Entry}
use Rattle.hss_keys.specs.Entries.{entry_text}
use Rattle.hss_keys.specs.Form.{level_records_in}
use Rattle.hss_runs.specs.Identity.{signer_kinds, seed_of}
use Rattle.hss_runs.specs.Signing.{Signing, signing, said_output}
use Rattle.hss_runs.specs.Runs.{KeepsAFront, OpensSigner, AddsAll, FailsToAdd, RunsSigner}
use Rattle.node_lives.specs.Disks.{Pair}
use Rattle.node_lives.specs.Calls.{ToSign}
use Rattle.node_lives.specs.Cuts.{FailsSince}
use Rattle.node_lives.specs.Samples.{Drive, told, foretold, met}
use Rattle.node_lives.specs.Moments.{Tells, Appending, Making}
use Rattle.node_lives.proofs.Drives.{after, made, telling}
use Rattle.node_lives.proofs.CutOpenings.{failing as next_failing, making-fails, opening-refused}
use Rattle.node_lives.proofs.Moments.{short, front-fits, next-fails, none-since, wrote-more}
use Rattle.key_lives.specs.Signers.{SignerRun, signer_run, signer_run_by}
use Rattle.key_lives.specs.Moments.{with_all, AppendingOne, IsSigningCutAt, SigningsMayBeCut}
use Rattle.key_lives.proofs.SignerSample.{adds}

-- open leaves, and as what appends come to
abbrev open_at : Drive → List (List ℕ) → NotesState Drive
open_at disk records = record { disk = disk; closed = false; records = records }

abbrev at : Drive → List (List ℕ) → NotesAt
at disk records = record { records = records; told = Some disk.history; faults = disk.met }

-- with one record more
abbrev more : Drive → List (List ℕ) → List ℕ → Drive
more disk records body = after passed (note_steps records body) false disk

-- ---- the records fit

all-fit : (bodies : List (List ℕ)) (notes : NotesAt) → All short (with_all notes bodies).records
    → All short notes.records
all-fit [] notes all = all
all-fit (body ∷ bodies) notes all =
    (front-fits notes.records body (all-fit bodies (with_note notes (Some body)) all)).0

one-fits : (bodies : List (List ℕ)) (notes : NotesAt) (history : History) → AppendingOne bodies notes history
    → All short notes.records
one-fits [] notes history appending = absurd appending
one-fits (body ∷ bodies) notes history (inl appending) = appending.all_fit
one-fits (body ∷ bodies) notes history (inr rest) =
    (front-fits notes.records body (one-fits bodies (with_note notes (Some body)) history rest)).0

-- ---- all are appended

record Whole (entries : List Entry) (disk : Drive) (records : List (List ℕ)) (history : History) : Type 0 where
  last : NotesState Drive
  adds_all : AddsAll told foretold met entries (open_at disk records) last
  settled : IsSettled last.disk.history (records ++ map entry_text entries)
  is : last.disk.history ≡ history

whole : (entries : List Entry) (disk : Drive) (records : List (List ℕ)) (history : History)
    → IsSettled disk.history records → Tells (with_all (at disk records) (map entry_text entries)) history
    → Whole entries disk records history
whole [] disk records history settled tells = grind (arith, common_steps) steps 20000
whole (entry ∷ entries) disk records history settled tells =
    let body = entry_text entry in
    let fits = (front-fits records body
    (all-fit (map entry_text entries) (with_note (at disk records) (Some body)) tells.fit)).1 in
    let now = appends_settle disk.history records body settled fits in
    let rest = whole entries (more disk records body) (records ++ body ∷ []) history now tells in
    record {
      last = rest.last;
      adds_all = (_, adds disk records body settled fits, rest.adds_all);
      settled =
          subst (IsSettled rest.last.disk.history) (append_assoc records (body ∷ []) (map entry_text entries))
          rest.settled;
      is = rest.is;
    }

-- ---- one's append is under way

record InPart (entries : List Entry) (disk : Drive) (records : List (List ℕ)) (history : History) : Type 0 where
  last : NotesState Drive
  fails : FailsToAdd told foretold met entries (open_at disk records) last
  left : KeepsAFront records (map entry_text entries) (told last.disk)
  since : FailsSince told history last.disk

module _ (entry : Entry) (entries : List Entry) (disk : Drive) (records : List (List ℕ)) (history : History)
    (settled : IsSettled disk.history records) where
  abbrev body : List ℕ
  body = entry_text entry

  abbrev texts : List (List ℕ)
  texts = map entry_text entries

  module _ (appending : Appending body (at disk records) history) where
    abbrev steps : List Step
    steps = append_steps (length (spelled records)) body

    abbrev failing : Drive
    failing = after (failed_after appending.made) (note_steps records body) true disk

    leaves : LeavesOnly disk.history failing.history (KeepsWithOrWithout records body)
    leaves =
        course_leaves disk.history records body (settled_rests disk.history records settled) appending.fits
        (failed_after appending.made)

    first-failed : AddFailed told foretold met body (open_at disk records)
        (record { disk = failing; closed = true; records = records })
    first-failed = record {
      was_open = refl;
      fits = appending.fits;
      passed = appending.made;
      made =
          made (failed_after appending.made) (note_steps records body) 4 true disk
          (appending.few, (λ plan is. absurd (cc is)), refl);
      any_moment =
          telling disk
          (λ before. WhereTold (told failing) (λ now. LeavesOnly before now (KeepsWithOrWithout records body)))
          (telling failing (λ now. LeavesOnly disk.history now (KeepsWithOrWithout records body)) leaves);
      count = refl;
      is_closed = refl;
      records = refl;
    }

    front : (image : List ℕ) → MayLeave failing.history image
        → (count : ℕ) × Keeps (records ++ take count (body ∷ texts)) image
    front image may =
        elim (leaves_now disk.history (failed_after appending.made) steps (KeepsWithOrWithout records body) leaves image
        may) [
          | inl without ↦
              (0, subst (λ (l : List (List ℕ)). Keeps l image) (sym (append-nil records)) without)
          | inr with' ↦ (1, with')
        ]

    in-first : InPart (entry ∷ entries) disk records history
    in-first = record {
      last = record { disk = failing; closed = true; records = records };
      fails = inl first-failed;
      left =
          telling failing (λ now. (image : List ℕ) → MayLeave now image
          → (count : ℕ) × Keeps (records ++ take count (body ∷ texts)) image) front;
      since =
          next-fails appending.made steps disk.history history failing appending.few
          (let same : after_course (stopped_after appending.made) steps disk.history ≡ history =
          cc appending.told_is in sym same) refl;
    }

  in-later : (fits : length body ≤ most) → InPart entries (more disk records body) (records ++ body ∷ []) history
      → InPart (entry ∷ entries) disk records history
  in-later fits rest = record {
    last = rest.last;
    fails = inr (_, adds disk records body settled fits, rest.fails);
    left = λ now is image may.
        (let there = rest.left now is image may in (
          suc there.0,
          subst (λ (l : List (List ℕ)). Keeps l image) (append_assoc records (body ∷ []) (take there.0 texts)) there.1,
        ));
    since = rest.since;
  }

in-part : (entries : List Entry) (disk : Drive) (records : List (List ℕ)) (history : History)
    → IsSettled disk.history records → AppendingOne (map entry_text entries) (at disk records) history
    → InPart entries disk records history
in-part [] disk records history settled appending = absurd appending
in-part (entry ∷ entries) disk records history settled (inl appending) =
    in-first entry entries disk records history settled appending
in-part (entry ∷ entries) disk records history settled (inr rest) =
    let body = entry_text entry in
    let fits = (front-fits records body
    (one-fits (map entry_text entries) (with_note (at disk records) (Some body)) history rest)).1 in
    in-later entry entries disk records history settled fits
    (in-part entries (more disk records body) (records ++ body ∷ []) history
    (appends_settle disk.history records body settled fits) rest)

-- ---- the call

-- what a signing says isn't that the reading failed
says-ends : (says : Result (List ℕ) (List ℕ)) (taken after' : Option (List ℕ))
    → WroteFront taken after' (said_output says).last → EndsAs (said_output says) WriteFault taken after' ⊥
says-ends (Ok text) taken after' wrote = record { front = wrote; fault = λ is. absurd (cc is) }
says-ends (Err cause) taken after' wrote = record { front = wrote; fault = λ is. absurd (cc is) }

module _ (dig : List ℕ → List ℕ) (message : List ℕ) (old : Pair Drive) (outside : Outside) where
  cut-at : (new : Pair Drive) (run : Option SignerRun) (notes leaves : History)
      → (did : RunsSigner told foretold met outside.taken outside.after WriteFault message old.notes old.leaves
      new.notes new.leaves)
      → signer_run told foretold met dig message old new outside WriteFault did ≡ run
      → FailsSince told notes new.notes → FailsSince told leaves new.leaves
      → IsSigningCutAt dig message old outside run notes leaves
  unfolding signer_run_by
  cut-at new run notes leaves did is fails others = record {
    cut = record {
      call = record {
        asked = ToSign message;
        old = old;
        new = new;
        outside = outside;
        status = WriteFault;
        did = inl did;
      };
      notes = notes;
      leaves = leaves;
      notes_fail = fails;
      leaves_fail = others;
    };
    asked_is = refl;
    old_is = refl;
    outside_is = refl;
    run_is = is;
    notes_is = refl;
    leaves_is = refl;
  }

  -- within the openings
  fault-ends : WroteFront outside.taken outside.after []
      → EndsAs (refused_output FaultRefusal) WriteFault outside.taken outside.after ⊥
  fault-ends wrote = record {
    front = wrote-more outside.taken outside.after [] device_fault_text wrote;
    fault = λ is. absurd (cc is);
  }

  notes-cut : (notes : History) → WroteFront outside.taken outside.after [] → Making open_steps old.notes notes
      → IsSigningCutAt dig message old outside None notes old.leaves.history
  unfolding signer_run
  notes-cut notes wrote making =
      cut-at (record { notes = next_failing open_steps making.made old.notes; leaves = old.leaves }) None notes
      old.leaves.history
      (inr (record {
        why = FaultRefusal;
        refuses = inl (opening-refused (role_in signer_kinds) old.notes notes making, refl);
        ends = fault-ends wrote;
      }))
      refl (making-fails open_steps old.notes notes making) (none-since old.leaves)

  leaves-cut : (opened : NotesState Drive) (leaves : History)
      → Opened told foretold met (role_in signer_kinds) old.notes opened → WroteFront outside.taken outside.after []
      → Making open_steps old.leaves leaves → IsSigningCutAt dig message old outside None opened.disk.history leaves
  unfolding signer_run
  leaves-cut opened leaves opens wrote making =
      cut-at (record { notes = opened.disk; leaves = next_failing open_steps making.made old.leaves }) None
      opened.disk.history leaves
      (inr (record {
        why = FaultRefusal;
        refuses = inr (
          opened,
          opens,
          (refl, opening-refused (level_records_in (seed_of opened.records)) old.leaves leaves making),
        );
        ends = fault-ends wrote;
      }))
      refl (none-since opened.disk) (making-fails open_steps old.leaves leaves making)

module _ (dig : List ℕ → List ℕ) (message : List ℕ) (old : Pair Drive) (opened levels : NotesState Drive)
    (outside : Outside) (leaves : History)
    (opens : OpensSigner told foretold met old.notes old.leaves opened levels) where
  abbrev what : Signing
  what = signing (seed_of opened.records) levels.records message

  levels_open : open_at levels.disk levels.records ≡ levels
  levels_open =
      ap (λ (b : Bool). record { disk = levels.disk; closed = b; records = levels.records })
      (sym opens.opens_leaves.is_open)

  levels_settled : IsSettled levels.disk.history levels.records
  levels_settled = opens.opens_leaves.settled levels.disk.history refl

  within-cut : WroteFront outside.taken outside.after []
      → AppendingOne (map entry_text what.adds) (opened_at told met levels) leaves
      → IsSigningCutAt dig message old outside (Some (record {
        seed = seed_of opened.records;
        message = message;
        found = levels.records;
        is_added = false;
      })) opened.disk.history leaves
  unfolding signer_run
  within-cut wrote appending =
      let part = in-part what.adds levels.disk levels.records leaves levels_settled appending in
      cut-at dig message old outside (record { notes = opened.disk; leaves = part.last.disk }) _ opened.disk.history
      leaves
      (inl (record {
        opened = opened;
        levels = levels;
        last = part.last;
        opens = opens;
        notes_are = refl;
        leaves_are = refl;
        signs = inr (inl (record {
          fails =
              subst (λ (n : NotesState Drive). FailsToAdd told foretold met what.adds n part.last) levels_open
              part.fails;
          left = part.left;
          ends = record {
            front = wrote-more outside.taken outside.after [] device_fault_text wrote;
            fault = λ is. absurd (cc is);
          };
        }));
      }))
      refl (none-since opened.disk) part.since

  behind-cut : WroteFront outside.taken outside.after (said_output what.says).last
      → Tells (with_all (opened_at told met levels) (map entry_text what.adds)) leaves
      → IsSigningCutAt dig message old outside (Some (record {
        seed = seed_of opened.records;
        message = message;
        found = levels.records;
        is_added = true;
      })) opened.disk.history leaves
  unfolding signer_run
  behind-cut wrote tells =
      let part = whole what.adds levels.disk levels.records leaves levels_settled tells in
      cut-at dig message old outside (record { notes = opened.disk; leaves = part.last.disk }) _ opened.disk.history
      leaves
      (inl (record {
        opened = opened;
        levels = levels;
        last = part.last;
        opens = opens;
        notes_are = refl;
        leaves_are = refl;
        signs = inl (record {
          adds =
              subst (λ (n : NotesState Drive). AddsAll told foretold met what.adds n part.last) levels_open
              part.adds_all;
          settled =
              telling part.last.disk
              (λ now. IsSettled now (levels.records ++ map entry_text what.adds)) part.settled;
          ends = says-ends what.says outside.taken outside.after wrote;
        });
      }))
      refl (none-since opened.disk)
      (subst (λ (h : History). FailsSince told h part.last.disk) part.is (none-since part.last.disk))

module _ (dig : List ℕ → List ℕ) where
  pub signings_may_be_cut : SigningsMayBeCut dig
  signings_may_be_cut = record {
    notes = λ message old outside notes wrote making. notes-cut dig message old outside notes wrote making;
    leaves = λ message old opened outside leaves opens wrote making.
        leaves-cut dig message old outside opened leaves opens wrote making;
    within = λ message old opened levels outside leaves opens wrote appending.
        within-cut dig message old opened levels outside leaves opens wrote appending;
    behind = λ message old opened levels outside leaves opens wrote tells.
        behind-cut dig message old opened levels outside leaves opens wrote tells;
  }
