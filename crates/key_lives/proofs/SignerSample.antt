-- A small life of a two-level signer is one: each of its calls did what its clause says.
use Rattle.std.proofs.Common.{◌≡◌, ◌≤◌, ℕ, true, false, List, [], ◌∷◌, ◌++◌, length, replicate, map, take, codes, Some, Result, Ok, refl, sym, ap, ◌∙◌, subst, inl, inr, arith}
use Rattle.crash_disk.specs.Disk.{Step, content, synced_content, MayLeave, LeavesOnly}
use Rattle.crash_disk.specs.Calls.{WhereTold, passed, failed_after}
use Rattle.crash_disk.specs.declared.outcome.Outcome.TheVariants.{Old}
use Rattle.crash_disk.proofs.Images.{outcomes}
use Rattle.gate_journal.specs.Image.{most, spelled, journal_in}
use Rattle.gate_journal.specs.Journal.{Keeps, IsSettled, KeepsWithOrWithout}
use Rattle.gate_journal.specs.Steps.{open_steps, append_steps}
use Rattle.gate_journal.proofs.Crash.{settled_now}
use Rattle.gate_journal.proofs.Rest.{settled_rests, course_leaves, leaves_now, appends_settle}
use Rattle.node_journal.specs.Begin.{is_taken, journal_steps, init_steps, PassesInit}
use Rattle.node_journal.specs.Notes.{NotesState, note_steps, KeepsAtAnyMoment, Opened, Added, AddFailed}
use Rattle.node_journal.specs.Role.{are_of, role_in}
use Rattle.std.proofs.lemmas.List.Elements.{All-nil}
use Rattle.std.proofs.lemmas.Grind.{common_steps}
use Rattle.lms_sign.specs.Types.{height}
use Rattle.run_endings.specs.Texts.{device_fault_text}
use Rattle.run_endings.specs.declared.status.Status.{Status}
use Rattle.run_endings.specs.declared.status.Status.TheVariants.{Done, DeviceFault}
use Rattle.node_runs.specs.Inits.{InitsPair}
use Rattle.node_runs.specs.Sessions.{Outside}
use Rattle.hss_keys.specs.declared.seed.HssSeed.{HssSeed}
use Rattle.hss_keys.specs.declared.entry.Entry.{Entry}
use Rattle.hss_keys.specs.declared.entry.Entry.TheVariants.{Opens, Binds}
use Rattle.hss_keys.specs.Keys.{bottom_key}
use Rattle.hss_keys.specs.Entries.{entry_text, IsEntry}
use Rattle.hss_keys.specs.Form.{level_records_in, level_records_read}
use Rattle.hss_keys.specs.Levels.{bound_of}
use Rattle.hss_keys.proofs.Spelling.{entries_are_read_back, text-short}
use Rattle.hss_keys.proofs.Form.{none_are}
use Rattle.hss_runs.specs.declared.next.NextLeaf.{NextLeaf}
use Rattle.hss_runs.specs.Identity.{identity_text, seed_in, seed_of, signer_kinds}
use Rattle.run_endings.specs.Outputs.{EndsAs}
use Rattle.hss_runs.specs.Signing.{Signing, next_leaf, signs, signing, signed_text, said_output}
use Rattle.hss_runs.specs.Runs.{AddsAll, FailsToAdd, OpensSigner, Signs, SignerRan}
use Rattle.node_lives.specs.Disks.{Pair, Stays, Crashed}
use Rattle.node_lives.specs.Calls.{Asked, BothDisks, ToBegin, ToSign, DoesAsked}
use Rattle.node_lives.specs.Lives.{IsLife}
use Rattle.node_lives.specs.Samples.{Drive, told, foretold, met, DriveCall}
use Rattle.node_lives.proofs.Roles.{ok-of, role-found}
use Rattle.node_lives.proofs.Drives.{after, asked, made, all-passed, telling, blank, opened, crashed, opened_settled, made_settled, begun_leaves, begun_leaves_settled}
use Rattle.key_lives.specs.Signers.{signer_run, signer_run_by}
use Rattle.key_lives.specs.SignerSample.{seed, key, message, SmallSignerLife}
use Rattle.key_lives.proofs.Growth.{length-bottom, signing-next}

-- ---- the disks

abbrev sid : List ℕ
sid = 49 ∷ replicate 32 0

abbrev begun_notes : Drive
begun_notes = after passed (init_steps sid) false (asked false blank)

-- what opens a bottom key, and what binds the message to its first leaf
abbrev opening : Entry
opening = Opens 0 (bottom_key key 0)

abbrev binding : Entry
binding = Binds 0 0 message

opening_fits : length (entry_text opening) ≤ most
opening_fits =
    let is : IsEntry opening = (omega arith, length-bottom seed 0) in
    omega (arith, text-short opening (entry_text opening) (entries_are_read_back opening is))

binding_fits : length (entry_text binding) ≤ most
binding_fits =
    let is : IsEntry binding = (omega arith, omega arith, omega arith, omega arith) in
    omega (arith, text-short binding (entry_text binding) (entries_are_read_back binding is))

abbrev faulted_leaves : Drive
faulted_leaves = after (failed_after 0) (note_steps [] (entry_text opening)) true (opened begun_leaves)

abbrev crashed_notes : Drive
crashed_notes = crashed (opened begun_notes)

abbrev crashed_leaves : Drive
crashed_leaves = crashed faulted_leaves

abbrev opened_leaves : Drive
opened_leaves = after passed (note_steps [] (entry_text opening)) false (opened crashed_leaves)

abbrev signed_leaves : Drive
signed_leaves = after passed (note_steps (entry_text opening ∷ []) (entry_text binding)) false opened_leaves

begun_notes_settled : IsSettled begun_notes.history (sid ∷ [])
begun_notes_settled =
    appends_settle _ [] sid (made_settled (asked false blank).history refl) (omega arith)

crashed_notes_settled : IsSettled crashed_notes.history (sid ∷ [])
crashed_notes_settled =
    let before = opened_settled begun_notes (sid ∷ []) begun_notes_settled in
    settled_now _ (sid ∷ []) (record {
      gate = before.kept.gate;
      rest = before.kept.rest;
      is = before.kept.is;
      closed = before.kept.closed;
      fits = before.kept.fits;
    }) refl

crashed_leaves_settled : IsSettled crashed_leaves.history []
crashed_leaves_settled = settled_now _ [] (record {
  gate = 0;
  rest = [];
  is = refl;
  closed = refl;
  fits = All-nil (λ body. length body ≤ most);
}) refl

opened_leaves_settled : IsSettled opened_leaves.history (entry_text opening ∷ [])
opened_leaves_settled =
    appends_settle (opened crashed_leaves).history [] (entry_text opening)
    (opened_settled crashed_leaves [] crashed_leaves_settled) opening_fits

signed_leaves_settled : IsSettled signed_leaves.history (entry_text opening ∷ entry_text binding ∷ [])
signed_leaves_settled =
    appends_settle opened_leaves.history (entry_text opening ∷ []) (entry_text binding) opened_leaves_settled
    binding_fits

-- ---- the init

pub passes_init : (steps : List ℕ → List Step) (drive : Drive) → is_taken (content drive.history) ≡ false
    → PassesInit told foretold met steps drive (after passed steps false drive)
passes_init steps drive free = grind (arith, common_steps, telling, after, made, all-passed) steps 20000

init_passes : InitsPair told foretold met (Some []) (Some (codes "made" ++ 10 ∷ [])) Done sid blank blank begun_notes
    begun_leaves
init_passes = record {
  answer = Ok tt;
  inits = (
    asked false blank,
    record {
      called = record { history = refl; fails = λ plan is. absurd (cc is); goes_on = refl };
      count = refl;
    },
    (passes_init (init_steps sid) (asked false blank) refl, passes_init journal_steps blank refl),
  );
  begun = telling begun_notes (λ now. IsSettled now (sid ∷ [])) begun_notes_settled;
  empty = telling begun_leaves (λ now. IsSettled now []) begun_leaves_settled;
  ends = (refl, refl);
}

-- ---- the openings

signer_are : are_of signer_kinds (sid ∷ []) ≡ true
unfolding seed_in
signer_are = refl

seed_is : seed_of (sid ∷ []) ≡ key
unfolding seed_of seed_in
seed_is = refl

pub opens_part : (read : List ℕ → Result (List (List ℕ)) ℕ) (drive : Drive) (records : List (List ℕ))
    → IsSettled drive.history records → read (content drive.history) ≡ Ok records
    → Opened told foretold met read drive (record { disk = opened drive; closed = false; records = records })
opens_part read drive records settled reads = record {
  kept = telling drive (λ before. read (content before) ≡ Ok records) reads;
  made = made passed open_steps 3 false drive (all-passed 3);
  count = refl;
  is_open = refl;
  settled = telling (opened drive) (λ now. IsSettled now records) (opened_settled drive records settled);
}

abbrev notes_of : Drive → NotesState Drive
notes_of notes = record { disk = opened notes; closed = false; records = sid ∷ [] }

abbrev leaves_of : Drive → NotesState Drive
leaves_of leaves = record { disk = opened leaves; closed = false; records = [] }

opens : (notes leaves : Drive) → IsSettled notes.history (sid ∷ []) → IsSettled leaves.history []
    → OpensSigner told foretold met notes leaves (notes_of notes) (leaves_of leaves)
opens notes leaves settled empty = record {
  opens_notes =
      opens_part (role_in signer_kinds) notes (sid ∷ []) settled
      (role-found signer_kinds (content notes.history) (sid ∷ []) settled.read signer_are);
  opens_leaves =
      opens_part (level_records_in (seed_of (sid ∷ []))) leaves [] empty
      (ap (level_records_read (seed_of (sid ∷ []))) (ok-of (journal_in (content leaves.history)) [] empty.read)
      ∙ none_are (seed_of (sid ∷ [])));
}

-- ---- the signings

abbrev next : NextLeaf
next = record { top_leaf = 0; leaf = 0; opens = true }

next_is : next_leaf (seed_of (sid ∷ [])) [] ≡ Some next
unfolding height seed_of seed_in
next_is = refl

signing_is : signing (seed_of (sid ∷ [])) [] message ≡ signs key message next
signing_is =
    signing-next (seed_of (sid ∷ [])) [] message next refl next_is
    ∙ ap (λ (s : HssSeed). signs s message next) seed_is

moments : (old : Drive) (records : List (List ℕ)) (body : List ℕ) → IsSettled old.history records
    → length body ≤ most
    → KeepsAtAnyMoment records body (told old) (told (after passed (note_steps records body) false old))
moments old records body settled fits =
    telling old
    (λ before. WhereTold (told (after passed (note_steps records body) false old))
    (λ now. LeavesOnly before now (KeepsWithOrWithout records body)))
    (telling (after passed (note_steps records body) false old)
    (λ now. LeavesOnly old.history now (KeepsWithOrWithout records body))
    (course_leaves old.history records body (settled_rests old.history records settled) fits passed))

pub adds : (old : Drive) (records : List (List ℕ)) (body : List ℕ) → IsSettled old.history records → length body ≤ most
    → Added told foretold met body (record { disk = old; closed = false; records = records })
    (record {
      disk = after passed (note_steps records body) false old;
      closed = false;
      records = records ++ body ∷ [];
    })
adds old records body settled fits = record {
  was_open = refl;
  fits = fits;
  made = made passed (note_steps records body) 4 false old (all-passed 4);
  any_moment = moments old records body settled fits;
  count = refl;
  is_open = refl;
  records = refl;
  settled =
      telling (after passed (note_steps records body) false old) (λ now. IsSettled now (records ++ body ∷ []))
      (appends_settle old.history records body settled fits);
}

abbrev failed : NotesState Drive
failed = record { disk = faulted_leaves; closed = true; records = [] }

abbrev last : NotesState Drive
last = record { disk = signed_leaves; closed = false; records = entry_text opening ∷ entry_text binding ∷ [] }

-- the first device call of the key's append fails
fails_first : AddFailed told foretold met (entry_text opening) (leaves_of begun_leaves) failed
fails_first =
    let settled = opened_settled begun_leaves [] begun_leaves_settled in
    record {
      was_open = refl;
      fits = opening_fits;
      passed = 0;
      made = made (failed_after 0) (note_steps [] (entry_text opening)) 4 true (opened begun_leaves)
          (omega arith, (λ plan is. absurd (cc is)), refl);
      any_moment =
          telling (opened begun_leaves)
          (λ before. WhereTold (told faulted_leaves)
          (λ now. LeavesOnly before now (KeepsWithOrWithout [] (entry_text opening))))
          (telling faulted_leaves
          (λ now. LeavesOnly (opened begun_leaves).history now (KeepsWithOrWithout [] (entry_text opening)))
          (course_leaves (opened begun_leaves).history [] (entry_text opening)
          (settled_rests (opened begun_leaves).history [] settled) opening_fits (failed_after 0)));
      count = refl;
      is_closed = refl;
      records = refl;
    }

abbrev outside : List ℕ → Outside
outside text = record { left = Some []; later = Some []; taken = Some []; after = Some text }

fails_in : Signs told foretold met (Some []) (Some device_fault_text) DeviceFault
    (signing (seed_of (sid ∷ [])) [] message) (leaves_of begun_leaves) failed
fails_in =
    let settled = opened_settled begun_leaves [] begun_leaves_settled in
    inr (inl (record {
      fails =
          subst (λ (w : Signing). FailsToAdd told foretold met w.adds (leaves_of begun_leaves) failed)
          (sym signing_is) (inl fails_first);
      left =
          subst (λ (w : Signing). WhereTold (told faulted_leaves) (λ now. (image : List ℕ) → MayLeave now image
          → (count : ℕ) × Keeps ([] ++ take count (map entry_text w.adds)) image)) (sym signing_is)
          (telling faulted_leaves (λ now. (image : List ℕ) → MayLeave now image
          → (count : ℕ)
          × Keeps ([] ++ take count (entry_text opening ∷ entry_text binding ∷ [])) image)
          (λ image may. elim (leaves_now (opened begun_leaves).history (failed_after 0)
          (append_steps (length (spelled [])) (entry_text opening)) (KeepsWithOrWithout [] (entry_text opening))
          (course_leaves (opened begun_leaves).history [] (entry_text opening)
          (settled_rests (opened begun_leaves).history [] settled) opening_fits (failed_after 0)) image may) [
            | inl without ↦ (0, without)
            | inr with' ↦ (1, with')
          ]));
      ends = (refl, refl);
    }))

signs_in : Signs told foretold met (Some []) (Some (signed_text key 0 0 message)) Done
    (signing (seed_of (sid ∷ [])) [] message) (leaves_of crashed_leaves) last
signs_in = inl (record {
  adds =
      subst (λ (w : Signing). AddsAll told foretold met w.adds (leaves_of crashed_leaves) last) (sym signing_is) (
        _,
        adds (opened crashed_leaves) [] (entry_text opening) (opened_settled crashed_leaves [] crashed_leaves_settled)
            opening_fits,
        (
          _,
          adds opened_leaves (entry_text opening ∷ []) (entry_text binding) opened_leaves_settled binding_fits,
          refl,
        ),
      );
  settled =
      subst (λ (w : Signing). WhereTold (told signed_leaves) (λ now. IsSettled now ([] ++ map entry_text w.adds)))
      (sym signing_is)
      (telling signed_leaves (λ now. IsSettled now (entry_text opening ∷ entry_text binding ∷ []))
      signed_leaves_settled);
  ends =
      subst (λ (w : Signing). EndsAs (said_output w.says) Done (Some []) (Some (signed_text key 0 0 message)) ⊥)
      (sym signing_is) (refl, refl);
})

ran : (notes leaves : Drive) (after' : NotesState Drive) (text : List ℕ) (status : Status)
    → IsSettled notes.history (sid ∷ []) → IsSettled leaves.history []
    → Signs told foretold met (Some []) (Some text) status (signing (seed_of (sid ∷ [])) [] message) (leaves_of leaves)
    after'
    → SignerRan told foretold met (Some []) (Some text) status message notes leaves (opened notes) after'.disk
ran notes leaves after' text status settled empty signed = record {
  opened = notes_of notes;
  levels = leaves_of leaves;
  last = after';
  opens = opens notes leaves settled empty;
  notes_are = refl;
  leaves_are = refl;
  signs = signed;
}

-- ---- the life

module _ (dig : List ℕ → List ℕ) where
  abbrev pair : Drive → Drive → Pair Drive
  pair notes leaves = record { notes = notes; leaves = leaves }

  abbrev call_of : (asked : Asked) (old new : Pair Drive) (text : List ℕ) (status : Status)
      → DoesAsked told foretold met dig asked old new (outside text) status → DriveCall dig
  call_of asked old new text status did = record {
    asked = asked;
    old = old;
    new = new;
    outside = outside text;
    status = status;
    did = inl did;
  }

  pub small_signer_life : SmallSignerLife dig
  unfolding IsLife signer_run signer_run_by identity_text ran signs_in
  small_signer_life = record {
    begun =
        call_of (ToBegin BothDisks sid) (pair blank blank) (pair begun_notes begun_leaves) (codes "made" ++ 10 ∷ []) Done
        init_passes;
    faulted =
        call_of (ToSign message) (pair begun_notes begun_leaves) (pair (opened begun_notes) faulted_leaves)
        device_fault_text DeviceFault
        (inl (ran begun_notes begun_leaves failed device_fault_text DeviceFault begun_notes_settled
        begun_leaves_settled fails_in));
    signed =
        call_of (ToSign message) (pair crashed_notes crashed_leaves) (pair (opened crashed_notes) signed_leaves)
        (signed_text key 0 0 message) Done
        (inl (ran crashed_notes crashed_leaves last (signed_text key 0 0 message) Done crashed_notes_settled
        crashed_leaves_settled signs_in));
    life = (
      (refl, refl),
      (
        Crashed (opened begun_notes).history (synced_content (opened begun_notes).history) refl
            (outcomes Old (opened begun_notes).history) refl,
        Crashed faulted_leaves.history (synced_content faulted_leaves.history) refl
            (outcomes Old faulted_leaves.history) refl,
      ),
      ((refl, refl), (Stays refl, Stays refl), ((refl, refl), tt, tt)),
    );
    begins = record { seed = seed; long = refl; asked = refl; made = refl };
    faulted_is = record { asked_is = refl; status_is = refl; begins = refl; wrote = refl };
    signed_is = record { asked_is = refl; status_is = refl; begins = refl; wrote = refl };
    signs = record {
      run = record { seed = seed_of (sid ∷ []); message = message; found = []; is_added = true };
      is = refl;
      added = refl;
      signable = refl;
      next = next;
      next_is = next_is;
      bound_is = ap (λ (s : HssSeed). bound_of s 0 0 message) (sym seed_is);
    };
  }
