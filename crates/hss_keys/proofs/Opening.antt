-- What an opening of a two-level signer did, in the words of a node's notes.
use Rattle.hss_keys.proofs.Words.{◌≡◌, ◌≤◌, ℕ, false, List, Option, Some, Result, Ok, Err, sym, ◌∙◌, ap, subst, arith, result_ok, common_steps, faults_after, History, content, FaultPlan, WhereTold, IsStill, passed, stopped_after, Made, journal_in, open_steps, JournalState, Keeps, IsSettled, RefusesOpen, is_device_fault, fresh_journal, with_spare, Opened, RefusesRole, leaf_count, HssSeed, hss_key_of, entries_of, level_records, level_records_in, level_records_read, leaves_left, LevelRecordsState, IsFormRefusal, IsSound, notes_over, made_still, journal_opened}
use Rattle.gate_journal.specs.declared.refusal.JournalRefusal.{JournalRefusal}
use Rattle.hss_keys.proofs.Counts.{left-most}
use Rattle.hss_keys.proofs.Form.{all_same}
use Rattle.hss_keys.proofs.Lives.{in_image}
use Rattle.hss_keys.proofs.Adding.{opened_kept, reserved_room}

-- what an image keeps is read by the signer's reader
read-refused : (seed : HssSeed) (bodies : List (List ℕ)) (place : ℕ) (r : Result (List (List ℕ)) ℕ)
    → level_records seed bodies ≡ Err place → result_ok r ≡ Some bodies → level_records_read seed r ≡ Err place
read-refused seed bodies place r form is = grind (arith, common_steps) steps 20000

module _ {D : Type 0} (told : D → Option History) (plan : D → Option FaultPlan) (faults : D → ℕ) (seed : HssSeed)
  where
    -- a refusal of the journal's opening
    refuses_level : (old new : D) (why : JournalRefusal) → RefusesOpen journal_in told plan old why new
        → RefusesOpen (level_records_in seed) told plan old why new
    refuses_level old new why did = grind (arith, common_steps) steps 20000

    pub refused_by_journal : {old new : D} (why : JournalRefusal) → RefusesOpen journal_in told plan old why new
        → faults new ≡ faults_after (faults old) (is_device_fault why)
        → RefusesRole told plan faults (level_records_in seed) old why new
    refused_by_journal {old = old} {new = new} why did count =
        record { refused = refuses_level old new why did; count = count }

    stopped : {old new : D} → Made told plan open_steps 3 passed old new
        → Made told plan open_steps 3 (stopped_after 3) old new
    stopped made = record { calls = made.calls; planned = (omega arith, made.planned.0, made.planned.1) }

    -- a refusal by the form of the records, or for want of memory
    refuses_form : {old new : D} (bodies : List (List ℕ)) (why : JournalRefusal) → IsFormRefusal seed bodies why
        → Made told plan open_steps 3 passed old new
        → WhereTold (told old) (λ before. Keeps bodies (content before))
        → RefusesOpen (level_records_in seed) told plan old why new
    refuses_form bodies why form made kept = grind (arith, common_steps, read-refused, stopped) steps 20000

    no_fault : (bodies : List (List ℕ)) (why : JournalRefusal) → IsFormRefusal seed bodies why
        → is_device_fault why ≡ false
    no_fault bodies why form = grind (arith, common_steps) steps 20000

    pub refused_by_form : {old mid new : D} (bodies : List (List ℕ)) (why : JournalRefusal)
        → IsFormRefusal seed bodies why → Made told plan open_steps 3 passed old mid
        → WhereTold (told old) (λ before. Keeps bodies (content before)) → faults mid ≡ faults old
        → IsStill told plan faults mid new → RefusesRole told plan faults (level_records_in seed) old why new
    refused_by_form {old = old} bodies why form made kept count still =
        grind (arith, common_steps, refuses_form, made_still, no_fault) steps 20000

    -- an opening that went through
    module _ (disk : D) (old new : JournalState D) (kept : LevelRecordsState) (bodies : List (List ℕ))
        (of_seed : kept.seed ≡ seed) (read : level_records seed bodies ≡ Ok kept.records)
        (is : new ≡ with_spare (leaf_count kept.seed.bottom) 137 new.disk old)
        (fresh : old ≡ fresh_journal old.disk bodies)
        (settled : WhereTold (told old.disk) (λ now. IsSettled now bodies))
        (still : IsStill told plan faults old.disk new.disk)
      where
        here : level_records kept.seed bodies ≡ Ok kept.records
        here = ap (λ (s : HssSeed). level_records s bodies) of_seed ∙ read

        settled_now : WhereTold (told new.disk) (λ now. IsSettled now bodies)
        settled_now now some = settled now (sym still.same_calls ∙ some)

        pub opened_level : Made told plan open_steps 3 passed disk old.disk
            → WhereTold (told disk) (λ before. Keeps bodies (content before)) → faults old.disk ≡ faults disk
            → Opened told plan faults (level_records_in seed) disk (notes_over new kept.records)
        opened_level made keeps count =
            let same : bodies ≡ kept.records = all_same kept.seed bodies kept.records here in
            let are : level_records seed kept.records ≡ Ok kept.records = ap (level_records seed) (sym same) ∙ read in
            journal_opened told plan faults (level_records_in seed) disk old new kept.records
            (λ image keeps. in_image seed image kept.records keeps are)
            (ap (λ (j : JournalState D). j.closed) is ∙ ap (λ (j : JournalState D). j.closed) fresh) made
            (λ before some. subst (λ (l : List (List ℕ)). Keeps l (content before)) same (keeps before some))
            (subst (λ (l : List (List ℕ)). WhereTold (told old.disk) (λ now. IsSettled now l)) same settled) count still

        pub opened_sound : {key : List ℕ} → key ≡ hss_key_of seed
            → leaves_left kept.seed (entries_of kept.records) ≤ kept.spare → IsSound (told new.disk) new key kept
        opened_sound is_key spare = record {
          key_is = is_key ∙ ap hss_key_of (sym of_seed);
          is_kept = opened_kept told new kept bodies here settled_now (leaf_count kept.seed.bottom) is fresh;
          room = grind (arith, common_steps, reserved_room, left-most) steps 20000;
        }
