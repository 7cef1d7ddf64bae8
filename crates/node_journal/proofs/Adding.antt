-- What an append to the journal of notes is for the notes.
use Rattle.node_journal.proofs.Words.{◌≡◌, ◌≤◌, ℕ, true, false, List, [], ◌∷◌, ◌++◌, length, Option, Some, Err, ◌∙◌, ap, arith, common_steps, faults_after, History, content, FaultPlan, WhereTold, most, JournalState, Keeps, IsSettled, Appended, Appends, is_device_fault, JournalRefusal, AlreadyMade, NotJournal, RecordTooLong, DeviceFault, Closed, NoMemory, Kinds, are_of, may_follow, Added, Did, IsSound, stop_of}
use Rattle.node_journal.proofs.Keeping.{notes_over, AnyMoment, settled_now, went, met}
use Rattle.node_journal.proofs.Roles.{notes_follow}
use Rattle.node_journal.proofs.Spelling.{length-spelled-push}

module _ {D : Type 0} (kinds : Kinds) (told : D → Option History) (plan : D → Option FaultPlan) (faults : D → ℕ)
    (body : List ℕ) (old new : JournalState D) (records : List (List ℕ))
    (sound : IsSound kinds (told old.disk) old.closed old.gate records) (any : AnyMoment told body old new) where
  -- one that went through
  module _ (appended : Appended told plan body old new)
      (kept : WhereTold (told old.disk) (λ before. (keeps : List (List ℕ)) → Keeps keeps (content before)
      → WhereTold (told new.disk) (λ now. IsSettled now (keeps ++ body ∷ [])))) (more : List (List ℕ))
      (same : more ≡ records ++ body ∷ []) where
    pub note_went : faults new.disk ≡ faults old.disk
        → Added told plan faults body (notes_over old records) (notes_over new more)
    note_went count =
        went told plan faults body old new records (λ still. sound.place) sound.settled any appended kept same count

    pub sound_more : may_follow kinds records body ≡ true → IsSound kinds (told new.disk) new.closed new.gate more
    sound_more may = record {
      role = ap (are_of kinds) same ∙ notes_follow kinds records body sound.role may;
      place = grind (arith, common_steps, length-spelled-push) steps 20000;
      settled = λ still.
          settled_now told plan faults body old new records (λ open'. sound.place) sound.settled any appended kept same;
    }

  -- one that was stopped
  pub stopped : (why : JournalRefusal) → old.closed ≡ false → length body ≤ most
      → Appends told plan body old (Err why) new
      → faults new.disk ≡ faults_after (faults old.disk) (is_device_fault why)
      → Did told plan faults (Some body) (notes_over old records) (Some (stop_of why)) (notes_over new records)
  stopped DeviceFault was_open fits failed count =
      met told plan faults body old new records (λ still. sound.place) sound.settled any failed count
  stopped NoMemory was_open fits same count = (was_open, ap (λ (j : JournalState D). notes_over j records) same.3)
  stopped Closed was_open fits same count = absurd (cc (was_open, same.0))
  stopped (RecordTooLong n) was_open fits same count = absurd (omega (arith, fits, same.1))
  stopped (AlreadyMade n) was_open fits none count = absurd none
  stopped (NotJournal place) was_open fits none count = absurd none
