-- What an append tells of records that are kept in a journal, whoever keeps them: a node's notes, a key's leaves, a
-- two-level signer's entries.
use Rattle.node_journal.proofs.Words.{◌≡◌, ◌≤◌, ℕ, Bool, true, false, List, [], ◌∷◌, ◌++◌, length, Option, Some, Result, Ok, Err, refl, sym, ◌∙◌, ap, subst, inl, inr, arith, append-nil, option_map, is_err, common_steps, faults_after, Step, History, content, MayLeave, FaultPlan, LeavesOnly, after_calls, WhereTold, IsStill, Course, passed, failed_after, stopped_after, after_course, Made, most, spelled, append_steps, open_steps, JournalState, Keeps, KeepsWithOrWithout, IsSettled, has_spare, is_fault, Appended, AppendFailed, Appends, JournalRefusal, AlreadyMade, NotJournal, RecordTooLong, DeviceFault, Closed, NoMemory, leaves_now, NotesState, note_steps, KeepsAtAnyMoment, Added, AddFailed, Opened}
use Rattle.crash_disk.proofs.Plans.{passing-zero, after_calls-zero}
use Rattle.gate_journal.specs.Life.{Stay}
use Rattle.gate_journal.proofs.Lives.{in_from}

-- the records over a journal
abbrev pub notes_over : {D : Type 0} → JournalState D → List (List ℕ) → NotesState D
notes_over journal records = record { disk = journal.disk; closed = journal.closed; records = records }

-- what each append says of the images at its moments
abbrev pub AnyMoment : {D : Type 0} → (D → Option History) → List ℕ → JournalState D → JournalState D → Type 0
AnyMoment told body old new = old.closed ≡ false → WhereTold (told old.disk) (λ before.
    (records : List (List ℕ)) → Keeps records (content before)
    → WhereTold (told new.disk) (λ now. LeavesOnly before now (KeepsWithOrWithout records body)))

-- what was told is told of something
told_of : (f : History → History) (told now : Option History) (history : History) → now ≡ option_map f told
    → now ≡ Some history
    → (before : History) × (told ≡ Some before) × (history ≡ f before)
told_of f told now history is some = grind (arith, common_steps) steps 20000

-- what is told after device calls is told of something
told_before : {D : Type 0} {told : D → Option History} {plan : D → Option FaultPlan} {old new : D}
    {steps : List ℕ → List Step} {count : ℕ} {course : Course} → Made told plan steps count course old new
    → (now : History) → told new ≡ Some now → (before : History) × (told old ≡ Some before)
    × (now ≡ after_course course (steps (content before)) before)
told_before {told = told} {old = old} {new = new} {steps = steps} {course = course} made now some =
    told_of (λ h. after_course course (steps (content h)) h) (told old) (told new) now made.calls some

-- over records of a form
module _ (are : List (List ℕ) → Bool) (records : List (List ℕ)) (are_now : are records ≡ true) where
  -- each image of a settled disk keeps its records
  pub settled_stays : (history : History) → IsSettled history records → Stay are records history
  settled_stays history settled image may =
      (records, in_from are image records (settled.images image may) are_now, ([], sym (append-nil records)))

  -- what the images keep at any moment of an append they keep now
  pub moments_stay : {D : Type 0} {told : D → Option History} {plan : D → Option FaultPlan} {old new : D}
      {steps : List ℕ → List Step} {count : ℕ} {course : Course} (body : List ℕ)
      → are (records ++ body ∷ []) ≡ true → Made told plan steps count course old new
      → KeepsAtAnyMoment records body (told old) (told new) → WhereTold (told new) (Stay are records)
  moments_stay {steps = steps} {course = course} body are_more made any now some image may =
      let before = told_before made now some in
      let only = any before.0 before.1 now some in
      let here = leaves_now before.0 course (steps (content before.0)) (KeepsWithOrWithout records body)
      (subst (λ (h : History). LeavesOnly before.0 h (KeepsWithOrWithout records body)) before.2 only) image
      (subst (λ (h : History). MayLeave h image) before.2 may) in
      elim here [
        | inl without ↦ (records, in_from are image records without are_now, ([], sym (append-nil records)))
        | inr with' ↦ (
          records ++ body ∷ [],
          in_from are image (records ++ body ∷ []) with' are_more,
          (body ∷ [], refl),
        )
      ]

-- an append to an open journal with room for the body goes through, or meets a fault
module _ {D : Type 0} (told : D → Option History) (plan : D → Option FaultPlan) {old : JournalState D}
    {body : List ℕ} (open' : old.closed ≡ false) (fits : length body ≤ most)
    (spare : has_spare old (length body) ≡ true) where
  pub goes_through : (r : Result Unit JournalRefusal) (new : JournalState D) → Appends told plan body old r new
      → is_err r ≡ false → (r ≡ Ok tt) × Appended told plan body old new
  goes_through r new did ok = grind (arith, common_steps) steps 20000

  pub meets_fault : (r : Result Unit JournalRefusal) (new : JournalState D) → Appends told plan body old r new
      → is_err r ≡ true → (is_fault r ≡ true) × AppendFailed told plan body old new
  meets_fault (Ok done) new did err = absurd (cc err)
  meets_fault (Err DeviceFault) new did err = (refl, did)
  meets_fault (Err Closed) new did err = absurd (cc (did.0, open'))
  meets_fault (Err (RecordTooLong count)) new did err = absurd (omega (arith, did.1, fits))
  meets_fault (Err NoMemory) new did err = absurd (cc (did.2, spare))
  meets_fault (Err (AlreadyMade count)) new did err = absurd did
  meets_fault (Err (NotJournal place)) new did err = absurd did

-- what an append did to records that the journal keeps while it is open, its gate behind them
module _ {D : Type 0} (told : D → Option History) (plan : D → Option FaultPlan) (faults : D → ℕ)
    (body : List ℕ) (old new : JournalState D) (records : List (List ℕ))
    (place : old.closed ≡ false → old.gate ≡ length (spelled records))
    (settled : old.closed ≡ false → WhereTold (told old.disk) (λ now. IsSettled now records))
    (any : AnyMoment told body old new) where
  -- the same calls, at the place behind the records
  behind : old.closed ≡ false → (course : Course)
      → Made told plan (λ image. append_steps old.gate body) 4 course old.disk new.disk
      → Made told plan (note_steps records body) 4 course old.disk new.disk
  behind open' course made = grind (arith, common_steps) steps 20000

  pub moments : old.closed ≡ false → KeepsAtAnyMoment records body (told old.disk) (told new.disk)
  moments open' before is = any open' before is records (settled open' before is).read

  -- one that went through
  module _ (appended : Appended told plan body old new)
      (kept : WhereTold (told old.disk) (λ before. (keeps : List (List ℕ)) → Keeps keeps (content before)
      → WhereTold (told new.disk) (λ now. IsSettled now (keeps ++ body ∷ [])))) {more : List (List ℕ)}
      (same : more ≡ records ++ body ∷ []) where
    pub settled_now : WhereTold (told new.disk) (λ now. IsSettled now more)
    settled_now now some =
        let before = told_before appended.made now some in
        subst (IsSettled now) (sym same)
        (kept before.0 before.1 records (settled appended.was_open before.0 before.1).read now some)

    pub went : faults new.disk ≡ faults old.disk
        → Added told plan faults body (notes_over old records) (notes_over new more)
    went count = record {
      was_open = appended.was_open;
      fits = appended.fits;
      made = behind appended.was_open passed appended.made;
      any_moment = moments appended.was_open;
      count = count;
      is_open = ap (λ (j : JournalState D). j.closed) appended.journal ∙ appended.was_open;
      records = same;
      settled = settled_now;
    }

  -- one that met a device fault
  pub met : AppendFailed told plan body old new → faults new.disk ≡ faults_after (faults old.disk) true
      → AddFailed told plan faults body (notes_over old records) (notes_over new records)
  met failed count = record {
    was_open = failed.was_open;
    fits = failed.fits;
    passed = failed.count;
    made = behind failed.was_open (failed_after failed.count) failed.made;
    any_moment = moments failed.was_open;
    count = count;
    is_closed = failed.is_closed;
    records = refl;
  }

-- an opening that made no call
not_begun : (t : Option History) → t ≡ option_map (λ before. after_course (stopped_after 0)
    (open_steps (content before)) before) t
not_begun t = grind (arith, common_steps) steps 20000

same_plan : (plan : Option FaultPlan) → plan ≡ option_map (after_calls 0) plan
same_plan plan = grind (arith, common_steps, after_calls-zero) steps 20000

pub none_made : {D : Type 0} (told : D → Option History) (plan : D → Option FaultPlan) (disk : D)
    → Made told plan open_steps 3 (stopped_after 0) disk disk
none_made told plan disk = grind (arith, common_steps, not_begun, passing-zero, same_plan) steps 20000

-- calls that were made, and then none
pub made_still : {D : Type 0} {told : D → Option History} {plan : D → Option FaultPlan} {faults : D → ℕ}
    {old mid new : D} → Made told plan open_steps 3 passed old mid → IsStill told plan faults mid new
    → Made told plan open_steps 3 passed old new
made_still made still = grind (arith, common_steps) steps 20000

-- an opening that went through: the journal keeps these bodies, which are the records by the reader of images
pub journal_opened : {D : Type 0} (told : D → Option History) (plan : D → Option FaultPlan) (faults : D → ℕ)
    (read : List ℕ → Result (List (List ℕ)) ℕ) (disk : D) (old new : JournalState D) (records : List (List ℕ))
    → ((image : List ℕ) → Keeps records image → read image ≡ Ok records) → new.closed ≡ false
    → Made told plan open_steps 3 passed disk old.disk
    → WhereTold (told disk) (λ before. Keeps records (content before))
    → WhereTold (told old.disk) (λ now. IsSettled now records) → faults old.disk ≡ faults disk
    → IsStill told plan faults old.disk new.disk
    → Opened told plan faults read disk (notes_over new records)
journal_opened told plan faults read disk old new records reads open' made kept settled count still = record {
  kept = λ before some. reads (content before) (kept before some);
  made = made_still made still;
  count = still.same_count ∙ count;
  is_open = open';
  settled = λ now some. settled now (sym still.same_calls ∙ some);
}
