-- What is done where entries are added one after another.
use Rattle.hss_runs.proofs.Words.{◌≡◌, ℕ, suc, true, List, [], ◌∷◌, ◌++◌, map, take, Option, Some, None, Result, Ok, Err, refl, sym, ◌∙◌, ap, subst, inl, inr, append_assoc, append-nil, option_map, faults_after, History, content, MayLeave, FaultPlan, LeavesOnly, WhereTold, failed_after, after_course, Keeps, KeepsWithOrWithout, IsSettled, NotesState, note_steps, Added, AddFailed, Did, stopped_by, Entry, entry_text, Status, EndsAs, refuses, said_output, AddsAll, FailsToAdd, DidAll, KeepsAFront, Signs}
use Rattle.std.specs.Result.{IfErr}
use Rattle.node_journal.specs.declared.stop.Stop.{Stop}
use Rattle.node_journal.specs.declared.stop.Stop.TheVariants.{Closed, NoMemory, DeviceFault}
use Rattle.gate_journal.proofs.Rest.{leaves_now}

module _ {D : Type 0} (told : D → Option History) (plan : D → Option FaultPlan) (faults : D → ℕ) where
  -- no fault was met, or one
  pub adds-count : (entries : List Entry) (old new : NotesState D) → AddsAll told plan faults entries old new
      → faults new.disk ≡ faults old.disk
  adds-count [] old new is = ap (λ (n : NotesState D). faults n.disk) is
  adds-count (entry ∷ entries) old new (now, added, rest) = adds-count entries now new rest ∙ added.count

  pub fails-count : (entries : List Entry) (old new : NotesState D) → FailsToAdd told plan faults entries old new
      → faults new.disk ≡ faults_after (faults old.disk) true
  fails-count [] old new is = absurd is
  fails-count (entry ∷ entries) old new (inl failed) = failed.count
  fails-count (entry ∷ entries) old new (inr (now, added, rest)) =
      fails-count entries now new rest ∙ ap (λ n. faults_after n true) added.count

  -- settled records stay so, with the new ones
  abbrev Settled : D → List (List ℕ) → Type 0
  Settled disk records = WhereTold (told disk) (λ now. IsSettled now records)

  pub adds-settle : (entries : List Entry) (old new : NotesState D) → AddsAll told plan faults entries old new
      → Settled old.disk old.records → Settled new.disk (old.records ++ map entry_text entries)
  adds-settle [] old new is settled =
      subst (Settled new.disk) (sym (append-nil old.records))
      (subst (λ (n : NotesState D). Settled n.disk old.records) (sym is) settled)
  adds-settle (entry ∷ entries) old new (now, added, rest) settled =
      let texts = map entry_text entries in
      subst (Settled new.disk)
      (ap (λ (l : List (List ℕ)). l ++ texts) added.records ∙ append_assoc old.records (entry_text entry ∷ []) texts)
      (adds-settle entries now new rest added.settled)

  -- each image of a crash after an append that failed
  abbrev at_fault : List (List ℕ) → List ℕ → ℕ → History → History
  at_fault records body count before =
      after_course (failed_after count) (note_steps records body (content before)) before

  failed-leaves : (body : List ℕ) (old new : NotesState D) → AddFailed told plan faults body old new → (now : History)
      → told new.disk ≡ Some now → (image : List ℕ) → MayLeave now image → KeepsWithOrWithout old.records body image
  failed-leaves body old new failed now is image may = at (told old.disk) refl
    where
      at : (t : Option History) → told old.disk ≡ t → KeepsWithOrWithout old.records body image
      at None none =
          absurd (
          let untold = failed.made.calls ∙ ap (option_map (at_fault old.records body failed.passed)) none in
          cc (untold, is)
          )
      at (Some before) some =
          let made = sym is ∙ failed.made.calls ∙ ap (option_map (at_fault old.records body failed.passed)) some in
          let same : now ≡ at_fault old.records body failed.passed before = cc (made) in
          leaves_now before (failed_after failed.passed) (note_steps old.records body (content before))
          (KeepsWithOrWithout old.records body)
          (subst (λ (h : History). LeavesOnly before h (KeepsWithOrWithout old.records body)) same
          (failed.any_moment before some now is)) image (subst (λ (h : History). MayLeave h image) same may)

  pub fails-leave : (entries : List Entry) (old new : NotesState D) → FailsToAdd told plan faults entries old new
      → KeepsAFront old.records (map entry_text entries) (told new.disk)
  fails-leave [] old new is now told_is image may = absurd is
  fails-leave (entry ∷ entries) old new (inl failed) now is image may =
      elim (failed-leaves (entry_text entry) old new failed now is image may) [
        | inl without ↦ (0, subst (λ (l : List (List ℕ)). Keeps l image) (sym (append-nil old.records)) without)
        | inr with' ↦ (1, with')
      ]
  fails-leave (entry ∷ entries) old new (inr (mid, added, rest)) now is image may =
      let texts = map entry_text entries in
      let kept = fails-leave entries mid new rest now is image may in (
        suc kept.0,
        subst (λ (l : List (List ℕ)). Keeps l image)
            (ap (λ (l : List (List ℕ)). l ++ take kept.0 texts) added.records
            ∙ append_assoc old.records (entry_text entry ∷ []) (take kept.0 texts)) kept.1,
      )

  -- one entry
  pub did-one : {T : Type 0} (entry : Entry) (old new : NotesState D) (r : Result T Stop)
      → Did told plan faults (Some (entry_text entry)) old (stopped_by r) new
      → IfErr r (λ stop. stop ≡ DeviceFault)
      → DidAll told plan faults (entry ∷ []) old (stopped_by r) new
  did-one entry old new (Ok done) did fault = (new, did, refl)
  did-one entry old new (Err DeviceFault) did fault = inl did
  did-one entry old new (Err Closed) did fault = absurd (cc (fault))
  did-one entry old new (Err NoMemory) did fault = absurd (cc (fault))

  -- one more behind one
  pub did-two : {T : Type 0} (first second : Entry) (old now new : NotesState D) (r : Result T Stop)
      → Added told plan faults (entry_text first) old now
      → Did told plan faults (Some (entry_text second)) now (stopped_by r) new
      → IfErr r (λ stop. stop ≡ DeviceFault)
      → DidAll told plan faults (first ∷ second ∷ []) old (stopped_by r) new
  did-two first second old now new (Ok done) added did fault = (now, added, (new, did, refl))
  did-two first second old now new (Err DeviceFault) added did fault = inr (now, added, inl did)
  did-two first second old now new (Err Closed) added did fault = absurd (cc (fault))
  did-two first second old now new (Err NoMemory) added did fault = absurd (cc (fault))

  -- a run that is refused
  pub refuses-signs : (taken after : Option (List ℕ)) (status : Status) (words : List ℕ) (number : ℕ)
      (old : NotesState D) → Settled old.disk old.records
      → EndsAs (said_output (refuses words number).says) status taken after ⊥
      → Signs told plan faults taken after status (refuses words number) old old
  refuses-signs taken after status words number old settled ends = inl (record {
    adds = refl;
    settled = subst (Settled old.disk) (sym (append-nil old.records)) settled;
    ends = ends;
  })
