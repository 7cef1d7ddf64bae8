-- Notes that are somewhere, behind a command; of a node that has no others, and of any two.
use Rattle.node_roles.proofs.Words.{◌≡◌, ℕ, false, true, List, [], ◌∷◌, ◌++◌, Option, Some, None, option_map, sym, ap, ◌∙◌, subst, inl, length, true≢false, History, FaultPlan, passed, failed_after, after_course, NotesState, Adds, Fails, Did, KeepsAtAnyMoment, Stop, Closed, NoMemory, DeviceFault, Outcome, NotesAt, with_note, IsNotesAt, FailedAt, Parts, alone, OfLeaves, PartFails, IsNodeAt}
use Rattle.plasma_base.specs.Causes.{faults_after}
use Rattle.gate_journal.specs.Image.{spelled}
use Rattle.gate_journal.specs.Steps.{append_steps}
use Rattle.node_roles.proofs.NodeLaws.{Goes}

-- over a disk that tells its history, foretells its faults and counts them
module _ {D : Type 0} (told : D → Option History) (plan : D → Option FaultPlan) (faults : D → ℕ) where
  -- a command that wasn't stopped
  pub adds-at : (added : Option (List ℕ)) (at : NotesAt) (old new : NotesState D) → IsNotesAt told faults at old
      → Adds told plan faults added old new → IsNotesAt told faults (with_note at added) new
  adds-at None at old new is adds = subst (λ notes. IsNotesAt told faults at notes) (sym adds.1) is
  adds-at (Some body) at old new is adds = record {
    is_open = adds.is_open;
    there = record {
      records_are = adds.records ∙ ap (λ records. records ++ body ∷ []) is.there.records_are;
      told_is =
          adds.made.calls
          ∙ ap
          (λ records. option_map (after_course passed (append_steps (length (spelled records)) body)) (told old.disk))
          is.there.records_are
          ∙ ap (option_map (after_course passed (append_steps (length (spelled at.records)) body))) is.there.told_is;
      faults_are = adds.count ∙ is.there.faults_are;
      settled = adds.settled;
    };
  }

  -- one that a device fault stopped
  pub fails-at : (added : Option (List ℕ)) (at : NotesAt) (old new : NotesState D) → IsNotesAt told faults at old
      → Fails told plan faults added old new → PartFails (FailedAt told faults) added (Some at) (Some new)
  fails-at None at old new is fails = absurd fails
  fails-at (Some body) at old new is fails = record {
    is_closed = fails.is_closed;
    records_are = fails.records ∙ is.there.records_are;
    passed = fails.passed;
    few = fails.made.planned.0;
    told_is =
        fails.made.calls
        ∙ ap
        (λ records. option_map (after_course (failed_after fails.passed) (append_steps (length (spelled records)) body))
        (told old.disk))
        is.there.records_are
        ∙ ap (option_map (after_course (failed_after fails.passed) (append_steps (length (spelled at.records)) body)))
        is.there.told_is;
    any_moment =
        subst (λ records. KeepsAtAnyMoment records body at.told (told new.disk)) is.there.records_are
        (subst (λ before. KeepsAtAnyMoment old.records body before (told new.disk)) is.there.told_is fails.any_moment);
    faults_are = fails.count ∙ ap (λ count. faults_after count true) is.there.faults_are;
  }

  -- notes that were let be
  pub same-at : (at : NotesAt) (old new : NotesState D) → new ≡ old → IsNotesAt told faults at old
      → IsNotesAt told faults at new
  same-at at old new same is = subst (λ notes. IsNotesAt told faults at notes) (sym same) is

  pub never-closed : (at : NotesAt) (old : NotesState D) → IsNotesAt told faults at old → old.closed ≡ true → ⊥
  never-closed at old is closed = true≢false (sym closed ∙ is.is_open)

  -- what the first records say stays
  pub stays : {A : Type 0} (part : List (List ℕ) → A) (added : Option (List ℕ)) (old new : NotesState D)
      (stop : Option Stop) → ((body : List ℕ) → part (old.records ++ body ∷ []) ≡ part old.records)
      → Did told plan faults added old stop new → part new.records ≡ part old.records
  stays part None old new None same did = ap (λ notes. part notes.records) did.1
  stays part (Some body) old new None same did = ap part did.records ∙ same body
  stays part added old new (Some Closed) same did = ap (λ notes. part notes.records) did.1
  stays part added old new (Some NoMemory) same did = ap (λ notes. part notes.records) did.1
  stays part None old new (Some DeviceFault) same did = absurd did
  stays part (Some body) old new (Some DeviceFault) same did = ap part did.records

  -- ---- a node that has notes alone

  no-leaves : (make : NotesAt → NotesAt) (leaves : Option NotesAt)
      → OfLeaves {B = NotesState D} (IsNotesAt told faults) leaves None
      → OfLeaves {B = NotesState D} (IsNotesAt told faults) (option_map make leaves) None
  no-leaves make None none = none
  no-leaves make (Some leaves) none = absurd none

  none-stay : (Q : NotesAt → NotesState D → Type 0) (leaves : Option NotesAt)
      → OfLeaves {B = NotesState D} (IsNotesAt told faults) leaves None → OfLeaves Q leaves None
  none-stay Q None none = none
  none-stay Q (Some leaves) none = absurd none

  pub notes-go : (outcome : Outcome) (at : Parts NotesAt) (old new : NotesState D) → IsNodeAt told faults at (alone old)
      → Goes told faults outcome at (λ stop. Did told plan faults outcome.note old stop new) (alone new)
  notes-go outcome at old new is = record {
    adds = λ did. (
      adds-at outcome.note at.notes old new is.0 did,
      no-leaves (λ leaves. with_note leaves outcome.leaf) at.leaves is.1,
    );
    stays = λ did. (same-at at.notes old new did.1 is.0, is.1);
    fails = λ did. inl (fails-at outcome.note at.notes old new is.0 did, none-stay _ at.leaves is.1);
    never = λ did. never-closed at.notes old is.0 did.0;
  }
