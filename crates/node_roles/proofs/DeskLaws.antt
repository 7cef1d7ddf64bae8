-- An operator and its desk that are somewhere, behind a command.
use Rattle.node_roles.proofs.Words.{◌≡◌, ℕ, Bool, true, false, List, ◌++◌, ◌∷◌, [], Option, Some, None, Result, Ok, Err, refl, sym, ap, ◌∙◌, inl, inr, IfErr, OnOk, ◌&&◌, true≢false, History, FaultPlan, NotesState, Did, Stop, Closed, NoMemory, DeviceFault, Said, Outcome, NotesAt, IsNotesAt, Parts, both, IsNodeAt}
use Rattle.node_answers.specs.Doing.{DidEach, DidDesk}
use Rattle.node_roles.proofs.NodeLaws.{Goes, with-leaves}
use Rattle.node_roles.proofs.NotesLaws.{adds-at, fails-at, same-at, stays}

-- over disks that tell their history, foretell their faults and count them
module _ {D : Type 0} (told : D → Option History) (plan : D → Option FaultPlan) (faults : D → ℕ) where
  -- open ones aren't found closed
  never : (added leaf : Option (List ℕ)) (old desk new after : NotesState D) → old.closed ≡ false
      → desk.closed ≡ false → DidEach told plan faults added leaf old desk (Some Closed) new after → ⊥
  never added leaf old desk new after notes_open leaves_open (notes, leaves, inl did) =
      true≢false (sym did.0 ∙ notes_open)
  never added leaf old desk new after notes_open leaves_open (notes, leaves, inr did) =
      true≢false (sym did.0 ∙ leaves_open)

  pub desk-goes : (outcome : Outcome) (at : Parts NotesAt) (old desk new after : NotesState D)
      → IsNodeAt told faults at (both old desk)
      → Goes told faults outcome at
      (λ stop. DidEach told plan faults outcome.note outcome.leaf old desk stop new after) (both new after)
  desk-goes outcome at old desk new after is =
      with-leaves told faults at old desk
      (λ at. Goes told faults outcome at
      (λ stop. DidEach told plan faults outcome.note outcome.leaf old desk stop new after) (both new after))
      is by
    where
      by : (of_notes of_leaves : NotesAt) → IsNotesAt told faults of_notes old → IsNotesAt told faults of_leaves desk
          → Goes told faults outcome (both of_notes of_leaves)
          (λ stop. DidEach told plan faults outcome.note outcome.leaf old desk stop new after) (both new after)
      by of_notes of_leaves notes leaves = record {
        adds = λ did. (
          adds-at told plan faults outcome.note of_notes old new notes did.0,
          adds-at told plan faults outcome.leaf of_leaves desk after leaves did.1,
        );
        stays = λ did. (
          same-at told plan faults of_notes old new did.0 notes,
          same-at told plan faults of_leaves desk after did.1 leaves,
        );
        fails = λ did. elim did [
          | inl failed ↦ inl (
            fails-at told plan faults outcome.note of_notes old new notes failed.0,
            (same-at told plan faults of_leaves desk after failed.1 leaves).there,
          )
          | inr failed ↦ inr (
            (adds-at told plan faults outcome.note of_notes old new notes failed.0).there,
            fails-at told plan faults outcome.leaf of_leaves desk after leaves failed.1,
          )
        ];
        never = λ did. never outcome.note outcome.leaf old desk new after notes.is_open leaves.is_open did;
      }

  -- what the first records say stays
  pub each-keeps : {A : Type 0} (part : List (List ℕ) → A) (added leaf : Option (List ℕ))
      (old desk new after : NotesState D) (stop : Option Stop)
      → ((body : List ℕ) → part (old.records ++ body ∷ []) ≡ part old.records)
      → DidEach told plan faults added leaf old desk stop new after → part new.records ≡ part old.records
  each-keeps part added leaf old desk new after None same did =
      stays told plan faults part added old new None same did.0
  each-keeps part added leaf old desk new after (Some DeviceFault) same (inl did) =
      stays told plan faults part added old new (Some DeviceFault) same did.0
  each-keeps part added leaf old desk new after (Some DeviceFault) same (inr did) =
      stays told plan faults part added old new None same did.0
  each-keeps part added leaf old desk new after (Some NoMemory) same did = ap (λ notes. part notes.records) did.0
  each-keeps part added leaf old desk new after (Some Closed) same did = ap (λ notes. part notes.records) did.0

  -- an answer leaves both open, and a stop one of both
  open-part : (added : Option (List ℕ)) (old new : NotesState D) → Did told plan faults added old None new
      → new.closed ≡ false
  open-part None old new did = ap (λ notes. notes.closed) did.1 ∙ did.0
  open-part (Some body) old new did = did.is_open

  pub desk-open : {Q : Type 0} (added leaf : Option (List ℕ)) (old desk new after : NotesState D)
      (result : Result Said Stop) → DidDesk told plan faults added leaf old desk result new after
      → (new.closed ≡ false → after.closed ≡ false → Q) → OnOk result Q
  desk-open added leaf old desk new after (Err stop) did known = tt
  desk-open added leaf old desk new after (Ok said) (None, did, is) known =
      known (open-part added old new did.0) (open-part leaf desk after did.1)
  desk-open added leaf old desk new after (Ok said) (Some why, did, is) known = cc

  second-open : (one other : Bool) → other ≡ false → (one && other) ≡ false
  second-open true other is = is
  second-open false other is = refl

  first-open : (one other : Bool) → one ≡ false → (one && other) ≡ false
  first-open one other is = ap (λ (closed : Bool). closed && other) is

  one-open : (added leaf : Option (List ℕ)) (old desk new after : NotesState D) (stop : Option Stop)
      → old.closed ≡ false → desk.closed ≡ false → DidEach told plan faults added leaf old desk stop new after
      → (new.closed && after.closed) ≡ false
  one-open added leaf old desk new after None notes leaves did =
      first-open new.closed after.closed (open-part added old new did.0)
  one-open added leaf old desk new after (Some DeviceFault) notes leaves (inl did) =
      second-open new.closed after.closed (ap (λ desk. desk.closed) did.1 ∙ leaves)
  one-open added leaf old desk new after (Some DeviceFault) notes leaves (inr did) =
      first-open new.closed after.closed (open-part added old new did.0)
  one-open added leaf old desk new after (Some NoMemory) notes leaves did =
      first-open new.closed after.closed (ap (λ notes. notes.closed) did.0 ∙ notes)
  one-open added leaf old desk new after (Some Closed) notes leaves did =
      first-open new.closed after.closed (ap (λ notes. notes.closed) did.0 ∙ notes)

  pub stops-one : (P : Stop → Type 0) (added leaf : Option (List ℕ)) (old desk new after : NotesState D)
      (result : Result Said Stop) → old.closed ≡ false → desk.closed ≡ false
      → DidDesk told plan faults added leaf old desk result new after → IfErr result P
      → IfErr result (λ stop. P stop × ((new.closed && after.closed) ≡ false))
  stops-one P added leaf old desk new after (Ok said) notes leaves did is = tt
  stops-one P added leaf old desk new after (Err stop) notes leaves did is =
      (is, one-open added leaf old desk new after did.0 notes leaves did.1)
