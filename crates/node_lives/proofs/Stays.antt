-- What stays of a journal's records where a disk tells: each image of a crash now keeps records of a kind that continue
-- some.
use Rattle.std.proofs.Common.{◌≡◌, ℕ, Bool, true, List, [], ◌∷◌, ◌++◌, length, Option, Some, subst, inl, inr, arith}
use Rattle.std.proofs.lemmas.Grind.{common_steps}
use Rattle.crash_disk.specs.Disk.{History, MayLeave, LeavesOnly}
use Rattle.crash_disk.specs.Calls.{WhereTold, failed_after, after_course}
use Rattle.gate_journal.specs.Image.{spelled}
use Rattle.gate_journal.specs.Journal.{Keeps, KeepsWithOrWithout, IsSettled}
use Rattle.gate_journal.specs.Life.{Continue, Stay}
use Rattle.node_journal.specs.Notes.{KeepsAtAnyMoment}
use Rattle.gate_journal.specs.Steps.{append_steps}
use Rattle.gate_journal.proofs.Lives.{one_more, in_from}
use Rattle.gate_journal.proofs.Rest.{leaves_now}
use Rattle.node_lives.proofs.Quiet.{Quietly, MadeOver, made-now, told-before}

-- what continues records continues those that these continue
pub further : (first old now : List (List ℕ)) → Continue first old → Continue old now → Continue first now
further first old now on more = grind (arith, common_steps) steps 20000

-- an image keeps one list of records
pub keeps-same : (image : List ℕ) (one other : List (List ℕ)) → Keeps one image → Keeps other image → one ≡ other
keeps-same image one other is also = cc (is, also)

-- what each image of a crash keeps behind an append that met a device fault
pub fault-images : (records : List (List ℕ)) (body : List ℕ) (count : ℕ) (old new : Option History)
    → MadeOver (after_course (failed_after count) (append_steps (length (spelled records)) body)) old new
    → KeepsAtAnyMoment records body old new → (now : History) → new ≡ Some now → (image : List ℕ)
    → MayLeave now image → KeepsWithOrWithout records body image
fault-images records body count old new made any now also image may =
    let makes = after_course (failed_after count) (append_steps (length (spelled records)) body) in
    let before = told-before makes old new now made also in
    let one = made-now makes old new before.0 now made before.1 also in
    leaves_now before.0 (failed_after count) (append_steps (length (spelled records)) body)
    (KeepsWithOrWithout records body)
    (subst (λ (h : History). LeavesOnly before.0 h (KeepsWithOrWithout records body)) one
    (any before.0 before.1 now also))
    image (subst (λ (h : History). MayLeave h image) one may)

module _ (are : List (List ℕ) → Bool) where
  -- where the disk tells
  abbrev pub StayTold : List (List ℕ) → Option History → Type 0
  StayTold records told = WhereTold told (Stay are records)

  pub quiet-stays : (records : List (List ℕ)) (old new : Option History)
      → ((now : History) → new ≡ Some now → (h : History) × (old ≡ Some h)) → Quietly old new → StayTold records old
      → StayTold records new
  quiet-stays records old new told quiet stay now is image may =
      let there = told now is in stay there.0 there.1 image (quiet there.0 now there.1 is image may)

  pub settled-stays : (first records : List (List ℕ)) (history : History) → IsSettled history records
      → are records ≡ true → Continue first records → Stay are first history
  settled-stays first records history settled is on image may =
      (records, in_from are image records (settled.images image may) is, on)

  -- behind an append that met a device fault
  pub fault-stays : (first records : List (List ℕ)) (body : List ℕ) (count : ℕ) (old new : Option History)
      → MadeOver (after_course (failed_after count) (append_steps (length (spelled records)) body)) old new
      → KeepsAtAnyMoment records body old new → are records ≡ true → are (records ++ body ∷ []) ≡ true
      → Continue first records → StayTold first new
  fault-stays first records body count old new made any is is_more on now also image may =
      elim (fault-images records body count old new made any now also image may) [
        | inl without ↦ (records, in_from are image records without is, on)
        | inr with' ↦ (
          records ++ body ∷ [],
          in_from are image (records ++ body ∷ []) with' is_more,
          one_more first records body on,
        )
      ]

  -- what continues them stays no less
  pub earlier-stays : (first records : List (List ℕ)) (history : History) → Continue first records
      → Stay are records history → Stay are first history
  earlier-stays first records history on stay image may =
      let kept = stay image may in (kept.0, kept.1, further first records kept.0 on kept.2)
