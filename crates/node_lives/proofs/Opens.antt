-- What is opened of a disk on which records of a kind stay: records of the kind, which go on behind the first ones. No
-- opening of it is refused for a place, and one that is refused leaves them there.
use Rattle.std.proofs.Common.{◌≡◌, ℕ, Bool, true, List, Option, Some, None, is_some, Result, Ok, sym, refl, subst, arith}
use Rattle.std.proofs.lemmas.Grind.{common_steps}
use Rattle.crash_disk.specs.Disk.{History, content, FaultPlan}
use Rattle.crash_disk.specs.Calls.{passed, failed_after, stopped_after}
use Rattle.crash_disk.proofs.Left.{content_may_be_left}
use Rattle.gate_journal.specs.Journal.{Keeps, RefusesOpen}
use Rattle.gate_journal.specs.Life.{Continue}
use Rattle.node_journal.specs.Notes.{NotesState, Opened}
use Rattle.gate_journal.specs.declared.refusal.JournalRefusal.{JournalRefusal}
use Rattle.gate_journal.specs.declared.refusal.JournalRefusal.TheVariants.{AlreadyMade as MadeRefusal, NotJournal as PlaceRefusal, DeviceFault as FaultRefusal, Closed as ClosedRefusal, RecordTooLong as LongRefusal, NoMemory as MemoryRefusal}
use Rattle.gate_journal.proofs.Lives.{in_keeps}
use Rattle.node_lives.proofs.Quiet.{Quietly, opening-quiet}
use Rattle.node_lives.proofs.Stays.{StayTold, quiet-stays}

pub tells-some : {T : Type 0} (told : Option T) → is_some told ≡ true → (x : T) × (told ≡ Some x)
tells-some None is = absurd (cc is)
tells-some (Some x) is = (x, refl)

-- an opening that was refused leaves no more
pub refused-quiet : {D : Type 0} (told : D → Option History) (plan : D → Option FaultPlan)
    (read : List ℕ → Result (List (List ℕ)) ℕ) (old new : D) (why : JournalRefusal)
    → RefusesOpen read told plan old why new → Quietly (told old) (told new)
refused-quiet told plan read old new FaultRefusal is =
    opening-quiet (failed_after is.0) (told old) (told new) is.1.calls
refused-quiet told plan read old new MemoryRefusal is =
    opening-quiet (stopped_after is.0) (told old) (told new) is.2.calls
refused-quiet told plan read old new (PlaceRefusal place) is =
    opening-quiet passed (told old) (told new) is.0.calls
refused-quiet told plan read old new ClosedRefusal is = absurd is
refused-quiet told plan read old new (LongRefusal count) is = absurd is
refused-quiet told plan read old new (MadeRefusal count) is = absurd is

-- nor does one that went through, whose disk is handed back
pub opened-quiet : {D : Type 0} (told : D → Option History) (plan : D → Option FaultPlan) (faults : D → ℕ)
    (read : List ℕ → Result (List (List ℕ)) ℕ) (old : D) (opened : NotesState D) (new : D)
    → Opened told plan faults read old opened → new ≡ opened.disk → Quietly (told old) (told new)
opened-quiet {D} told plan faults read old opened new opens same =
    subst (λ (d : D). Quietly (told old) (told d)) (sym same)
    (opening-quiet passed (told old) (told opened.disk) opens.made.calls)

module _ (are : List (List ℕ) → Bool) (read : List ℕ → Result (List (List ℕ)) ℕ) {D : Type 0}
    (told : D → Option History) (plan : D → Option FaultPlan) (faults : D → ℕ) (first : List (List ℕ)) (old : D) where
  -- records are of the kind, and go on
  pub record AreOn (records : List (List ℕ)) : Type 0 where
    pub is : are records ≡ true
    pub on : Continue first records

  pub record Opening : Type 0 where
    pub finds : (opened : NotesState D) → Opened told plan faults read old opened → AreOn opened.records
    pub place : (why : JournalRefusal) (new : D) → RefusesOpen read told plan old why new → (place : ℕ)
        → why ≡ PlaceRefusal place → ⊥
    pub quiet : (new : D) → Quietly (told old) (told new) → StayTold are first (told new)
    pub refused : (why : JournalRefusal) (new : D) → RefusesOpen read told plan old why new
        → StayTold are first (told new)

  module _ (reads : (image : List ℕ) (records : List (List ℕ)) → Keeps records image → are records ≡ true
      → read image ≡ Ok records) (tells : is_some (told old) ≡ true) (stay : StayTold are first (told old)) where
    -- what its image keeps
    found : (history : History) × (told old ≡ Some history)
        × ((records : List (List ℕ)) × (read (content history) ≡ Ok records) × AreOn records)
    found =
        let has = tells-some (told old) tells in
        let there = stay has.0 has.1 (content has.0) (content_may_be_left has.0) in
        let parts = in_keeps are (content has.0) there.0 there.1 in (
          has.0,
          has.1,
          (
            there.0,
            reads (content has.0) there.0 parts.0 parts.1,
            record { is = parts.1; on = there.2 },
          ),
        )

    opened-finds : (opened : NotesState D) → Opened told plan faults read old opened → AreOn opened.records
    opened-finds opened opens = grind (arith, common_steps, found) steps 20000

    no-place : (why : JournalRefusal) (new : D) → RefusesOpen read told plan old why new → (place : ℕ)
        → why ≡ PlaceRefusal place → ⊥
    no-place why new refuses place same = grind (arith, common_steps, found) steps 20000

    quiet-told : (new : D) → Quietly (told old) (told new) → StayTold are first (told new)
    quiet-told new quiet =
        quiet-stays are first (told old) (told new) (λ now also. (found.0, found.1)) quiet stay

    pub opening : Opening
    opening = record {
      finds = opened-finds;
      place = no-place;
      quiet = quiet-told;
      refused =
          λ why new refuses. quiet-told new (refused-quiet told plan read old new why refuses);
    }
