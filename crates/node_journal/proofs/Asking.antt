-- A question for a disk's length, and what a refused init leaves.
use Rattle.node_journal.proofs.Words.{◌≡◌, ◌<◌, ◌≤◌, ℕ, true, false, ltb, List, [], ◌∷◌, length, Option, Some, None, inl, inr, refl, ◌∙◌, ap, arith, option_map, nat_tests, common_steps, Step, History, content, FaultPlan, WhereTold, passed, after_course, Made, kept_records, is_made, has_content, is_taken, journal_steps, init_steps, RefusesEmpty, PassesInit, StopsInit, IsAsked, HoldsAsBefore, RefusedPairsStay}
use Rattle.gate_journal.specs.declared.refusal.InitRefusal.TheVariants.{AlreadyMade}
use Rattle.gate_journal.proofs.Front.{fronts}
use Rattle.node_journal.proofs.Courses.{after_both}
use Rattle.node_journal.proofs.Untaken.{not_less, unmade_untaken, making_holds}

long_made : (image : List ℕ) → 5 < length image → is_made image ≡ true
long_made image long = (let more : ltb 5 (length image) ≡ true = grind (arith, nat_tests) in rw more refl)

taken_made : (image : List ℕ) → is_taken image ≡ true → is_made image ≡ true
taken_made image taken = grind (arith, common_steps, unmade_untaken) steps 20000

short_untaken : (image : List ℕ) → length image ≤ 5 → is_taken image ≡ false
short_untaken image short = at (kept_records image) refl
  where
    at : (kept : Option (List (List ℕ))) → kept_records image ≡ kept → is_taken image ≡ false
    at None is = ap (has_content (length image)) is ∙ not_less (length image) short
    at (Some []) is = ap (has_content (length image)) is
    at (Some (body ∷ bodies)) is =
        let f = fronts image (body ∷ bodies) is in
        grind (arith, common_steps) steps 20000

-- what a disk holds once a journal that stands on it was opened
stands : (history : History) → is_made (content history) ≡ true
    → content (after_course passed (journal_steps (content history)) history) ≡ content history
stands history made = grind (arith, common_steps, after_both, making_holds) steps 20000

-- ---- what stays

module _ {D : Type 0} (told : D → Option History) where
  -- where the disk told before, it tells now, and holds what it held
  abbrev Stays : D → D → Type 0
  Stays old new = (before : History) → told old ≡ Some before
      → (now : History) × (told new ≡ Some now) × (content now ≡ content before)

  stays-on : {old mid new : D} → Stays old mid → Stays mid new → Stays old new
  stays-on first second before is = grind (arith, common_steps) steps 20000

  same-stays : {old new : D} → new ≡ old → Stays old new
  same-stays same before is = (before, ap told same ∙ is, refl)

  stays-holds : {old new : D} → Stays old new → HoldsAsBefore (told old) (told new)
  stays-holds stays before is now some = grind (arith, common_steps) steps 20000

  module _ (plan : D → Option FaultPlan) (faults : D → ℕ) where
    asked-stays : {old new : D} → IsAsked told plan faults old new → Stays old new
    asked-stays asked before is = grind (arith, common_steps) steps 20000

    -- a journal that stands was opened, or not
    opened-stays : {old new : D} → ((before : History) → told old ≡ Some before → is_made (content before) ≡ true)
        → ((before : History) → told old ≡ Some before
        → Made told plan journal_steps (length (journal_steps (content before))) passed old new)
        → Stays old new
    opened-stays made calls before is = (
      after_course passed (journal_steps (content before)) before,
      (calls before is).calls ∙ ap (option_map (λ h. after_course passed (journal_steps (content h)) h)) is,
      stands before (made before is),
    )

    refused-stays : {old new : D} (count : ℕ) → RefusesEmpty told plan faults old (AlreadyMade count) new
        → Stays old new
    refused-stays count refused =
        opened-stays (λ before is. taken_made (content before) (refused.inits before is).0)
        (λ before is. (refused.inits before is).2)

    long-stays : {old new : D} → WhereTold (told old) (λ before. 5 < length (content before))
        → PassesInit told plan faults journal_steps old new → Stays old new
    long-stays long passes =
        opened-stays (λ before is. long_made (content before) (long before is))
        (λ before is. (passes.inits before is).1)

    -- a short image isn't taken
    short-never : {P : Type 0} {old new : D} (steps : List ℕ → List Step) (count : ℕ) (before : History)
        → told old ≡ Some before → WhereTold (told old) (λ before. length (content before) ≤ 5)
        → StopsInit told plan faults steps old (AlreadyMade count) new → P
    short-never steps count before is short stops =
        absurd (cc (short_untaken (content before) (short before is), (stops.inits before is).0))

pub refused_pairs_stay : {D E : Type 0} (told : D → Option History) (plan : D → Option FaultPlan) (faults : D → ℕ)
    (leaves_told : E → Option History) (leaves_plan : E → Option FaultPlan) (leaves_faults : E → ℕ)
    → RefusedPairsStay told plan faults leaves_told leaves_plan leaves_faults
refused_pairs_stay told plan faults leaves_told leaves_plan leaves_faults identity notes new_notes leaves new_leaves
    count before is (inl never) = absurd never.0
refused_pairs_stay told plan faults leaves_told leaves_plan leaves_faults identity notes new_notes leaves new_leaves
    count before is (inr (asked, asks, inl (long, inl (refused, same)))) = (
      stays-holds told
          (stays-on told (asked-stays told plan faults asks) (refused-stays told plan faults count refused)),
      stays-holds leaves_told (same-stays leaves_told same),
    )
refused_pairs_stay told plan faults leaves_told leaves_plan leaves_faults identity notes new_notes leaves new_leaves
    count before is (inr (asked, asks, inl (long, inr (inl (passes, refused))))) = (
      stays-holds told (stays-on told (asked-stays told plan faults asks) (long-stays told plan faults long passes)),
      stays-holds leaves_told (refused-stays leaves_told leaves_plan leaves_faults count refused),
    )
refused_pairs_stay told plan faults leaves_told leaves_plan leaves_faults identity notes new_notes leaves new_leaves
    count before is (inr (asked, asks, inl (long, inr (inr (stops, passes))))) =
    let now = asked-stays told plan faults asks before is in absurd (stops.stopped now.0 now.1)
refused_pairs_stay told plan faults leaves_told leaves_plan leaves_faults identity notes new_notes leaves new_leaves
    count before is (inr (asked, asks, inr (short, inl (same, refused)))) = (
      stays-holds told (stays-on told (asked-stays told plan faults asks) (same-stays told same)),
      stays-holds leaves_told (refused-stays leaves_told leaves_plan leaves_faults count refused),
    )
refused_pairs_stay told plan faults leaves_told leaves_plan leaves_faults identity notes new_notes leaves new_leaves
    count before is (inr (asked, asks, inr (short, inr (stops, passes)))) =
    let now = asked-stays told plan faults asks before is in
    short-never told plan faults (init_steps identity) count now.0 now.1 short stops
