-- The check passes a bundle exactly where it shows that its coin is absent.
use Rattle.coin_history.proofs.Words.{◌≡◌, ℕ, ◌<◌, ◌==◌, Bool, true, false, List, [], ◌∷◌, Some, None, refl, sym, ap, ◌∙◌, subst, arith, AllByRecursion, eqb-true, eq-eqb, true≢false, false_from_ne_true, not-false, recursion_from_All, common_steps, RawOpening, RootCall, Tests, UnknownBlock, AreRising, opens_block, is_absent, is_asked, opening_at, missing, lowest_failure, above, failure_of_absence, absence_of, OnlyAbsencesPass, AbsencesPass}
use Rattle.coin_history.proofs.HistoryOpenings.{lowest-none, lowest-none_from, up-rising, each-found, found-each, above-block, found-below, asked-parts, AreAsked, are-asked, blocks-from_asked, asked-from_blocks, found-block}
use Rattle.coin_history.proofs.HistoryLinks.{every-weaker}
use Rattle.coin_history.proofs.HistoryFound.{causes-none, none-causes, missing-none, answered}

-- ---- absences

-- nothing is wrong with an opening of absences
pub record IsAbsentRight (tests : Tests) (log : List RootCall) (coin after last : ℕ) (o : RawOpening) : Type 0 where
  pub asked : is_asked log after last o.block ≡ true
  pub opens : opens_block tests log coin o ≡ true
  pub absent : is_absent o ≡ true

module _ (tests : Tests) (log : List RootCall) (coin after last : ℕ) where
  pub absent-from_none : (o : RawOpening) → failure_of_absence tests log coin after last o.block (Some o) ≡ None
      → IsAbsentRight tests log coin after last o
  absent-from_none o is = grind (arith, common_steps, causes-none, not-false) steps 20000

  pub none-from_absent : (o : RawOpening) → IsAbsentRight tests log coin after last o
      → failure_of_absence tests log coin after last o.block (Some o) ≡ None
  none-from_absent o right = grind (arith, common_steps, none-causes) steps 20000

module _ (tests : Tests) (log : List RootCall) (coin after last : ℕ) (openings : List RawOpening) where
  pub absent-each : AreRising openings
      → ((n : ℕ) → n < above last openings
      → failure_of_absence tests log coin after last n (opening_at openings n) ≡ None)
      → AllByRecursion (IsAbsentRight tests log coin after last) openings
  absent-each rising none =
      each-found (IsAbsentRight tests log coin after last) 0 openings (up-rising openings rising)
      (λ n o found.
      let at = found-block openings n o found in
      absent-from_none tests log coin after last o
      (subst (λ (k : ℕ). failure_of_absence tests log coin after last k (Some o) ≡ None) (sym at)
      (ap (failure_of_absence tests log coin after last n) (sym found)
      ∙ none n (found-below last openings n o found))))

  pub absent-asked : AreRising openings
      → ((n : ℕ) → n < above last openings
      → failure_of_absence tests log coin after last n (opening_at openings n) ≡ None)
      → AreAsked log after last openings
  absent-asked rising none =
      let asked = every-weaker (IsAbsentRight tests log coin after last) (λ o. is_asked log after last o.block ≡ true)
      (λ o is. is.asked) openings (absent-each rising none) in
      are-asked log after last openings rising asked
      (grind (arith, common_steps, false_from_ne_true, asked-parts, true≢false, missing-none, above-block) steps 20000)

  -- where each opening is right, and each block without one isn't asked, nothing fails
  pub none-present : AllByRecursion (IsAbsentRight tests log coin after last) openings
      → ((n : ℕ) → opening_at openings n ≡ None → is_asked log after last n ≡ false)
      → (n : ℕ) → failure_of_absence tests log coin after last n (opening_at openings n) ≡ None
  none-present right other n =
      (elim (opening_at openings n) as (λ o. opening_at openings n ≡ o
      → failure_of_absence tests log coin after last n o ≡ None) [
        | None ↦ λ absent. ap (λ (b : Bool). missing b n) (other n absent)
        | Some x ↦ λ found.
            let r = found-each (IsAbsentRight tests log coin after last) openings n x right found in
            grind (arith, common_steps, none-from_absent) steps 20000
      ]) refl

every-absent : (tests : Tests) (log : List RootCall) (coin after last : ℕ) (os : List RawOpening)
    → AllByRecursion (λ o. is_asked log after last o.block ≡ true) os
    → AllByRecursion (λ o. opens_block tests log coin o ≡ true) os
    → AllByRecursion (λ o. is_absent o ≡ true) os
    → AllByRecursion (IsAbsentRight tests log coin after last) os
every-absent tests log coin after last [] asked opens absent = tt
every-absent tests log coin after last (o ∷ os) asked opens absent =
    grind (arith, common_steps, every-absent tests log coin after last os asked.1 opens.1 absent.1) steps 20000

pub absences_are_found : OnlyAbsencesPass
unfolding absence_of
absences_are_found tests log after last bundle rising is =
    let failures = λ (n : ℕ). failure_of_absence tests log bundle.coin after last n (opening_at bundle.openings n) in
    let parts = answered (bundle.tip == last) (lowest_failure failures (above last bundle.openings)) tt tt
    (UnknownBlock bundle.tip) is in
    let none = lowest-none failures (above last bundle.openings) parts.1 in
    let right = absent-each tests log bundle.coin after last bundle.openings rising none in (
      eqb-true bundle.tip last parts.0,
      record {
        blocks = blocks-from_asked log after last bundle.openings
            (absent-asked tests log bundle.coin after last bundle.openings rising none);
        opened = grind (arith, common_steps, every-weaker) steps 20000;
        empty = grind (arith, common_steps, every-weaker) steps 20000;
      },
    )

pub absences_pass : AbsencesPass
unfolding absence_of
absences_pass tests log after last bundle e is =
    let failures = λ (n : ℕ). failure_of_absence tests log bundle.coin after last n (opening_at bundle.openings n) in
    let asked = asked-from_blocks log after last bundle.openings is.blocks in
    let right = every-absent tests log bundle.coin after last bundle.openings asked.each
    (recursion_from_All (λ o. opens_block tests log bundle.coin o ≡ true) bundle.openings is.opened)
    (recursion_from_All (λ o. is_absent o ≡ true) bundle.openings is.empty) in
    let none = lowest-none_from failures (above last bundle.openings)
    (λ n less. none-present tests log bundle.coin after last bundle.openings right asked.other n) in
    grind (arith, common_steps, eq-eqb) steps 20000
