-- The test of a bundle passes exactly what shows a breach.
use Rattle.receipt_audit.proofs.Words.{◌≡◌, ℕ, ◌<◌, ◌==◌, Bool, true, false, List, [], ◌∷◌, Some, None, refl, sym, ap, ◌∙◌, subst, arith, AllByRecursion, eqb-true, eq-eqb, true≢false, false_from_ne_true, not-false, recursion_from_All, common_steps, RawOpening, RootCall, Tests, UnknownBlock, AreRising, opens_block, is_asked, opening_at, missing, lowest_failure, above, lowest-none, lowest-none_from, up-rising, each-found, found-each, above-block, found-below, asked-parts, AreAsked, are-asked, blocks-from_asked, asked-from_blocks, found-block, Promise, is_kept, failure_of_breach, breach_of, OnlyBreachesPass, BreachesPass}
use Rattle.coin_history.proofs.HistoryLinks.{every-weaker}
use Rattle.coin_history.proofs.HistoryFound.{causes-none, none-causes, missing-none, answered}

-- nothing is wrong with an opening of a breach
pub record IsUnkept (tests : Tests) (dig : List ℕ → List ℕ) (log : List RootCall) (promise : Promise)
    (o : RawOpening) : Type 0 where
  pub asked : is_asked log promise.issued promise.due o.block ≡ true
  pub opens : opens_block tests log promise.coin o ≡ true
  pub unkept : is_kept dig promise o ≡ false

module _ (tests : Tests) (dig : List ℕ → List ℕ) (log : List RootCall) (promise : Promise) where
  unkept-from_none : (o : RawOpening) → failure_of_breach tests dig log promise o.block (Some o) ≡ None
      → IsUnkept tests dig log promise o
  unkept-from_none o is = grind (arith, common_steps, causes-none, not-false) steps 20000

  none-from_unkept : (o : RawOpening) → IsUnkept tests dig log promise o
      → failure_of_breach tests dig log promise o.block (Some o) ≡ None
  none-from_unkept o right = grind (arith, common_steps, none-causes) steps 20000

module _ (tests : Tests) (dig : List ℕ → List ℕ) (log : List RootCall) (promise : Promise)
    (openings : List RawOpening) where
  unkept-each : AreRising openings
      → ((n : ℕ) → n < above promise.due openings
      → failure_of_breach tests dig log promise n (opening_at openings n) ≡ None)
      → AllByRecursion (IsUnkept tests dig log promise) openings
  unkept-each rising none =
      each-found (IsUnkept tests dig log promise) 0 openings (up-rising openings rising)
      (λ n o found.
      let at = found-block openings n o found in
      unkept-from_none tests dig log promise o
      (subst (λ (k : ℕ). failure_of_breach tests dig log promise k (Some o) ≡ None) (sym at)
      (ap (failure_of_breach tests dig log promise n) (sym found)
      ∙ none n (found-below promise.due openings n o found))))

  unkept-asked : AreRising openings
      → ((n : ℕ) → n < above promise.due openings
      → failure_of_breach tests dig log promise n (opening_at openings n) ≡ None)
      → AreAsked log promise.issued promise.due openings
  unkept-asked rising none =
      let asked = every-weaker (IsUnkept tests dig log promise)
      (λ o. is_asked log promise.issued promise.due o.block ≡ true)
      (λ o is. is.asked) openings (unkept-each rising none) in
      are-asked log promise.issued promise.due openings rising asked
      (grind (arith, common_steps, false_from_ne_true, asked-parts, true≢false, missing-none, above-block) steps 20000)

  -- where each opening is right, and each block without one isn't asked, nothing fails
  none-unkept : AllByRecursion (IsUnkept tests dig log promise) openings
      → ((n : ℕ) → opening_at openings n ≡ None → is_asked log promise.issued promise.due n ≡ false)
      → (n : ℕ) → failure_of_breach tests dig log promise n (opening_at openings n) ≡ None
  none-unkept right other n =
      (elim (opening_at openings n) as (λ o. opening_at openings n ≡ o
      → failure_of_breach tests dig log promise n o ≡ None) [
        | None ↦ λ absent. ap (λ (b : Bool). missing b n) (other n absent)
        | Some x ↦ λ found.
            let r = found-each (IsUnkept tests dig log promise) openings n x right found in
            grind (arith, common_steps, none-from_unkept) steps 20000
      ]) refl

every-unkept : (tests : Tests) (dig : List ℕ → List ℕ) (log : List RootCall) (promise : Promise)
    (os : List RawOpening)
    → AllByRecursion (λ o. is_asked log promise.issued promise.due o.block ≡ true) os
    → AllByRecursion (λ o. opens_block tests log promise.coin o ≡ true) os
    → AllByRecursion (λ o. is_kept dig promise o ≡ false) os
    → AllByRecursion (IsUnkept tests dig log promise) os
every-unkept tests dig log promise [] asked opens unkept = tt
every-unkept tests dig log promise (o ∷ os) asked opens unkept =
    grind (arith, common_steps, every-unkept tests dig log promise os asked.1 opens.1 unkept.1) steps 20000

pub breaches_are_found : OnlyBreachesPass
unfolding breach_of
breaches_are_found tests dig log promise bundle rising is =
    let failures = λ (n : ℕ). failure_of_breach tests dig log promise n (opening_at bundle.openings n) in
    let parts = answered (bundle.tip == promise.due) (lowest_failure failures (above promise.due bundle.openings)) tt
    tt (UnknownBlock bundle.tip) is in
    let none = lowest-none failures (above promise.due bundle.openings) parts.1 in
    let right = unkept-each tests dig log promise bundle.openings rising none in (
      eqb-true bundle.tip promise.due parts.0,
      record {
        blocks = blocks-from_asked log promise.issued promise.due bundle.openings
            (unkept-asked tests dig log promise bundle.openings rising none);
        opened = grind (arith, common_steps, every-weaker) steps 20000;
        unkept = grind (arith, common_steps, every-weaker) steps 20000;
      },
    )

pub breaches_pass : BreachesPass
unfolding breach_of
breaches_pass tests dig log promise bundle e is =
    let failures = λ (n : ℕ). failure_of_breach tests dig log promise n (opening_at bundle.openings n) in
    let asked = asked-from_blocks log promise.issued promise.due bundle.openings is.blocks in
    let right = every-unkept tests dig log promise bundle.openings asked.each
    (recursion_from_All (λ o. opens_block tests log promise.coin o ≡ true) bundle.openings is.opened)
    (recursion_from_All (λ o. is_kept dig promise o ≡ false) bundle.openings is.unkept) in
    let none = lowest-none_from failures (above promise.due bundle.openings)
    (λ n less. none-unkept tests dig log promise bundle.openings right asked.other n) in
    grind (arith, common_steps, eq-eqb) steps 20000
