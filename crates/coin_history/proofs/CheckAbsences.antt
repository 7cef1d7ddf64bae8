-- An absence, opening by opening.
use Rattle.coin_history.proofs.Words.{◌≡◌, ℕ, ◌+◌, ◌<◌, ◌≤◌, ◌==◌, not, Bool, true, false, if◌then◌else◌, List, length, get_or, drop, Some, None, Ok, Err, refl, sym, subst, arith, Result, common_steps, RootCall, RawOpening, Tests, leaf_of_opening, HistoryRefusal, MissingBlock, NotAbsent, AreRising, first_cause, is_asked, opening_at, lowest_failure, above, unless_failed, opening_causes, failure_of_absence, IsLookedAt, NoneIsAsked, IsFirstAsked}
use Rattle.coin_history.proofs.CheckFacts.{Passed, IsAt, first-here, first-later, failed-none, failed-some, absent-from, missing-next, failing-next, holding-next, looked-at, missing-last, holding-last, passed-start, asked-high}

-- what is answered of a bundle whose tip is the last block
abbrev pub absence_by : Tests → List RootCall → ℕ → ℕ → ℕ → List RawOpening → Result Unit HistoryRefusal
absence_by tests log coin after last openings =
    unless_failed
    (lowest_failure (λ n. failure_of_absence tests log coin after last n (opening_at openings n)) (above last
    openings)) tt

-- Of what is gone over, which are the openings, so many were passed: nothing fails below this number.
pub record Cleared (tests : Tests) (log : List RootCall) (coin after last : ℕ) (openings items : List RawOpening)
    (i number : ℕ) : Type 0 where
  pub same : items ≡ openings
  pub passed : Passed (failure_of_absence tests log coin after last) openings (drop i items) number

pub cleared-start : (tests : Tests) (log : List RootCall) (coin after last : ℕ) (openings items : List RawOpening)
    → AreRising openings → items ≡ openings → Cleared tests log coin after last openings items 0 0
cleared-start tests log coin after last openings items rising same = record {
  same = same;
  passed = subst (λ (xs : List RawOpening). Passed (failure_of_absence tests log coin after last) openings xs 0)
      (sym same)
      (passed-start (failure_of_absence tests log coin after last) (is_asked log after last) (λ n. refl) openings
      rising);
}

-- what the opening fails by where it opens the root, by whether its leaf has bytes
presence-opened : (tests : Tests) (log : List RootCall) (coin after last : ℕ) (o : RawOpening) (leaf : List ℕ)
    (empty : Bool) → Ok leaf ≡ unless_failed
    (first_cause (opening_causes tests log coin (is_asked log after last o.block) o)) (leaf_of_opening o)
    → (length leaf == 0) ≡ empty
    → failure_of_absence tests log coin after last o.block (Some o) ≡ (if not empty then Some (NotAbsent o.block)
    else None)
presence-opened tests log coin after last o leaf empty opens is =
    let read = failed-none (first_cause (opening_causes tests log coin (is_asked log after last o.block) o))
    (leaf_of_opening o) leaf (sym opens) in
    grind (arith, common_steps, first-later, absent-from) steps 20000

-- what is answered of the openings from here on
module _ {tests : Tests} {log : List RootCall} {coin after last : ℕ} {openings items : List RawOpening} {i number : ℕ}
    (cleared : Cleared tests log coin after last openings items i number) where
  -- the next opening
  module _ (o : RawOpening) (inside : i < length items) (is : o ≡ get_or items i o) where
    place : IsAt openings items i o
    place = record { same = cleared.same; inside = inside; is = is }

    -- a block before it is asked
    pub cleared-missing : (n : ℕ) → IsFirstAsked (is_asked log after last) number o.block n
        → absence_by tests log coin after last openings ≡ Err (MissingBlock n)
    cleared-missing n first =
        missing-next (failure_of_absence tests log coin after last) (is_asked log after last) (λ m. refl) openings
        items last tt i o number n place cleared.passed first

    module _ (none : NoneIsAsked (is_asked log after last) number o.block) where
      -- it is looked at
      pub cleared-looked : is_asked log after last o.block ≡ true
          → IsLookedAt (is_asked log after last)
          (λ n. failure_of_absence tests log coin after last n (opening_at openings n)) openings
      cleared-looked asked =
          looked-at (failure_of_absence tests log coin after last) (is_asked log after last) (λ m. refl) openings
          items last i o number place cleared.passed none asked

      -- it isn't asked, or doesn't open its block's root
      pub cleared-unopened : (why : HistoryRefusal) → Err why ≡ unless_failed
          (first_cause (opening_causes tests log coin (is_asked log after last o.block) o)) (leaf_of_opening o)
          → absence_by tests log coin after last openings ≡ Err why
      cleared-unopened why fails =
          failing-next (failure_of_absence tests log coin after last) (is_asked log after last) (λ m. refl) openings
          items last tt i o number why place cleared.passed none
          (grind (arith, common_steps, first-here, failed-some) steps 20000)

      module _ (leaf : List ℕ) (opens : Ok leaf ≡ unless_failed
          (first_cause (opening_causes tests log coin (is_asked log after last o.block) o)) (leaf_of_opening o))
        where
          -- it opens the root to a leaf with bytes
          pub cleared-present : (length leaf == 0) ≡ false
              → absence_by tests log coin after last openings ≡ Err (NotAbsent o.block)
          cleared-present bytes =
              failing-next (failure_of_absence tests log coin after last) (is_asked log after last) (λ m. refl)
              openings items last tt i o number (NotAbsent o.block) place cleared.passed none
              (presence-opened tests log coin after last o leaf false opens bytes)

          -- it opens the root to an empty leaf
          pub cleared-next : (length leaf == 0) ≡ true → (behind : ℕ) → behind ≡ o.block + 1
              → Cleared tests log coin after last openings items (i + 1) behind
          cleared-next empty behind above-it = record {
            same = cleared.same;
            passed = subst
                (λ (m : ℕ). Passed (failure_of_absence tests log coin after last) openings (drop (i + 1) items) m)
                (sym above-it)
                (holding-next (failure_of_absence tests log coin after last) (is_asked log after last) (λ m. refl)
                openings items last i o number place cleared.passed none
                (presence-opened tests log coin after last o leaf true opens empty));
          }

  -- the openings are at their end
  module _ (long : length items ≤ i) (end : ℕ) (at-end : end ≡ last + 1) where
    -- a block behind them is asked
    pub cleared-behind : (n : ℕ) → IsFirstAsked (is_asked log after last) number end n
        → absence_by tests log coin after last openings ≡ Err (MissingBlock n)
    cleared-behind n first =
        missing-last (failure_of_absence tests log coin after last) (is_asked log after last) (λ m. refl) openings
        items last tt i number n long cleared.passed
        (subst (λ (m : ℕ). IsFirstAsked (is_asked log after last) number m n) at-end first)

    -- none is
    pub cleared-end : NoneIsAsked (is_asked log after last) number end
        → absence_by tests log coin after last openings ≡ Ok tt
    cleared-end none =
        holding-last (failure_of_absence tests log coin after last) (is_asked log after last) (λ m. refl) openings
        items last tt i number long cleared.passed
        (subst (λ (m : ℕ). NoneIsAsked (is_asked log after last) number m) at-end none)
        (asked-high log after last)
