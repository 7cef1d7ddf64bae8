-- The audit of a bundle, opening by opening.
use Rattle.receipt_audit.proofs.Words.{◌≡◌, ℕ, ◌+◌, ◌<◌, ◌≤◌, Bool, true, false, if◌then◌else◌, List, length, get_or, drop, Some, None, Ok, Err, refl, sym, subst, arith, Result, common_steps, RootCall, RawOpening, Tests, leaf_of_opening, HistoryRefusal, MissingBlock, NotAbsent, AreRising, first_cause, is_asked, opening_at, lowest_failure, above, unless_failed, opening_causes, Promise, is_kept, failure_of_breach}
use Rattle.coin_history.specs.Inside.{NoneIsAsked, IsFirstAsked}
use Rattle.coin_history.proofs.CheckFacts.{Passed, first-here, first-later, failed-none, failed-some, missing-next, failing-next, holding-next, missing-last, holding-last, passed-start, asked-high}

-- what is answered of a bundle whose tip is the due block
abbrev pub breach_by : Tests → (List ℕ → List ℕ) → List RootCall → Promise → List RawOpening
    → Result Unit HistoryRefusal
breach_by tests dig log promise openings =
    unless_failed
    (lowest_failure (λ n. failure_of_breach tests dig log promise n (opening_at openings n)) (above promise.due
    openings)) tt

-- Of what is gone over, which are the openings, so many were passed: nothing fails below this number.
pub record Cleared (tests : Tests) (dig : List ℕ → List ℕ) (log : List RootCall) (promise : Promise)
    (openings items : List RawOpening) (i number : ℕ) : Type 0 where
  pub same : items ≡ openings
  pub passed : Passed (failure_of_breach tests dig log promise) openings (drop i items) number

pub cleared-start : (tests : Tests) (dig : List ℕ → List ℕ) (log : List RootCall) (promise : Promise)
    (openings items : List RawOpening) → AreRising openings → items ≡ openings
    → Cleared tests dig log promise openings items 0 0
cleared-start tests dig log promise openings items rising same = record {
  same = same;
  passed = subst (λ (xs : List RawOpening). Passed (failure_of_breach tests dig log promise) openings xs 0)
      (sym same)
      (passed-start (failure_of_breach tests dig log promise) (is_asked log promise.issued promise.due) (λ n. refl)
      openings rising);
}

-- a block before the next opening is asked
pub cleared-missing : {tests : Tests} {dig : List ℕ → List ℕ} {log : List RootCall} {promise : Promise}
    {openings items : List RawOpening} {i number : ℕ} → Cleared tests dig log promise openings items i number
    → (o : RawOpening) → i < length items → o ≡ get_or items i o
    → (n : ℕ) → IsFirstAsked (is_asked log promise.issued promise.due) number o.block n
    → breach_by tests dig log promise openings ≡ Err (MissingBlock n)
cleared-missing {tests} {dig} {log} {promise} {openings} {items} {i} {number} cleared o inside is n first =
    missing-next (failure_of_breach tests dig log promise) (is_asked log promise.issued promise.due) (λ m. refl)
    openings items promise.due tt i
    o number n (record { same = cleared.same; inside = inside; is = is }) cleared.passed first

-- the next opening isn't asked, or doesn't open its block's root
pub cleared-unopened : {tests : Tests} {dig : List ℕ → List ℕ} {log : List RootCall} {promise : Promise}
    {openings items : List RawOpening} {i number : ℕ} → Cleared tests dig log promise openings items i number
    → (o : RawOpening) → i < length items → o ≡ get_or items i o
    → NoneIsAsked (is_asked log promise.issued promise.due) number o.block
    → (why : HistoryRefusal) → Err why ≡ unless_failed
    (first_cause (opening_causes tests log promise.coin (is_asked log promise.issued promise.due o.block) o))
    (leaf_of_opening o)
    → breach_by tests dig log promise openings ≡ Err why
cleared-unopened {tests} {dig} {log} {promise} {openings} {items} {i} {number} cleared o inside is none why fails =
    let causes = opening_causes tests log promise.coin (is_asked log promise.issued promise.due o.block) o in
    failing-next (failure_of_breach tests dig log promise) (is_asked log promise.issued promise.due) (λ m. refl)
    openings items promise.due tt i
    o number why (record { same = cleared.same; inside = inside; is = is }) cleared.passed none
    (grind (arith, common_steps, first-here, failed-some) steps 20000)

-- the leaf of an opening that opens the root
pub opened-leaf : (tests : Tests) (log : List RootCall) (promise : Promise) (o : RawOpening) (leaf : List ℕ)
    → Ok leaf ≡ unless_failed
    (first_cause (opening_causes tests log promise.coin (is_asked log promise.issued promise.due o.block) o))
    (leaf_of_opening o)
    → leaf ≡ leaf_of_opening o
opened-leaf tests log promise o leaf opens = grind (arith, common_steps, failed-none) steps 20000

-- what the opening fails by where it opens the root, by whether it shows the transfer
kept-opened : (tests : Tests) (dig : List ℕ → List ℕ) (log : List RootCall) (promise : Promise) (o : RawOpening)
    (leaf : List ℕ) (kept : Bool) → Ok leaf ≡ unless_failed
    (first_cause (opening_causes tests log promise.coin (is_asked log promise.issued promise.due o.block) o))
    (leaf_of_opening o)
    → is_kept dig promise o ≡ kept
    → failure_of_breach tests dig log promise o.block (Some o) ≡ (if kept then Some (NotAbsent o.block) else None)
kept-opened tests dig log promise o leaf kept opens is =
    grind (arith, common_steps, first-later, failed-none) steps 20000

-- the next opening opens the root to the promised transfer
pub cleared-kept : {tests : Tests} {dig : List ℕ → List ℕ} {log : List RootCall} {promise : Promise}
    {openings items : List RawOpening} {i number : ℕ} → Cleared tests dig log promise openings items i number
    → (o : RawOpening) → i < length items → o ≡ get_or items i o
    → NoneIsAsked (is_asked log promise.issued promise.due) number o.block
    → (leaf : List ℕ) → Ok leaf ≡ unless_failed
    (first_cause (opening_causes tests log promise.coin (is_asked log promise.issued promise.due o.block) o))
    (leaf_of_opening o)
    → is_kept dig promise o ≡ true
    → breach_by tests dig log promise openings ≡ Err (NotAbsent o.block)
cleared-kept {tests} {dig} {log} {promise} {openings} {items} {i} {number} cleared o inside is none leaf opens kept =
    failing-next (failure_of_breach tests dig log promise) (is_asked log promise.issued promise.due) (λ m. refl)
    openings items promise.due tt i
    o number (NotAbsent o.block) (record { same = cleared.same; inside = inside; is = is }) cleared.passed none
    (kept-opened tests dig log promise o leaf true opens kept)

-- it opens the root to nothing or to another leaf
pub cleared-next : {tests : Tests} {dig : List ℕ → List ℕ} {log : List RootCall} {promise : Promise}
    {openings items : List RawOpening} {i number : ℕ} → Cleared tests dig log promise openings items i number
    → (o : RawOpening) → i < length items → o ≡ get_or items i o
    → NoneIsAsked (is_asked log promise.issued promise.due) number o.block
    → (leaf : List ℕ) → Ok leaf ≡ unless_failed
    (first_cause (opening_causes tests log promise.coin (is_asked log promise.issued promise.due o.block) o))
    (leaf_of_opening o)
    → is_kept dig promise o ≡ false
    → (behind : ℕ) → behind ≡ o.block + 1 → Cleared tests dig log promise openings items (i + 1) behind
cleared-next {tests} {dig} {log} {promise} {openings} {items} {i} {number} cleared o inside is none leaf opens unkept
    behind above-it = record {
      same = cleared.same;
      passed = subst (λ (m : ℕ). Passed (failure_of_breach tests dig log promise) openings (drop (i + 1) items) m)
          (sym above-it)
          (holding-next (failure_of_breach tests dig log promise) (is_asked log promise.issued promise.due) (λ m. refl)
          openings items promise.due
          i o number (record { same = cleared.same; inside = inside; is = is }) cleared.passed none
          (kept-opened tests dig log promise o leaf false opens unkept));
    }

-- a block behind all openings is asked
pub cleared-behind : {tests : Tests} {dig : List ℕ → List ℕ} {log : List RootCall} {promise : Promise}
    {openings items : List RawOpening} {i number : ℕ} → Cleared tests dig log promise openings items i number
    → length items ≤ i
    → (end : ℕ) → end ≡ promise.due + 1
    → (n : ℕ) → IsFirstAsked (is_asked log promise.issued promise.due) number end n
    → breach_by tests dig log promise openings ≡ Err (MissingBlock n)
cleared-behind {tests} {dig} {log} {promise} {openings} {items} {i} {number} cleared long end is n first =
    missing-last (failure_of_breach tests dig log promise) (is_asked log promise.issued promise.due) (λ m. refl)
    openings items promise.due tt i
    number n long cleared.passed
    (subst (λ (m : ℕ). IsFirstAsked (is_asked log promise.issued promise.due) number m n) is first)

-- none is
pub cleared-end : {tests : Tests} {dig : List ℕ → List ℕ} {log : List RootCall} {promise : Promise}
    {openings items : List RawOpening} {i number : ℕ} → Cleared tests dig log promise openings items i number
    → length items ≤ i
    → (end : ℕ) → end ≡ promise.due + 1 → NoneIsAsked (is_asked log promise.issued promise.due) number end
    → breach_by tests dig log promise openings ≡ Ok tt
cleared-end {tests} {dig} {log} {promise} {openings} {items} {i} {number} cleared long end is none =
    holding-last (failure_of_breach tests dig log promise) (is_asked log promise.issued promise.due) (λ m. refl)
    openings items promise.due tt i
    number long cleared.passed
    (subst (λ (m : ℕ). NoneIsAsked (is_asked log promise.issued promise.due) number m) is none)
    (asked-high log promise.issued promise.due)
