-- The check answers a bundle its links exactly where it is a history with these links.
use Rattle.coin_history.proofs.Words.{◌≡◌, ℕ, suc, ◌<◌, ◌==◌, ◌&&◌, not, Bool, true, false, if◌then◌else◌, List, [], ◌∷◌, ◌++◌, Option, Some, None, Ok, Err, inl, inr, refl, sym, ap, ◌∙◌, subst, arith, nat_lt, ◌||◌, AllByRecursion, eqb-true, eq-eqb, and_from, or_cases, or_right, lt-ltb, le-leb, true≢false, false_from_ne_true, not-false, recursion_from_All, All-from_recursion, common_steps, RawOpening, SignedTx, Links, RootCall, CoinView, tip_of, coin_at, some_same, Tests, Rules, spends, Bundle, HistoryRefusal, AreRising, is_committed, opens_block, is_absent, transfer_of, links_in, links_of, AreLinked, IsHistory, Cause, first_cause, is_asked, opening_at, missing, opening_causes, links_before, link_causes, failure_in, lowest_failure, above, unless_failed, may_be_tip, checked, history_of, OnlyHistoriesPass, HistoriesPass}
use Rattle.coin_history.proofs.HistoryOpenings.{Up, lowest-none, lowest-none_from, Up, up-rising, up-each, each-found, found-each, above-block, found-below, asked-parts, AreAsked, are-asked, nothing-asked, blocks-from_asked, asked-from_blocks, found-block, rising-up}
use Rattle.coin_history.proofs.HistoryLinks.{every-weaker, tip_from, tip-is, absent-none, none-linked, IsLeaf, IsNext, IsSome, linked, are-next, tip-reached, tip-found}

-- ---- causes

pub causes-none : (causes : List Cause) → first_cause causes ≡ None → AllByRecursion (λ cause. cause.0 ≡ false) causes
causes-none [] is = tt
causes-none (cause ∷ causes) is =
    (elim cause.0 as (λ b. cause.0 ≡ b → (if b then Some cause.1 else first_cause causes) ≡ None
    → (cause.0 ≡ false) × AllByRecursion (λ cause. cause.0 ≡ false) causes) [
      | true ↦ λ holds wrong. absurd (cc wrong)
      | false ↦ λ fails same. (fails, causes-none causes same)
    ]) refl is

pub none-causes : (causes : List Cause) → AllByRecursion (λ cause. cause.0 ≡ false) causes → first_cause causes ≡ None
none-causes [] all = refl
none-causes (cause ∷ causes) all =
    ap (λ (b : Bool). if b then Some cause.1 else first_cause causes) all.0 ∙ none-causes causes all.1

-- nothing is wrong with an opening of a history
pub record IsRight (tests : Tests) (rules : Rules) (log : List RootCall) (tip : ℕ) (links : Links)
    (o : RawOpening) : Type 0 where
  pub asked : is_asked log links.deposit tip o.block ≡ true
  pub opens : opens_block tests log links.coin o ≡ true
  pub next : IsNext tests rules tip (links_before o.block links) o

pub right-from_none : (tests : Tests) (rules : Rules) (log : List RootCall) (tip : ℕ) (links : Links) (o : RawOpening)
    → failure_in tests rules log tip links o.block (Some o) ≡ None → IsRight tests rules log tip links o
right-from_none tests rules log tip links o is =
    let all = causes-none (opening_causes tests log links.coin (is_asked log links.deposit tip o.block) o
    ++ link_causes tests rules tip (links_before o.block links) o) is in
    grind (arith, common_steps, not-false) steps 20000

pub none-from_right : (tests : Tests) (rules : Rules) (log : List RootCall) (tip : ℕ) (links : Links) (o : RawOpening)
    → IsRight tests rules log tip links o → failure_in tests rules log tip links o.block (Some o) ≡ None
none-from_right tests rules log tip links o right = grind (arith, common_steps, none-causes) steps 20000

pub missing-none : (asked : Bool) (n : ℕ) → missing asked n ≡ None → asked ≡ false
missing-none true n is = absurd (cc is)
missing-none false n is = refl

-- ---- a history that is found

-- what an answer tells
pub answered : {A : Type 0} (may : Bool) (failed : Option HistoryRefusal) (answer other : A) (why : HistoryRefusal)
    → (if may then unless_failed failed answer else Err why) ≡ Ok other
    → (may ≡ true) × (failed ≡ None) × (answer ≡ other)
answered may failed answer other why is = grind (arith, common_steps) steps 20000

-- openings of which none fails are right, and those of the blocks asked
module _ (tests : Tests) (rules : Rules) (log : List RootCall) (tip : ℕ) (links : Links)
    (openings : List RawOpening) where
  pub right-each : AreRising openings
      → ((n : ℕ) → n < above tip openings → failure_in tests rules log tip links n (opening_at openings n) ≡ None)
      → AllByRecursion (IsRight tests rules log tip links) openings
  right-each rising none =
      each-found (IsRight tests rules log tip links) 0 openings (up-rising openings rising)
      (λ n o found.
      let at = found-block openings n o found in
      right-from_none tests rules log tip links o
      (subst (λ (k : ℕ). failure_in tests rules log tip links k (Some o) ≡ None) (sym at)
      (ap (failure_in tests rules log tip links n) (sym found) ∙ none n (found-below tip openings n o found))))

  pub asked-each : AreRising openings
      → ((n : ℕ) → n < above tip openings → failure_in tests rules log tip links n (opening_at openings n) ≡ None)
      → AreAsked log links.deposit tip openings
  asked-each rising none =
      let right = right-each rising none in
      let asked = every-weaker (IsRight tests rules log tip links) (λ o. is_asked log links.deposit tip o.block ≡ true)
      (λ o is. is.asked) openings right in
      are-asked log links.deposit tip openings rising asked
      (grind (arith, common_steps, false_from_ne_true, asked-parts, true≢false, missing-none, above-block) steps 20000)

-- an opening that is next at the tip is a link
tip-some : (block tip k : ℕ) (a : Bool) (t : Option SignedTx) → block ≡ tip
    → (if a then not (block == tip) else spends k t) ≡ true → IsSome t
tip-some block tip k a t e next = grind (arith, common_steps, true≢false, eq-eqb) steps 20000

found-made : (tests : Tests) (rules : Rules) (log : List RootCall) (bundle : Bundle) (links : Links) (made : CoinView)
    → AreRising bundle.openings → coin_at log bundle.coin ≡ Some made
    → checked tests rules log bundle (links_of rules made bundle) ≡ Ok links → IsHistory tests rules log bundle links
found-made tests rules log bundle links made rising coin is =
    let own : Links = links_of rules made bundle in
    let failures = λ (n : ℕ). failure_in tests rules log bundle.tip own n (opening_at bundle.openings n) in
    let parts = answered (may_be_tip log made.deposit bundle.tip)
    (lowest_failure failures (above bundle.tip bundle.openings)) own links _ is in
    let none = lowest-none failures (above bundle.tip bundle.openings) parts.1 in
    let right = right-each tests rules log bundle.tip own bundle.openings rising none in
    let asked = asked-each tests rules log bundle.tip own bundle.openings rising none in
    let both = linked tests rules bundle.tip own 0 [] bundle.openings tt (up-rising bundle.openings rising) refl
    (grind (arith, common_steps, every-weaker) steps 20000) in
    subst (IsHistory tests rules log bundle) parts.2
    (record {
      made = made;
      coin = coin;
      blocks = blocks-from_asked log made.deposit bundle.tip bundle.openings asked;
      opened = grind (arith, common_steps, every-weaker) steps 20000;
      leaves = All-from_recursion (IsLeaf rules bundle.coin) bundle.openings both.0;
      shown = refl;
      linked = both.1;
      tip = tip-is own ∙ at-tip asked right parts.0;
    })
  where
    at-tip : AreAsked log made.deposit bundle.tip bundle.openings
        → AllByRecursion (IsRight tests rules log bundle.tip (links_of rules made bundle)) bundle.openings
        → may_be_tip log made.deposit bundle.tip ≡ true
        → tip_from made.deposit (links_in rules bundle.coin bundle.openings) ≡ bundle.tip
    at-tip asked right may =
        elim (or_cases (bundle.tip == made.deposit)
        (is_committed log bundle.tip && nat_lt made.deposit bundle.tip) may) [
          | inl same ↦
              grind (arith, common_steps, eqb-true, tip_from, nothing-asked, none-linked) steps 20000
          | inr after ↦
              let is = and_from (is_committed log bundle.tip && nat_lt made.deposit bundle.tip)
              _ after (le-leb bundle.tip bundle.tip (omega arith)) in
              (elim (opening_at bundle.openings bundle.tip) as (λ o. opening_at bundle.openings bundle.tip ≡ o
              → tip_from made.deposit (links_in rules bundle.coin bundle.openings) ≡ bundle.tip) [
                | None ↦ λ absent. absurd (true≢false (sym is ∙ asked.other bundle.tip absent))
                | Some x ↦ λ found.
                    let r = found-each (IsRight tests rules log bundle.tip (links_of rules made bundle))
                    bundle.openings bundle.tip x right found in
                    tip-reached rules bundle.coin bundle.tip (suc made.deposit) made.deposit bundle.openings asked.up
                    (grind (arith, common_steps, every-weaker, asked-parts) steps 20000)
                    x found
                    (tip-some x.block bundle.tip _ (is_absent x) (transfer_of rules bundle.coin x) r.0 r.1.next.0)
              ]) refl
        ]

pub histories_are_found : OnlyHistoriesPass
unfolding history_of
histories_are_found tests rules log bundle links rising is = grind (arith, common_steps, found-made) steps 20000

-- ---- a history passes

-- where each opening is right, and each block without one isn't asked, nothing fails
pub none-fails : (tests : Tests) (rules : Rules) (log : List RootCall) (tip : ℕ) (links : Links)
    (openings : List RawOpening) → AllByRecursion (IsRight tests rules log tip links) openings
    → ((n : ℕ) → opening_at openings n ≡ None → is_asked log links.deposit tip n ≡ false)
    → (n : ℕ) → failure_in tests rules log tip links n (opening_at openings n) ≡ None
none-fails tests rules log tip links openings right other n =
    (elim (opening_at openings n) as (λ o. opening_at openings n ≡ o
    → failure_in tests rules log tip links n o ≡ None) [
      | None ↦ λ absent. ap (λ (b : Bool). missing b n) (other n absent)
      | Some x ↦ λ found.
          let r = found-each (IsRight tests rules log tip links) openings n x right found in
          grind (arith, common_steps, none-from_right) steps 20000
    ]) refl

-- an empty leaf isn't at the tip
pub absent-apart : (rules : Rules) (coin tip deposit : ℕ) (os : List RawOpening) → Up (suc deposit) os
    → tip_from deposit (links_in rules coin os) ≡ tip
    → AllByRecursion (λ o. is_absent o ≡ true → o.block ≡ tip → ⊥) os
absent-apart rules coin tip deposit os up is =
    each-found (λ o. is_absent o ≡ true → o.block ≡ tip → ⊥) (suc deposit) os up
    (grind (arith, common_steps, found-each, up-each, tip-found, true≢false, absent-none, some_same) steps 20000)

-- the tip of a history may be one
tip-may : (log : List RootCall) (rules : Rules) (coin tip deposit : ℕ) (os : List RawOpening)
    → AreAsked log deposit tip os → tip_from deposit (links_in rules coin os) ≡ tip → may_be_tip log deposit tip ≡ true
tip-may log rules coin tip deposit os asked is =
    elim (tip-found rules coin tip (suc deposit) deposit os asked.up is) [
      | inl e ↦ ap (λ (b : Bool). b || (is_committed log tip && nat_lt deposit tip)) (eq-eqb tip deposit (sym e))
      | inr shown ↦
          let at = found-each (λ o. is_asked log deposit tip o.block ≡ true) os tip shown.0 asked.each shown.1 in
          grind (arith, common_steps, asked-parts, or_right, and_from, lt-ltb) steps 20000
    ]

every-right : (tests : Tests) (rules : Rules) (log : List RootCall) (tip : ℕ) (links : Links) (os : List RawOpening)
    → AllByRecursion (λ o. is_asked log links.deposit tip o.block ≡ true) os
    → AllByRecursion (λ o. opens_block tests log links.coin o ≡ true) os
    → AllByRecursion (λ o. IsNext tests rules tip (links_before o.block links) o) os
    → AllByRecursion (IsRight tests rules log tip links) os
every-right tests rules log tip links [] asked opens next = tt
every-right tests rules log tip links (o ∷ os) asked opens next =
    grind (arith, common_steps, every-right tests rules log tip links os asked.1 opens.1 next.1) steps 20000

-- each opening of a history is right
pub history-right : (tests : Tests) (rules : Rules) (log : List RootCall) (bundle : Bundle) (links : Links)
    (is : IsHistory tests rules log bundle links)
    → AllByRecursion (IsRight tests rules log bundle.tip (links_of rules is.made bundle)) bundle.openings
history-right tests rules log bundle links is =
    let own : Links = links_of rules is.made bundle in
    let asked = asked-from_blocks log is.made.deposit bundle.tip bundle.openings is.blocks in
    let last : tip_of own ≡ bundle.tip = ap tip_of (sym is.shown) ∙ is.tip in
    every-right tests rules log bundle.tip own bundle.openings asked.each
    (recursion_from_All (λ o. opens_block tests log bundle.coin o ≡ true) bundle.openings is.opened)
    (are-next tests rules bundle.tip own (suc is.made.deposit) [] bundle.openings tt asked.up refl
    (recursion_from_All (IsLeaf rules bundle.coin) bundle.openings is.leaves)
    (absent-apart rules bundle.coin bundle.tip is.made.deposit bundle.openings asked.up (sym (tip-is own) ∙ last))
    (subst (λ (x : Links). AreLinked tests x.deposit x.owner x.spends) is.shown is.linked))

pub histories_pass : HistoriesPass
unfolding history_of
histories_pass tests rules log bundle links is =
    let own : Links = links_of rules is.made bundle in
    let asked = asked-from_blocks log is.made.deposit bundle.tip bundle.openings is.blocks in
    let failures = λ (n : ℕ). failure_in tests rules log bundle.tip own n (opening_at bundle.openings n) in
    let last : tip_of own ≡ bundle.tip = ap tip_of (sym is.shown) ∙ is.tip in
    let may = tip-may log rules bundle.coin bundle.tip is.made.deposit bundle.openings asked
    (sym (tip-is own) ∙ last) in
    let none = lowest-none_from failures (above bundle.tip bundle.openings)
    (λ n less. none-fails tests rules log bundle.tip own bundle.openings
    (history-right tests rules log bundle links is) asked.other n) in
    grind (arith, common_steps) steps 20000

-- the blocks of a history rise
pub history-rises : (tests : Tests) (rules : Rules) (log : List RootCall) (bundle : Bundle) (links : Links)
    → IsHistory tests rules log bundle links → AreRising bundle.openings
history-rises tests rules log bundle links is =
    let asked = asked-from_blocks log is.made.deposit bundle.tip bundle.openings is.blocks in
    rising-up (suc is.made.deposit) bundle.openings asked.up
