-- What the check of a bundle rests on: the blocks that are asked for, and the openings that were passed.
use Rattle.coin_history.proofs.Words.{◌≡◌, ℕ, zero, suc, ◌+◌, ◌<◌, ◌≤◌, ◌==◌, Bool, true, false, List, [], ◌∷◌, ◌++◌, length, get_or, drop, Option, Some, None, Ok, Err, inl, inr, refl, sym, ap, ◌∙◌, subst, arith, Result, option_or, drop_more, drop_all, slice_get_read, cases_eq, cases_lt, eq-eqb, ne_eqb, and_parts, false_from_ne_true, common_steps, RootCall, RawOpening, BlockView, CoinView, Deposit, Commit, blocks, coins, block_at, coin_at, some_same, Tests, Rules, Bundle, is_committed, leaf_of_opening, is_empty, is_absent, links_in, tagged, HistoryRefusal, MissingBlock, AreRising, Cause, first_cause, is_asked, opening_at, missing, lowest_failure, above, unless_failed, may_be_tip, history_of, opening_causes, IsLookedAt, LooksAtHistory, NoneIsAsked, IsFirstAsked}
pub use Rattle.coin_history.proofs.HistoryOpenings.{asked-parts, lowest-none_from, lowest-some_from, Up, up-rising, up-weaker, at-head, past-head, below-none, above-block}

-- ---- the blocks that are asked for

-- none is asked up to low, and none above high
pub asked-low : (log : List RootCall) (low high n : ℕ) → n ≤ low → is_asked log low high n ≡ false
asked-low log low high n le = false_from_ne_true (is_asked log low high n)
    (λ asked. let parts = asked-parts log low high n asked in omega (arith, parts.1))

pub asked-high : (log : List RootCall) (low high n : ℕ) → high < n → is_asked log low high n ≡ false
asked-high log low high n more = false_from_ne_true (is_asked log low high n)
    (λ asked. let parts = asked-parts log low high n asked in omega (arith, parts.2))

pub empty-is : (leaf : List ℕ) → is_empty leaf ≡ true → leaf ≡ []
empty-is [] is = refl
empty-is (byte ∷ bytes) is = absurd (cc is)

-- a leaf is empty where it has no bytes
pub empty-from : (leaf : List ℕ) → (length leaf == 0) ≡ is_empty leaf
empty-from [] = refl
empty-from (byte ∷ bytes) = ne_eqb (length (byte ∷ bytes)) 0 (λ e. omega arith)

-- the leaf of an opening is empty where it has no bytes
pub absent-from : (leaf : List ℕ) (opening : RawOpening) (b : Bool) → leaf ≡ leaf_of_opening opening
    → (length leaf == 0) ≡ b → is_absent opening ≡ b
absent-from leaf opening b shown is = ap is_empty (sym shown) ∙ sym (empty-from leaf) ∙ is

-- ---- causes

-- the first cause of two lists is the first of the one, or else of the other
pub first-append : (causes others : List Cause)
    → first_cause (causes ++ others) ≡ option_or (first_cause causes) (first_cause others)
first-append [] others = refl
first-append (cause ∷ causes) others = grind (arith, common_steps, first-append causes others) steps 20000

pub first-here : (causes others : List Cause) (why : HistoryRefusal) → first_cause causes ≡ Some why
    → first_cause (causes ++ others) ≡ Some why
first-here causes others why is =
    first-append causes others ∙ ap (λ (o : Option HistoryRefusal). option_or o (first_cause others)) is

pub first-later : (causes others : List Cause) → first_cause causes ≡ None
    → first_cause (causes ++ others) ≡ first_cause others
first-later causes others is =
    first-append causes others ∙ ap (λ (o : Option HistoryRefusal). option_or o (first_cause others)) is

pub refusal-same : {A : Type 0} (why other : HistoryRefusal)
    → ◌≡◌ {A = Result A HistoryRefusal} (Err why) (Err other) → why ≡ other
refusal-same why other is = cc

-- what is answered where nothing failed, and what failed where that is answered
pub failed-none : {A : Type 0} (failure : Option HistoryRefusal) (answer other : A)
    → unless_failed failure answer ≡ Ok other → (failure ≡ None) × (answer ≡ other)
failed-none None answer other is = (refl, cc)
failed-none (Some why) answer other is = absurd (cc is)

pub failed-some : {A : Type 0} (failure : Option HistoryRefusal) (answer : A) (why : HistoryRefusal)
    → unless_failed failure answer ≡ Err why → failure ≡ Some why
failed-some None answer why is = absurd (cc is)
failed-some (Some other) answer why is = cc

-- an opening whose leaf was read has to be opened
pub opened-asked : (tests : Tests) (log : List RootCall) (coin : ℕ) (asked : Bool) (o : RawOpening)
    (leaf read : List ℕ) → unless_failed (first_cause (opening_causes tests log coin asked o)) leaf ≡ Ok read
    → asked ≡ true
opened-asked tests log coin true o leaf read is = refl
opened-asked tests log coin false o leaf read is = absurd (cc is)

-- ---- the lowest failure

-- ---- rising blocks

-- ---- the opening of a block

-- ---- the number above all

pub above-at : (block : ℕ) (openings : List RawOpening) (i : ℕ) (o : RawOpening) → i < length openings
    → o ≡ get_or openings i o → o.block < above block openings
unfolding above
above-at block openings i o less is =
    subst (λ (x : RawOpening). x.block < above block openings) (sym is) (each openings i less)
  where
    each : (os : List RawOpening) (k : ℕ) → k < length os → (get_or os k o).block < above block os
    each [] k long = absurd (omega arith)
    each (x ∷ xs) zero long = omega arith
    each (x ∷ xs) (suc k) long = omega (arith, each xs k (omega arith))

-- ---- openings that were passed

-- Of openings, those before the rest were passed: below this number nothing fails, and at it or above the rest has
-- the openings.
pub record Passed (failure : ℕ → Option RawOpening → Option HistoryRefusal) (openings rest : List RawOpening)
    (passed : ℕ) : Type 0 where
  pub up : Up passed rest
  pub found : (n : ℕ) → passed ≤ n → opening_at openings n ≡ opening_at rest n
  pub clear : (n : ℕ) → n < passed → failure n (opening_at openings n) ≡ None

-- what is left at an index of openings
pub rest-at : (openings : List RawOpening) (i : ℕ) (o : RawOpening) → i < length openings
    → o ≡ get_or openings i o → drop i openings ≡ o ∷ drop (i + 1) openings
rest-at openings i o less is =
    drop_more openings i o less ∙ ap (λ (x : RawOpening). x ∷ drop (i + 1) openings) (sym is)

module _ (failure : ℕ → Option RawOpening → Option HistoryRefusal) (asked : ℕ → Bool)
    (unopened : (n : ℕ) → failure n None ≡ missing (asked n) n) (openings : List RawOpening) where
  pub passed-start : AreRising openings → Passed failure openings openings 0
  passed-start rising = grind (arith, common_steps, up-rising) steps 20000

  unasked : (n : ℕ) → asked n ≡ false → failure n None ≡ None
  unasked n is = unopened n ∙ ap (λ (b : Bool). missing b n) is

  -- nothing fails below a number where the rest begins there or above, and none was asked between
  pub clear-below : (rest : List RawOpening) (passed to : ℕ) → Passed failure openings rest passed → Up to rest
      → NoneIsAsked asked passed to → (n : ℕ) → n < to → failure n (opening_at openings n) ≡ None
  clear-below rest passed to are up none n less = grind (arith, common_steps, cases_lt, below-none, unasked) steps 20000

  -- the first block that is asked and passed over is the lowest failure
  pub refused-missing : (rest : List RawOpening) (passed to n : ℕ) → Passed failure openings rest passed → Up to rest
      → IsFirstAsked asked passed to n → (top : ℕ) → n < top
      → lowest_failure (λ m. failure m (opening_at openings m)) top ≡ Some (MissingBlock n)
  refused-missing rest passed to n are up first top less =
      lowest-some_from (λ m. failure m (opening_at openings m)) top n (MissingBlock n) less
      (grind (arith, common_steps, below-none) steps 20000)
      (clear-below rest passed n are (up-weaker n to rest (omega (arith, first.high)) up) first.first)

  -- where the next opening fails, that is the lowest failure
  pub refused-opened : (o : RawOpening) (rest : List RawOpening) (passed : ℕ) (why : HistoryRefusal)
      → Passed failure openings (o ∷ rest) passed → NoneIsAsked asked passed o.block
      → failure o.block (Some o) ≡ Some why → (top : ℕ) → o.block < top
      → lowest_failure (λ m. failure m (opening_at openings m)) top ≡ Some why
  refused-opened o rest passed why are none fails top less =
      lowest-some_from (λ m. failure m (opening_at openings m)) top o.block why less
      (ap (failure o.block) (are.found o.block are.up.0 ∙ at-head o.block o rest refl) ∙ fails)
      (clear-below (o ∷ rest) passed o.block are (omega arith, are.up.1) none)

  pub passed-next : (o : RawOpening) (rest : List RawOpening) (passed : ℕ)
      → Passed failure openings (o ∷ rest) passed → NoneIsAsked asked passed o.block
      → failure o.block (Some o) ≡ None → Passed failure openings rest (o.block + 1)
  passed-next o rest passed are none holds = record {
    up = up-weaker (o.block + 1) (suc o.block) rest (omega arith) are.up.1;
    found = λ n le. are.found n (omega (arith, are.up.0)) ∙ past-head n o rest (λ e. omega arith);
    clear = λ n less. elim (cases_lt n o.block) [
      | inl below ↦ clear-below (o ∷ rest) passed o.block are (omega arith, are.up.1) none n below
      | inr more ↦
          grind (arith, common_steps, at-head) steps 20000
    ];
  }

  -- nothing fails where all were passed and none is asked behind them
  pub passed-all : (passed to : ℕ) → Passed failure openings [] passed → NoneIsAsked asked passed to
      → ((n : ℕ) → to ≤ n → asked n ≡ false) → (top : ℕ)
      → lowest_failure (λ m. failure m (opening_at openings m)) top ≡ None
  passed-all passed to are none behind top =
      grind (arith, common_steps, lowest-none_from, cases_lt, clear-below, unasked) steps 20000

-- the opening at an index of what is gone over, which are these openings
pub record IsAt (openings items : List RawOpening) (i : ℕ) (o : RawOpening) : Type 0 where
  pub same : items ≡ openings
  pub inside : i < length items
  pub is : o ≡ get_or items i o

module _ (failure : ℕ → Option RawOpening → Option HistoryRefusal) (asked : ℕ → Bool)
    (unopened : (n : ℕ) → failure n None ≡ missing (asked n) n) (openings items : List RawOpening) (high : ℕ) where
  pub at-index : (i : ℕ) (o : RawOpening) (passed : ℕ) → IsAt openings items i o
      → Passed failure openings (drop i items) passed → Passed failure openings (o ∷ drop (i + 1) items) passed
  at-index i o passed at are =
      subst (λ (rest : List RawOpening). Passed failure openings rest passed) (rest-at items i o at.inside at.is) are

  at-above : (i : ℕ) (o : RawOpening) → IsAt openings items i o → o.block < above high openings
  at-above i o at =
      subst (λ (xs : List RawOpening). o.block < above high xs) at.same (above-at high items i o at.inside at.is)

  -- what is answered where a block before the next opening is asked
  pub missing-next : {A : Type 0} (answer : A) (i : ℕ) (o : RawOpening) (passed n : ℕ) → IsAt openings items i o
      → Passed failure openings (drop i items) passed → IsFirstAsked asked passed o.block n
      → unless_failed (lowest_failure (λ m. failure m (opening_at openings m)) (above high openings)) answer
      ≡ Err (MissingBlock n)
  missing-next answer i o passed n at are first =
      let here = at-index i o passed at are in
      ap (λ (failed : Option HistoryRefusal). unless_failed failed answer)
      (refused-missing failure asked unopened openings (o ∷ drop (i + 1) items) passed o.block n here
      (omega arith, here.up.1) first (above high openings) (omega (arith, first.high, at-above i o at)))

  -- where the next opening fails
  pub failing-next : {A : Type 0} (answer : A) (i : ℕ) (o : RawOpening) (passed : ℕ) (why : HistoryRefusal)
      → IsAt openings items i o → Passed failure openings (drop i items) passed
      → NoneIsAsked asked passed o.block → failure o.block (Some o) ≡ Some why
      → unless_failed (lowest_failure (λ m. failure m (opening_at openings m)) (above high openings)) answer
      ≡ Err why
  failing-next answer i o passed why at are none fails =
      ap (λ (failed : Option HistoryRefusal). unless_failed failed answer)
      (refused-opened failure asked unopened openings o (drop (i + 1) items) passed why (at-index i o passed at are)
      none fails (above high openings) (at-above i o at))

  -- where it doesn't, it is passed
  pub holding-next : (i : ℕ) (o : RawOpening) (passed : ℕ) → IsAt openings items i o
      → Passed failure openings (drop i items) passed → NoneIsAsked asked passed o.block
      → failure o.block (Some o) ≡ None → Passed failure openings (drop (i + 1) items) (o.block + 1)
  holding-next i o passed at are none holds =
      passed-next failure asked unopened openings o (drop (i + 1) items) passed (at-index i o passed at are) none holds

  -- where it has to be opened it is looked at
  pub looked-at : (i : ℕ) (o : RawOpening) (passed : ℕ) → IsAt openings items i o
      → Passed failure openings (drop i items) passed → NoneIsAsked asked passed o.block → asked o.block ≡ true
      → IsLookedAt asked (λ n. failure n (opening_at openings n)) openings
  looked-at i o passed at are none is =
      let here = at-index i o passed at are in
      record {
        place = i;
        opening = o;
        is = grind (arith, common_steps, slice_get_read) steps 20000;
        asked = is;
        clear = clear-below failure asked unopened openings (o ∷ drop (i + 1) items) passed o.block here
            (omega arith, here.up.1) none;
      }

  all-passed : (i passed : ℕ) → length items ≤ i → Passed failure openings (drop i items) passed
      → Passed failure openings [] passed
  all-passed i passed long are =
      subst (λ (rest : List RawOpening). Passed failure openings rest passed) (drop_all i items long) are

  -- where a block behind all openings is asked
  pub missing-last : {A : Type 0} (answer : A) (i passed n : ℕ) → length items ≤ i
      → Passed failure openings (drop i items) passed → IsFirstAsked asked passed (high + 1) n
      → unless_failed (lowest_failure (λ m. failure m (opening_at openings m)) (above high openings)) answer
      ≡ Err (MissingBlock n)
  missing-last answer i passed n long are first =
      ap (λ (failed : Option HistoryRefusal). unless_failed failed answer)
      (refused-missing failure asked unopened openings [] passed (high + 1) n (all-passed i passed long are) tt first
      (above high openings) (omega (arith, first.high, above-block high openings)))

  -- where none is
  pub holding-last : {A : Type 0} (answer : A) (i passed : ℕ) → length items ≤ i
      → Passed failure openings (drop i items) passed → NoneIsAsked asked passed (high + 1)
      → ((n : ℕ) → high < n → asked n ≡ false)
      → unless_failed (lowest_failure (λ m. failure m (opening_at openings m)) (above high openings)) answer
      ≡ Ok answer
  holding-last answer i passed long are none behind =
      ap (λ (failed : Option HistoryRefusal). unless_failed failed answer)
      (passed-all failure asked unopened openings passed (high + 1) (all-passed i passed long are) none
      (λ n more. behind n (omega arith)) (above high openings))

-- ---- blocks of a log

-- a block that was made is one of the log's, and so is the deposit block of a coin
block-made : (log : List RootCall) (n : ℕ) (view : BlockView) → block_at log n ≡ Some view → n ≤ blocks log
unfolding block_at blocks
block-made [] n view is = absurd (cc is)
block-made (Deposit account amount key ∷ log) n view is = elim (cases_eq n (blocks log + 1)) [
  | inl e ↦ omega arith
  | inr apart ↦
      let below = block-made log n view (simp (ne_eqb n (blocks log + 1) apart) at is) in omega (arith, below)
]
block-made (Commit account root ∷ log) n view is = elim (cases_eq n (blocks log + 1)) [
  | inl e ↦ omega arith
  | inr apart ↦
      let below = block-made log n view (simp (ne_eqb n (blocks log + 1) apart) at is) in omega (arith, below)
]
block-made (call ∷ log) n view is = block-made log n view is

deposit-made : (log : List RootCall) (coin : ℕ) (made : CoinView) → coin_at log coin ≡ Some made
    → made.deposit ≤ blocks log
unfolding coin_at blocks
deposit-made [] coin made is = absurd (cc is)
deposit-made (Deposit account amount key ∷ log) coin made is = elim (cases_eq coin (coins log + 1)) [
  | inl e ↦ grind (arith, common_steps, some_same, eq-eqb) steps 20000
  | inr apart ↦
      let below = deposit-made log coin made (simp (ne_eqb coin (coins log + 1) apart) at is) in omega (arith, below)
]
deposit-made (Commit account root ∷ log) coin made is =
    let below = deposit-made log coin made is in omega (arith, below)
deposit-made (call ∷ log) coin made is = deposit-made log coin made is

committed-made : (log : List RootCall) (n : ℕ) → is_committed log n ≡ true → n ≤ blocks log
committed-made log n is = grind (arith, common_steps, block-made) steps 20000

-- a tip that may be one is a block of the log
pub tip-made : (log : List RootCall) (coin tip : ℕ) (made : CoinView) → coin_at log coin ≡ Some made
    → may_be_tip log made.deposit tip ≡ true → tip ≤ blocks log
tip-made log coin tip made is may =
    grind (arith, common_steps, cases_eq, deposit-made, committed-made, and_parts, ne_eqb) steps 20000

-- of the rules the tag alone matters
pub tagged-same : (tests : Tests) (rules : Rules) (log : List RootCall) (bundle : Bundle)
    → history_of tests (tagged rules.tag) log bundle ≡ history_of tests rules log bundle
unfolding history_of links_in
tagged-same tests rules log bundle = refl

pub tagged-looks : (tests : Tests) (rules : Rules) (log : List RootCall) (bundle : Bundle)
    → LooksAtHistory tests (tagged rules.tag) log bundle → LooksAtHistory tests rules log bundle
unfolding links_in
tagged-looks tests rules log bundle is = grind (arith, common_steps) steps 20000
