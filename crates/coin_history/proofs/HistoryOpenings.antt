-- Openings whose blocks rise, the opening of a block, and the lowest failure.
use Rattle.coin_history.proofs.Words.{◌≡◌, ℕ, zero, suc, ◌+◌, ◌-◌, ◌<◌, ◌≤◌, Bool, true, false, if◌then◌else◌, List, [], ◌∷◌, length, get_or, Option, Some, None, inl, inr, refl, sym, ap, ◌∙◌, subst, filter, arith, ◌⊎◌, option_or, AllByRecursion, range_with_len, cases_eq, eq-eqb, ne_eqb, and_parts, and_from, ltb-true, lt-ltb, leb-true, le-leb, true≢false, false_from_ne_true, recursion_from_All, common_steps, RawOpening, RootCall, some_same, HistoryRefusal, AreRising, is_committed, committed_blocks, blocks_of, is_asked, opening_at, lowest_failure, above}

-- ---- the lowest failure

or-none : {X : Type 0} (o p : Option X) → option_or o p ≡ None → (o ≡ None) × (p ≡ None)
or-none None p is = (refl, is)
or-none (Some x) p is = absurd (cc is)

-- the failure is at a block below n, and there is none below that block
pub record IsLowest (failure : ℕ → Option HistoryRefusal) (n : ℕ) (why : HistoryRefusal) : Type 0 where
  pub block : ℕ
  pub less : block < n
  pub fails : failure block ≡ Some why
  pub first : (m : ℕ) → m < block → failure m ≡ None

-- where nothing is answered nothing fails
pub lowest-none : (failure : ℕ → Option HistoryRefusal) (n : ℕ) → lowest_failure failure n ≡ None
    → (m : ℕ) → m < n → failure m ≡ None
unfolding lowest_failure
lowest-none failure zero is m less = absurd (omega arith)
lowest-none failure (suc n) is m less =
    let parts = or-none (lowest_failure failure n) (failure n) is in
    elim (cases_eq m n) [
      | inl e ↦ ap failure e ∙ parts.1
      | inr apart ↦ lowest-none failure n parts.0 m (omega arith)
    ]

pub lowest-none_from : (failure : ℕ → Option HistoryRefusal) (n : ℕ) → ((m : ℕ) → m < n → failure m ≡ None)
    → lowest_failure failure n ≡ None
unfolding lowest_failure
lowest-none_from failure zero none = refl
lowest-none_from failure (suc n) none =
    ap (λ (o : Option HistoryRefusal). option_or o (failure n))
    (lowest-none_from failure n (λ m less. none m (omega arith))) ∙ none n (omega arith)

-- a failure that is answered is the lowest
pub lowest-some : (failure : ℕ → Option HistoryRefusal) (n : ℕ) (why : HistoryRefusal)
    → lowest_failure failure n ≡ Some why → IsLowest failure n why
unfolding lowest_failure
lowest-some failure zero why is = absurd (cc is)
lowest-some failure (suc n) why is =
    (elim (lowest_failure failure n) as (λ o. lowest_failure failure n ≡ o → option_or o (failure n) ≡ Some why
    → IsLowest failure (suc n) why) [
      | None ↦ λ none here. record {
        block = n;
        less = omega arith;
        fails = here;
        first = lowest-none failure n none;
      }
      | Some low ↦ λ some same.
          let lower = lowest-some failure n low some in
          record { block = lower.block; less = omega arith; fails = lower.fails ∙ same; first = lower.first }
    ]) refl is

pub lowest-some_from : (failure : ℕ → Option HistoryRefusal) (n m : ℕ) (why : HistoryRefusal) → m < n
    → failure m ≡ Some why → ((k : ℕ) → k < m → failure k ≡ None) → lowest_failure failure n ≡ Some why
unfolding lowest_failure
lowest-some_from failure zero m why less fails first = absurd (omega arith)
lowest-some_from failure (suc n) m why less fails first =
    elim (cases_eq m n) [
      | inl e ↦ grind (arith, common_steps, lowest-none_from) steps 20000
      | inr apart ↦ grind (arith, common_steps, lowest-some_from failure n m why (omega arith) fails first) steps 20000
    ]

-- ---- rising blocks

-- the blocks rise strictly, the first one at low or above
abbrev pub Up : ℕ → List RawOpening → Type 0
Up low [] = Unit {0}
Up low (opening ∷ openings) = (low ≤ opening.block) × Up (suc opening.block) openings

up-from : (low : ℕ) (openings : List RawOpening) → AreRising openings
    → AllByRecursion (λ o. low ≤ o.block) openings → Up low openings
up-from low [] rising all = tt
up-from low (o ∷ os) rising all = (
  all.0,
  up-from (suc o.block) os (λ i j d less long. rising (suc i) (suc j) d (omega arith) (omega arith))
      (recursion_from_All (λ x. suc o.block ≤ x.block) os
      (λ k d long. let next : o.block < (get_or os k d).block =
      rising zero (suc k) d (omega arith) (omega arith) in omega arith)),
)

-- rising openings begin at 0 or above
pub up-rising : (openings : List RawOpening) → AreRising openings → Up 0 openings
up-rising openings rising = up-from 0 openings rising (each openings)
  where
    each : (os : List RawOpening) → AllByRecursion (λ o. 0 ≤ o.block) os
    each [] = tt
    each (o ∷ os) = (omega arith, each os)

pub up-each : (low : ℕ) (openings : List RawOpening) → Up low openings
    → AllByRecursion (λ o. low ≤ o.block) openings
up-each low [] up = tt
up-each low (o ∷ os) up = (up.0, weaker os (up-each (suc o.block) os up.1))
  where
    weaker : (xs : List RawOpening) → AllByRecursion (λ x. suc o.block ≤ x.block) xs
        → AllByRecursion (λ x. low ≤ x.block) xs
    weaker [] all = tt
    weaker (x ∷ xs) all = (omega (arith, all.0, up.0), weaker xs all.1)

pub up-weaker : (low high : ℕ) (openings : List RawOpening) → low ≤ high → Up high openings → Up low openings
up-weaker low high [] le up = tt
up-weaker low high (o ∷ os) le up = (omega (arith, up.0), up.1)

-- and they rise
pub rising-up : (low : ℕ) (openings : List RawOpening) → Up low openings → AreRising openings
rising-up low [] up i j d less long = absurd (omega arith)
rising-up low (o ∷ os) up i zero d less long = absurd (omega arith)
rising-up low (o ∷ os) up zero (suc j) d less long = after os (up-each (suc o.block) os up.1) j (omega arith)
  where
    after : (xs : List RawOpening) → AllByRecursion (λ x. suc o.block ≤ x.block) xs → (k : ℕ) → k < length xs
        → o.block < (get_or xs k d).block
    after [] all k lt = absurd (omega arith)
    after (x ∷ xs) all zero lt = omega (arith, all.0)
    after (x ∷ xs) all (suc k) lt = after xs all.1 k (omega arith)
rising-up low (o ∷ os) up (suc i) (suc j) d less long =
    rising-up (suc o.block) os up.1 i j d (omega arith) (omega arith)

-- ---- the opening of a block

pub at-head : (n : ℕ) (o : RawOpening) (os : List RawOpening) → o.block ≡ n → opening_at (o ∷ os) n ≡ Some o
at-head n o os e = ap (λ (b : Bool). if b then Some o else opening_at os n) (eq-eqb o.block n e)

pub past-head : (n : ℕ) (o : RawOpening) (os : List RawOpening) → (o.block ≡ n → ⊥)
    → opening_at (o ∷ os) n ≡ opening_at os n
past-head n o os apart = ap (λ (b : Bool). if b then Some o else opening_at os n) (ne_eqb o.block n apart)

-- the opening that is found is the first, or is found in the rest
pub found-cases : (n : ℕ) (o : RawOpening) (os : List RawOpening) (x : RawOpening) → opening_at (o ∷ os) n ≡ Some x
    → ((o.block ≡ n) × (o ≡ x)) ⊎ ((o.block ≡ n → ⊥) × (opening_at os n ≡ Some x))
found-cases n o os x found = grind (arith, common_steps, cases_eq, some_same, at-head, past-head) steps 20000

-- there is none at a block below
pub below-none : (low : ℕ) (openings : List RawOpening) → Up low openings → (n : ℕ) → n < low
    → opening_at openings n ≡ None
below-none low [] up n less = refl
below-none low (o ∷ os) up n less =
    past-head n o os (λ e. omega (arith, up.0)) ∙ below-none (suc o.block) os up.1 n (omega (arith, up.0))

-- what holds of each opening that is found holds of each opening, as each is found at its block
pub each-found : (P : RawOpening → Type 0) (low : ℕ) (openings : List RawOpening) → Up low openings
    → ((n : ℕ) (o : RawOpening) → opening_at openings n ≡ Some o → P o) → AllByRecursion P openings
each-found P low [] up h = tt
each-found P low (o ∷ os) up h = (
  h o.block o (at-head o.block o os refl),
  each-found P (suc o.block) os up.1 (λ n x found. h n x (later n x found)),
)
  where
    later : (n : ℕ) (x : RawOpening) → opening_at os n ≡ Some x → opening_at (o ∷ os) n ≡ Some x
    later n x found = grind (arith, common_steps, past-head, below-none) steps 20000

-- what holds of each opening holds of one that is found, and it is of that block
pub found-each : (P : RawOpening → Type 0) (openings : List RawOpening) (n : ℕ) (x : RawOpening)
    → AllByRecursion P openings → opening_at openings n ≡ Some x → (x.block ≡ n) × P x
found-each P [] n x all found = absurd (cc found)
found-each P (o ∷ os) n x all found = elim (found-cases n o os x found) [
  | inl here ↦ subst (λ (y : RawOpening). (y.block ≡ n) × P y) here.1 (here.0, all.0)
  | inr later ↦ found-each P os n x all.1 later.1
]

pub found-block : (openings : List RawOpening) (n : ℕ) (x : RawOpening) → opening_at openings n ≡ Some x → x.block ≡ n
found-block [] n x found = absurd (cc found)
found-block (o ∷ os) n x found = elim (found-cases n o os x found) [
  | inl here ↦ ap (λ (y : RawOpening). y.block) (sym here.1) ∙ here.0
  | inr later ↦ found-block os n x later.1
]

-- ---- the number above all

pub above-block : (block : ℕ) (openings : List RawOpening) → block < above block openings
unfolding above
above-block block [] = omega arith
above-block block (o ∷ os) = omega (arith, above-block block os)

pub above-each : (block : ℕ) (openings : List RawOpening)
    → AllByRecursion (λ o. o.block < above block openings) openings
unfolding above
above-each block openings = each openings (above block openings) (omega arith)
  where
    each : (os : List RawOpening) (top : ℕ) → above block os ≤ top → AllByRecursion (λ o. o.block < top) os
    each [] top le = tt
    each (o ∷ os) top le = (omega arith, each os top (omega arith))

pub found-below : (block : ℕ) (openings : List RawOpening) (n : ℕ) (x : RawOpening)
    → opening_at openings n ≡ Some x → n < above block openings
found-below block openings n x found =
    let at = found-each (λ o. o.block < above block openings) openings n x (above-each block openings) found in
    omega arith

-- ---- the blocks of openings and the committed blocks

-- The openings are of the numbers from start on that pass, so many at most, one of each.
pub record AreOf (p : ℕ → Bool) (start count : ℕ) (openings : List RawOpening) : Type 0 where
  pub up : Up start openings
  pub each : AllByRecursion (λ o. (p o.block ≡ true) × (o.block < start + count)) openings
  pub other : (n : ℕ) → opening_at openings n ≡ None → start ≤ n → n < start + count → p n ≡ false

module _ (p : ℕ → Bool) where
  each-next : (start count : ℕ) (os : List RawOpening)
      → AllByRecursion (λ o. (p o.block ≡ true) × (o.block < start + suc count)) os
      → AllByRecursion (λ o. (p o.block ≡ true) × (o.block < (start + 1) + count)) os
  each-next start count [] all = tt
  each-next start count (o ∷ os) all = ((all.0.0, omega (arith, all.0.1)), each-next start count os all.1)

  each-last : (start count : ℕ) (os : List RawOpening)
      → AllByRecursion (λ o. (p o.block ≡ true) × (o.block < (start + 1) + count)) os
      → AllByRecursion (λ o. (p o.block ≡ true) × (o.block < start + suc count)) os
  each-last start count [] all = tt
  each-last start count (o ∷ os) all = ((all.0.0, omega (arith, all.0.1)), each-last start count os all.1)

  -- no opening is at the start
  skipped : (start count : ℕ) (os : List RawOpening) → Up (start + 1) os → AreOf p start (suc count) os
      → (p start ≡ false) × AreOf p (start + 1) count os
  skipped start count os up are = grind (arith, common_steps, below-none, each-next) steps 20000

  -- the first opening is at the start
  taken : (start count : ℕ) (o : RawOpening) (os : List RawOpening) → o.block ≡ start
      → AreOf p start (suc count) (o ∷ os) → AreOf p (start + 1) count os
  taken start count o os e are = grind (arith, common_steps, up-weaker, each-next, past-head) steps 20000

  pub blocks-from_are : (start count : ℕ) (openings : List RawOpening) → AreOf p start count openings
      → blocks_of openings ≡ filter p (range_with_len start count)
  blocks-from_are start zero [] are = refl
  blocks-from_are start zero (o ∷ os) are = absurd (omega (arith, are.up.0, are.each.0.1))
  blocks-from_are start (suc count) [] are =
      let next = skipped start count [] tt are in
      grind (arith, common_steps, blocks-from_are (start + 1) count [] next.1) steps 20000
  blocks-from_are start (suc count) (o ∷ os) are = elim (cases_eq o.block start) [
    | inl e ↦
        let passes : p start ≡ true = ap p (sym e) ∙ are.each.0.0 in
        let rest = blocks-from_are (start + 1) count os (taken start count o os e are) in
        grind (arith, common_steps) steps 20000
    | inr apart ↦
        let next = skipped start count (o ∷ os) (omega (arith, are.up.0), are.up.1) are in
        grind (arith, common_steps, blocks-from_are (start + 1) count (o ∷ os) next.1) steps 20000
  ]

  pub are-from_blocks : (start count : ℕ) (openings : List RawOpening)
      → blocks_of openings ≡ filter p (range_with_len start count) → AreOf p start count openings
  are-from_blocks start zero [] is = record { up = tt; each = tt; other = λ n none low high. absurd (omega arith) }
  are-from_blocks start zero (o ∷ os) is = absurd (cc is)
  are-from_blocks start (suc count) os is =
      (elim (p start) as (λ b. p start ≡ b
      → blocks_of os ≡ (if b then start ∷ filter p (range_with_len (start + 1) count)
      else filter p (range_with_len (start + 1) count)) → AreOf p start (suc count) os) [
        | true ↦ λ passes same. first passes (λ xs rest. are-from_blocks (start + 1) count xs rest) os same
        | false ↦ λ fails same. later fails (are-from_blocks (start + 1) count os same)
      ]) refl is
    where
      first : p start ≡ true
          → ((xs : List RawOpening) → blocks_of xs ≡ filter p (range_with_len (start + 1) count)
          → AreOf p (start + 1) count xs)
          → (xs : List RawOpening) → blocks_of xs ≡ start ∷ filter p (range_with_len (start + 1) count)
          → AreOf p start (suc count) xs
      first passes further [] same = absurd (cc same)
      first passes further (o ∷ xs) same =
          let at : o.block ≡ start = cc in
          let rest : blocks_of xs ≡ filter p (range_with_len (start + 1) count) = cc in
          let are = further xs rest in
          record {
            up = (omega arith, up-weaker (suc o.block) (start + 1) xs (omega arith) are.up);
            each = ((ap p at ∙ passes, omega arith), each-last start count xs are.each);
            other = grind (arith, common_steps, cases_eq, at-head, past-head) steps 20000;
          }

      later : p start ≡ false → AreOf p (start + 1) count os → AreOf p start (suc count) os
      later fails are = grind (arith, common_steps, up-weaker, each-last, cases_eq) steps 20000

-- a block is asked where it is a committed one after low and at most high
pub asked-parts : (log : List RootCall) (low high n : ℕ) → is_asked log low high n ≡ true
    → (is_committed log n ≡ true) × (low < n) × (n ≤ high)
asked-parts log low high n asked = grind (arith, common_steps, and_parts, ltb-true, leb-true) steps 20000

pub asked-from : (log : List RootCall) (low high n : ℕ) → is_committed log n ≡ true → low < n → n ≤ high
    → is_asked log low high n ≡ true
asked-from log low high n committed more less = grind (arith, common_steps, and_from, lt-ltb, le-leb) steps 20000

-- Each opening is of a block that is asked, and each block that is asked has an opening.
pub record AreAsked (log : List RootCall) (low high : ℕ) (openings : List RawOpening) : Type 0 where
  pub up : Up (suc low) openings
  pub each : AllByRecursion (λ o. is_asked log low high o.block ≡ true) openings
  pub other : (n : ℕ) → opening_at openings n ≡ None → is_asked log low high n ≡ false

pub up-higher : (low high : ℕ) (openings : List RawOpening) → Up low openings
    → AllByRecursion (λ o. high ≤ o.block) openings → Up high openings
up-higher low high [] up all = tt
up-higher low high (o ∷ os) up all = (all.0, up.1)

-- rising openings of blocks that are asked, one of each
pub are-asked : (log : List RootCall) (low high : ℕ) (openings : List RawOpening) → AreRising openings
    → AllByRecursion (λ o. is_asked log low high o.block ≡ true) openings
    → ((n : ℕ) → opening_at openings n ≡ None → is_asked log low high n ≡ false) → AreAsked log low high openings
are-asked log low high openings rising asked other = record {
  up = up-higher 0 (suc low) openings (up-rising openings rising) (each openings asked);
  each = asked;
  other = other;
}
  where
    each : (os : List RawOpening) → AllByRecursion (λ o. is_asked log low high o.block ≡ true) os
        → AllByRecursion (λ o. suc low ≤ o.block) os
    each [] all = tt
    each (o ∷ os) all =
        let parts = asked-parts log low high o.block all.0 in (omega (arith, parts.1), each os all.1)

-- no block is asked where none is after low
pub nothing-asked : (log : List RootCall) (low high : ℕ) (os : List RawOpening)
    → AllByRecursion (λ o. is_asked log low high o.block ≡ true) os → high ≡ low → os ≡ []
nothing-asked log low high [] all e = refl
nothing-asked log low high (o ∷ os) all e =
    let parts = asked-parts log low high o.block all.0 in absurd (omega (arith, parts.1, parts.2))

-- the blocks of rising openings that are those asked are the committed ones
pub blocks-from_asked : (log : List RootCall) (low high : ℕ) (openings : List RawOpening)
    → AreAsked log low high openings → blocks_of openings ≡ committed_blocks log low high
unfolding committed_blocks
blocks-from_asked log low high openings are =
    blocks-from_are (is_committed log) (low + 1) (high - low) openings
    (grind (arith, common_steps, up-weaker, each, false_from_ne_true, true≢false, asked-from) steps 20000)
  where
    each : (os : List RawOpening) → AllByRecursion (λ o. is_asked log low high o.block ≡ true) os
        → AllByRecursion (λ o. (is_committed log o.block ≡ true) × (o.block < (low + 1) + (high - low))) os
    each [] all = tt
    each (o ∷ os) all =
        let parts = asked-parts log low high o.block all.0 in
        ((parts.0, omega (arith, parts.1, parts.2)), each os all.1)

pub asked-from_blocks : (log : List RootCall) (low high : ℕ) (openings : List RawOpening)
    → blocks_of openings ≡ committed_blocks log low high → AreAsked log low high openings
unfolding committed_blocks
asked-from_blocks log low high openings is =
    let are = are-from_blocks (is_committed log) (low + 1) (high - low) openings is in
    let up = up-weaker (suc low) (low + 1) openings (omega arith) are.up in
    record {
      up = up;
      each = each openings (up-each (suc low) openings up) are.each;
      other = grind (arith, common_steps, false_from_ne_true, asked-parts, true≢false) steps 20000;
    }
  where
    each : (os : List RawOpening) → AllByRecursion (λ o. suc low ≤ o.block) os
        → AllByRecursion (λ o. (is_committed log o.block ≡ true) × (o.block < (low + 1) + (high - low))) os
        → AllByRecursion (λ o. is_asked log low high o.block ≡ true) os
    each [] above all = tt
    each (o ∷ os) above all = (
      asked-from log low high o.block all.0.0 (omega (arith, above.0)) (omega (arith, above.0, all.0.1)),
      each os above.1 all.1,
    )
