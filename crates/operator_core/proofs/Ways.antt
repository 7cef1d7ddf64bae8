-- The committed blocks one after another.
use Rattle.operator_core.proofs.Words.{◌≡◌, ℕ, zero, suc, ◌+◌, ◌-◌, ◌<◌, ◌≤◌, ◌^◌, Bool, true, false, if◌then◌else◌, List, [], ◌∷◌, ◌++◌, length, Option, Some, None, Result, Ok, Err, refl, sym, ap, ◌∙◌, inl, inr, arith, append-nil, range_with_len, All, AllPairs, option_and_then, get_or-map, length-map, is_some, OnErr, cases_lt, cases_eq, lt-ltb, le-ltb, eq-eqb, ne_eqb, eqb-true, or_cases, or_right, and_parts, filter-append, All-nil, All-push, common_steps, Entry, leaf_of, RootCall, CoinView, root_at, transfer_in, blocks, is_committed, committed_blocks, blocks_of, tree_at, tree_of, Place, start_of, moved_by, transfer_at, place_at, present, prove_by, with_opening, openings_of, tip_asked, is_known, first_is_known, one_is_known, is_begun}
use Rattle.std.proofs.lemmas.List.FromFn.{length-range_with_len, get_or-range_with_len}
use Rattle.std.proofs.lemmas.List.Kept.{AllPairs-filter}
use Rattle.plasma_tx.specs.declared.opening.RawOpening.{RawOpening}
use Rattle.coin_history.specs.Bundles.{AreRising}
use Rattle.coin_history.specs.Checking.{may_be_tip}
use Rattle.coin_history.proofs.HistoryGrow.{committed-le}
use Rattle.operator_rules.specs.declared.refusal.ProveRefusal.{ProveRefusal}
use Rattle.operator_rules.proofs.Places.{transfer_at-idle}

-- a fact of an error that is passed on
pub on_err : {T E : Type 0} (result : Result T E) {P : Type 0} → P → OnErr result P
on_err (Ok value) fact = tt
on_err (Err why) fact = fact

-- ---- the walk

module _ (dig : List ℕ → List ℕ) (tag : List ℕ) (log : List RootCall) (sealed : List (List Entry)) (coin : ℕ)
    (made : CoinView) where
  pub place-early : (n : ℕ) → n ≤ made.deposit → place_at dig tag log sealed coin made n ≡ start_of made
  unfolding place_at
  place-early zero le = refl
  place-early (suc n) le = rw (le-ltb made.deposit (suc n) le) refl

  pub place-next : (n : ℕ) → made.deposit ≤ n
      → place_at dig tag log sealed coin made (n + 1)
      ≡ moved_by (n + 1) (place_at dig tag log sealed coin made n) (transfer_at dig tag log sealed coin (n + 1))
  unfolding place_at
  place-next n le = grind (arith, common_steps, lt-ltb) steps 20000

  -- the place after the next block by what is found for its root
  pub place-rooted : (n : ℕ) (root : List ℕ) (tree : Option (List Entry)) (last : Place) → made.deposit ≤ n
      → root_at log (n + 1) ≡ Some root → tree ≡ tree_of dig sealed root
      → last ≡ place_at dig tag log sealed coin made n
      → moved_by (n + 1) last (option_and_then (λ tree. transfer_in tag coin (n + 1) (leaf_of tree coin)) tree)
      ≡ place_at dig tag log sealed coin made (n + 1)
  place-rooted n root tree last le root_is tree_is last_is = grind (arith, common_steps, place-next) steps 20000

  -- and after one without a root
  pub place-idle : (n : ℕ) → made.deposit ≤ n → root_at log (n + 1) ≡ None
      → place_at dig tag log sealed coin made n ≡ place_at dig tag log sealed coin made (n + 1)
  place-idle n le none = grind (arith, common_steps, transfer_at-idle, place-next) steps 20000

  pub place-last : (n : ℕ) → made.deposit ≤ n → blocks log ≤ n → (made.deposit < n → n ≤ blocks log)
      → place_at dig tag log sealed coin made n ≡ present dig tag log sealed coin made
  place-last n low high within = grind (arith, common_steps, cases_lt, place-early) steps 20000

-- ---- committed blocks

range-append : (start one other : ℕ)
    → range_with_len start (one + other) ≡ range_with_len start one ++ range_with_len (start + one) other
range-append start zero other = grind (arith, common_steps) steps 20000
range-append start (suc one) other =
    let e : suc one + other ≡ suc (one + other) = omega arith in
    grind (arith, common_steps, range-append (start + 1) one other) steps 20000

module _ (log : List RootCall) where
  pub committed-split : (after middle last : ℕ) → after ≤ middle → middle ≤ last
      → committed_blocks log after last ≡ committed_blocks log after middle ++ committed_blocks log middle last
  unfolding committed_blocks
  committed-split after middle last low high =
      let count : last - after ≡ (middle - after) + (last - middle) = omega arith in
      grind (arith, common_steps, range-append, filter-append) steps 20000

  pub committed-none : (after last : ℕ) → last ≤ after → committed_blocks log after last ≡ []
  unfolding committed_blocks
  committed-none after last le = grind (arith, common_steps) steps 20000

  pub committed-one : (n : ℕ)
      → committed_blocks log n (n + 1) ≡ (if is_committed log (n + 1) then (n + 1) ∷ [] else [])
  unfolding committed_blocks
  committed-one n = grind (arith, common_steps) steps 20000

-- ---- their openings

module _ (dig : List ℕ → List ℕ) (log : List RootCall) (sealed : List (List Entry)) (coin : ℕ) where
  abbrev opening_of : ℕ → Result RawOpening ProveRefusal
  opening_of n = prove_by dig coin n (tree_at dig log sealed n)

  -- these openings before what the others have
  abbrev pub behind : List RawOpening → Result (List RawOpening) ProveRefusal → Result (List RawOpening) ProveRefusal
  behind openings (Err why) = Err why
  behind openings (Ok others) = Ok (openings ++ others)

  record Parts (o : Result RawOpening ProveRefusal) (r : Result (List RawOpening) ProveRefusal)
      (openings : List RawOpening)
      : Type 0 where
    first : RawOpening
    rest : List RawOpening
    first_is : o ≡ Ok first
    rest_is : r ≡ Ok rest
    whole : first ∷ rest ≡ openings

  parts : (o : Result RawOpening ProveRefusal) (r : Result (List RawOpening) ProveRefusal) (openings : List RawOpening)
      → with_opening o r ≡ Ok openings → Parts o r openings
  parts o r openings is = grind (arith, common_steps) steps 20000

  behind-none : (r : Result (List RawOpening) ProveRefusal) → r ≡ behind [] r
  behind-none (Err why) = refl
  behind-none (Ok others) = refl

  behind-more : (first : RawOpening) (rest : List RawOpening) (r : Result (List RawOpening) ProveRefusal)
      → with_opening (Ok first) (behind rest r) ≡ behind (first ∷ rest) r
  behind-more first rest (Err why) = refl
  behind-more first rest (Ok others) = refl

  openings-append : (ns ms : List ℕ) (openings : List RawOpening)
      → openings_of dig log sealed coin ns ≡ Ok openings
      → openings_of dig log sealed coin (ns ++ ms) ≡ behind openings (openings_of dig log sealed coin ms)
  unfolding openings_of
  openings-append [] ms openings is = grind (arith, common_steps, behind-none) steps 20000
  openings-append (n ∷ ns) ms openings is =
      let p = parts (opening_of n) (openings_of dig log sealed coin ns) openings is in
      grind (arith, common_steps, openings-append ns ms p.rest p.rest_is, behind-more) steps 20000

  -- the openings of a block and of those behind it
  opening-front : (n : ℕ) (ns : List ℕ) → openings_of dig log sealed coin (n ∷ ns)
      ≡ with_opening (opening_of n) (openings_of dig log sealed coin ns)
  unfolding openings_of
  opening-front n ns = refl

  opening-none : openings_of dig log sealed coin [] ≡ Ok []
  unfolding openings_of
  opening-none = refl

  abbrev all : ℕ → ℕ → Result (List RawOpening) ProveRefusal
  all after last = openings_of dig log sealed coin (committed_blocks log after last)

  along : (after middle last : ℕ) (openings : List RawOpening) → after ≤ middle → middle ≤ last
      → all after middle ≡ Ok openings → all after last ≡ behind openings (all middle last)
  along after middle last openings low high is =
      ap (λ (ns : List ℕ). openings_of dig log sealed coin ns) (committed-split log after middle last low high)
      ∙ openings-append (committed_blocks log after middle) (committed_blocks log middle last) openings is

  all-here : (n : ℕ) (last : ℕ) → n < last → is_committed log (n + 1) ≡ true
      → all n last ≡ with_opening (opening_of (n + 1)) (all (n + 1) last)
  all-here n last lt committed =
      ap (λ (ns : List ℕ). openings_of dig log sealed coin ns)
      (committed-split log n (n + 1) last (omega arith) (omega arith)
      ∙ ap (λ (front : List ℕ). front ++ committed_blocks log (n + 1) last) (committed-one log n
      ∙ ap (λ (b : Bool). if b then (n + 1) ∷ [] else []) committed))
      ∙ opening-front (n + 1) (committed_blocks log (n + 1) last)

  all-none : (after last : ℕ) → last ≤ after → all after last ≡ Ok []
  all-none after last le =
      ap (λ (ns : List ℕ). openings_of dig log sealed coin ns) (committed-none log after last le) ∙ opening-none

  pub openings_none : (n : ℕ) → openings_of dig log sealed coin (committed_blocks log n n) ≡ Ok []
  openings_none n = all-none n n (omega arith)

  -- one more block
  pub openings_skip : (after before : ℕ) (openings : List RawOpening) → after ≤ before
      → openings_of dig log sealed coin (committed_blocks log after before) ≡ Ok openings
      → is_committed log (before + 1) ≡ false
      → openings_of dig log sealed coin (committed_blocks log after (before + 1)) ≡ Ok openings
  openings_skip after before openings le is isnt =
      along after before (before + 1) openings le (omega arith) is
      ∙ ap (λ (ns : List ℕ). behind openings (openings_of dig log sealed coin ns)) (committed-one log before
      ∙ ap (λ (b : Bool). if b then (before + 1) ∷ [] else []) isnt)
      ∙ ap (λ (r : Result (List RawOpening) ProveRefusal). behind openings r) opening-none
      ∙ ap (λ (os : List RawOpening). Ok os) (append-nil openings)

  pub openings_more : (after before : ℕ) (openings : List RawOpening) (opening : RawOpening) → after ≤ before
      → openings_of dig log sealed coin (committed_blocks log after before) ≡ Ok openings
      → is_committed log (before + 1) ≡ true → opening_of (before + 1) ≡ Ok opening
      → openings_of dig log sealed coin (committed_blocks log after (before + 1)) ≡ Ok (openings ++ opening ∷ [])
  openings_more after before openings opening le is committed made =
      along after before (before + 1) openings le (omega arith) is
      ∙ ap (λ (r : Result (List RawOpening) ProveRefusal). behind openings r)
      (all-here before (before + 1) (omega arith) committed
      ∙ ap (λ (o : Result RawOpening ProveRefusal). with_opening o (all (before + 1) (before + 1))) made
      ∙ ap (λ (r : Result (List RawOpening) ProveRefusal). with_opening (Ok opening) r)
      (all-none (before + 1) (before + 1) (omega arith)))

  -- the first block without a tree
  pub openings_fail : (after before last : ℕ) (openings : List RawOpening) (why : ProveRefusal) → after ≤ before
      → before < last
      → openings_of dig log sealed coin (committed_blocks log after before) ≡ Ok openings
      → is_committed log (before + 1) ≡ true → opening_of (before + 1) ≡ Err why
      → openings_of dig log sealed coin (committed_blocks log after last) ≡ Err why
  openings_fail after before last openings why le lt is committed failed =
      along after before last openings le (omega arith) is
      ∙ ap (λ (r : Result (List RawOpening) ProveRefusal). behind openings r)
      (all-here before last lt committed
      ∙ ap (λ (o : Result RawOpening ProveRefusal). with_opening o (all (before + 1) last)) failed)

  pub openings_last : (after before last : ℕ) (openings : List RawOpening) → after ≤ before → last ≤ before
      → (after < before → before ≤ last)
      → openings_of dig log sealed coin (committed_blocks log after before) ≡ Ok openings
      → openings_of dig log sealed coin (committed_blocks log after last) ≡ Ok openings
  openings_last after before last openings low high within is =
      grind (arith, common_steps, cases_lt, all-none) steps 20000

pub ruleset openings_steps = (openings_none, openings_skip, openings_more, openings_fail, openings_last)

-- ---- where openings begin

module _ (dig : List ℕ → List ℕ) (log : List RootCall) (sealed : List (List Entry)) where
  known : (coin n : ℕ) (tree : Option (List Entry)) (first : RawOpening) → prove_by dig coin n tree ≡ Ok first
      → is_some tree ≡ true
  known coin n None first is = absurd (cc is)
  known coin n (Some tree) first is = refl

  first-known : (coin : ℕ) (ns ms : List ℕ) (n : ℕ) (openings : List RawOpening)
      → openings_of dig log sealed coin ns ≡ Ok openings → is_known dig log sealed n ≡ true
      → first_is_known dig log sealed (ns ++ n ∷ ms) ≡ true
  unfolding openings_of
  first-known coin [] ms n openings is here = here
  first-known coin (m ∷ ns) ms n openings is here = grind (arith, common_steps, parts, known) steps 20000

  -- the committed blocks, with one of them apart
  around : (after before last : ℕ) → after ≤ before → before < last → is_committed log (before + 1) ≡ true
      → committed_blocks log after last
      ≡ committed_blocks log after before ++ (before + 1) ∷ committed_blocks log (before + 1) last
  around after before last low high here =
      committed-split log after before last low (omega arith)
      ∙ ap (λ (ns : List ℕ). committed_blocks log after before ++ ns)
      (committed-split log before (before + 1) last (omega arith) (omega arith)
      ∙ ap (λ (front : List ℕ). front ++ committed_blocks log (before + 1) last) (committed-one log before
      ∙ ap (λ (b : Bool). if b then (before + 1) ∷ [] else []) here))

  -- where one opening more is begun, the first block is known
  pub openings_begun : (coin after before last : ℕ) (openings : List RawOpening) → after ≤ before → before < last
      → openings_of dig log sealed coin (committed_blocks log after before) ≡ Ok openings
      → is_committed log (before + 1) ≡ true → is_known dig log sealed (before + 1) ≡ true
      → first_is_known dig log sealed (committed_blocks log after last) ≡ true
  openings_begun coin after before last openings low high is here tree =
      ap (first_is_known dig log sealed) (around after before last low high here)
      ∙ first-known coin (committed_blocks log after before) (committed_blocks log (before + 1) last) (before + 1)
      openings is tree

  one-inside : (ns ms : List ℕ) → one_is_known dig log sealed ms ≡ true → one_is_known dig log sealed (ns ++ ms) ≡ true
  one-inside [] ms one = one
  one-inside (n ∷ ns) ms one = grind (arith, common_steps, one-inside ns ms one, or_right) steps 20000

  one-first : (ns ms : List ℕ) → first_is_known dig log sealed ns ≡ true
      → one_is_known dig log sealed (ns ++ ms) ≡ true
  one-first [] ms first = absurd (cc first)
  one-first (n ∷ ns) ms first = rw first refl

  -- a walk that comes to a block whose root has a tree
  pub walk_knows : (after before last : ℕ) (root : List ℕ) (found : Option (List Entry)) → after ≤ before
      → before < last → root_at log (before + 1) ≡ Some root → found ≡ tree_of dig sealed root → is_some found ≡ true
      → one_is_known dig log sealed (committed_blocks log after last) ≡ true
  walk_knows after before last root found low high root_is found_is some =
      let here : is_committed log (before + 1) ≡ true = ap (λ (r : Option (List ℕ)). is_some r) root_is in
      let tree : is_known dig log sealed (before + 1) ≡ true = grind (arith, common_steps) steps 20000 in
      ap (one_is_known dig log sealed) (around after before last low high here)
      ∙ one-inside (committed_blocks log after before) ((before + 1) ∷ committed_blocks log (before + 1) last)
      (rw tree refl)

  -- a bundle whose first block is known is begun
  wide : (deposit asked : ℕ) → may_be_tip log deposit asked ≡ true
      → first_is_known dig log sealed (committed_blocks log deposit asked) ≡ true
      → one_is_known dig log sealed (committed_blocks log deposit (blocks log)) ≡ true
  wide deposit asked may first = elim (cases_lt deposit asked) [
    | inl after ↦
        (let tip : is_committed log asked ≡ true =
        grind (arith, common_steps, or_cases, eqb-true, and_parts) steps 20000 in
        let within = committed-le log asked tip in
        ap (one_is_known dig log sealed) (committed-split log deposit asked (blocks log) (omega arith) within)
        ∙ one-first (committed_blocks log deposit asked) (committed_blocks log asked (blocks log)) first)
    | inr none ↦
        grind (arith, common_steps, committed-none) steps 20000
  ]

  pub begun_walking : (tip : ℕ) (made : CoinView) → tip ≡ 0
      → one_is_known dig log sealed (committed_blocks log made.deposit (blocks log)) ≡ true
      → is_begun dig log sealed tip (Some made) ≡ true
  begun_walking tip made is one = rw (eq-eqb tip 0 is) one

  pub begun : (tip asked : ℕ) (place : Place) (made : CoinView) → asked ≡ tip_asked tip place
      → may_be_tip log made.deposit asked ≡ true
      → first_is_known dig log sealed (committed_blocks log made.deposit asked) ≡ true
      → is_begun dig log sealed tip (Some made) ≡ true
  begun tip asked place made is may first =
      grind (arith, common_steps, cases_eq, begun_walking, wide, ne_eqb) steps 20000

-- ---- openings are few, and short

abbrev AreShort : List RawOpening → Type 0
AreShort openings = All (λ opening. length opening.bytes < 2 ^ 32) openings

pub no_lengths : AreShort []
no_lengths = All-nil (λ (opening : RawOpening). length opening.bytes < 2 ^ 32)

pub one_length : (openings : List RawOpening) (opening : RawOpening) → AreShort openings
    → length opening.bytes < 2 ^ 32 → AreShort (openings ++ opening ∷ [])
one_length = All-push (λ (opening : RawOpening). length opening.bytes < 2 ^ 32)

pub ruleset lengths_more = (no_lengths, one_length)

-- ---- openings rise

range-rises : (start count : ℕ) → AllPairs (λ earlier later. earlier < later) (range_with_len start count)
range-rises start count i j d lt within =
    let long = length-range_with_len start count in
    grind (arith, common_steps, get_or-range_with_len) steps 20000

module _ (dig : List ℕ → List ℕ) (log : List RootCall) (sealed : List (List Entry)) (coin : ℕ) where
  opening-block : (n : ℕ) (tree : Option (List Entry)) (opening : RawOpening) → prove_by dig coin n tree ≡ Ok opening
      → opening.block ≡ n
  opening-block n tree opening is = grind (arith, common_steps) steps 20000

  blocks-are : (ns : List ℕ) (openings : List RawOpening) → openings_of dig log sealed coin ns ≡ Ok openings
      → blocks_of openings ≡ ns
  unfolding openings_of
  blocks-are [] openings is =
      let e : [] ≡ openings = cc is in ap (λ (os : List RawOpening). blocks_of os) (sym e)
  blocks-are (n ∷ ns) openings is =
      let p = parts dig log sealed coin (prove_by dig coin n (tree_at dig log sealed n))
      (openings_of dig log sealed coin ns)
      openings is in
      ap (λ (os : List RawOpening). blocks_of os) (sym p.whole)
      ∙ (λ i. opening-block n (tree_at dig log sealed n) p.first p.first_is i ∷ blocks-are ns p.rest p.rest_is i)

  pub between_rise : (after last : ℕ) (openings : List RawOpening)
      → openings_of dig log sealed coin (committed_blocks log after last) ≡ Ok openings → AreRising openings
  unfolding committed_blocks
  between_rise after last openings is i j d lt within =
      let blocks-is = blocks-are (committed_blocks log after last) openings is in
      let rise = AllPairs-filter (λ earlier later. earlier < later) (is_committed log)
      (range_with_len (after + 1) (last - after)) (range-rises (after + 1) (last - after)) in
      let rises : AllPairs (λ earlier later. earlier < later) (blocks_of openings) = rw blocks-is rise in
      let long = length-map openings (λ (opening : RawOpening). opening.block) in
      let one = get_or-map (λ (opening : RawOpening). opening.block) openings i d d.block (omega arith) in
      let other = get_or-map (λ (opening : RawOpening). opening.block) openings j d d.block within in
      rw (← one, ← other) (rises i j d.block lt (omega (arith, long)))
