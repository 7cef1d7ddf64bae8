-- Below the lowest block at which a bundle fails it is as a history is.
use Rattle.coin_history.proofs.Words.{◌≡◌, ℕ, suc, ◌+◌, ◌-◌, ◌<◌, ◌≤◌, ◌&&◌, not, Bool, true, false, if◌then◌else◌, List, [], ◌∷◌, map, length, Option, Some, None, Err, refl, sym, ap, ◌∙◌, subst, filter, arith, nat_lt, slice_get, option_map, option_map_or, AllByRecursion, range_with_len, and_parts, and_from, lt-ltb, ltb-true, ltb-false, true≢false, false_from_ne_true, length-map, All-from_recursion, slice_get-map, common_steps, Owner, RawOpening, Link, Links, RootCall, CoinView, owner_of_opening, Tests, Rules, recipient-named, Bundle, HistoryRefusal, AreRising, is_committed, committed_blocks, blocks_of, is_absent, links_in, links_of, AreLinked, is_asked, opening_at, links_before, failure_in, above, unless_failed, checked, history_of, openings_before, last_shown, FailsFirstAt, RefusalsComeBehindLinks}
use Rattle.coin_history.proofs.HistoryOpenings.{lowest-some, Up, up-rising, up-weaker, past-head, each-found, found-block, asked-parts, asked-from, AreOf, blocks-from_are}
use Rattle.coin_history.proofs.HistoryLinks.{every-weaker, with_tx, absent-none, IsLeaf, IsNext, linked}
use Rattle.coin_history.proofs.HistoryFound.{IsRight, right-from_none, missing-none}

-- ---- what is before a block

-- each opening before n keeps what holds of those before n
every-before : (P : RawOpening → Type 0) (n : ℕ) (os : List RawOpening)
    → AllByRecursion (λ o. o.block < n → P o) os → AllByRecursion P (openings_before n os)
every-before P n [] all = tt
every-before P n (o ∷ os) all = grind (arith, common_steps, every-before P n os all.1, ltb-true) steps 20000

up-before : (n low : ℕ) (os : List RawOpening) → Up low os → Up low (openings_before n os)
up-before n low [] up = tt
up-before n low (o ∷ os) up = grind (arith, common_steps, up-before n (suc o.block) os up.1, up, up-weaker) steps 20000

-- the opening of a block before n is the same
opening-before : (n m : ℕ) (os : List RawOpening) → m < n → opening_at (openings_before n os) m ≡ opening_at os m
opening-before n m [] less = refl
opening-before n m (o ∷ os) less =
    grind (arith, common_steps, opening-before n m os less, past-head, ltb-false) steps 20000

-- the links before n are those of the openings before n
links-of_before : (rules : Rules) (coin n : ℕ) (os : List RawOpening)
    → filter (λ link. nat_lt link.block n) (links_in rules coin os) ≡ links_in rules coin (openings_before n os)
unfolding links_in
links-of_before rules coin n [] = refl
links-of_before rules coin n (o ∷ os) =
    grind (arith, common_steps, links-of_before rules coin n os, with_tx) steps 20000

-- the links before a block before n, of those before n
before-lower : (m n : ℕ) (links : List Link) → m ≤ n
    → filter (λ link. nat_lt link.block m) (filter (λ link. nat_lt link.block n) links)
    ≡ filter (λ link. nat_lt link.block m) links
before-lower m n [] le = refl
before-lower m n (link ∷ links) le =
    grind (arith, common_steps, before-lower m n links le, false_from_ne_true, ltb-true, ltb-false) steps 20000

-- of numbers that pass those that pass another test too
filter-both : (p q : ℕ → Bool) (ns : List ℕ) → filter (λ n. p n && q n) ns ≡ filter q (filter p ns)
filter-both p q [] = refl
filter-both p q (n ∷ ns) = grind (arith, common_steps, filter-both p q ns) steps 20000

-- ---- the last link

-- where a link goes and in which block it is, and what an opening shows of that
abbrev of_link : Link → ℕ × Owner
of_link link = (link.block, link.tx.body.to)

abbrev of_opening : RawOpening → ℕ × Owner
of_opening o = (o.block, owner_of_opening o)

-- the openings whose leaves aren't empty
abbrev filled : List RawOpening → List RawOpening
filled os = filter (λ o. not (is_absent o)) os

-- openings whose leaves are empty or transfers have the links that their filled leaves show
links-filled : (rules : Rules) (coin : ℕ) (os : List RawOpening) → AllByRecursion (IsLeaf rules coin) os
    → map of_link (links_in rules coin os) ≡ map of_opening (filled os)
unfolding links_in
links-filled rules coin [] all = refl
links-filled rules coin (o ∷ os) all =
    grind (
      arith,
      common_steps,
      links-filled rules coin os all.1,
      absent-none,
      recipient-named,
      with_tx,
      true≢false,
    ) steps 20000

-- the last of two lists that show the same
last-same : {X Y Z : Type 0} (f : X → Z) (g : Y → Z) (xs : List X) (ys : List Y) → map f xs ≡ map g ys
    → option_map f (slice_get xs (length xs - 1)) ≡ option_map g (slice_get ys (length ys - 1))
last-same f g xs ys same =
    let count : length xs ≡ length ys = sym (length-map xs f) ∙ ap length same ∙ length-map ys g in
    sym (slice_get-map f xs (length xs - 1))
    ∙ (λ i. slice_get (same i) (count i - 1))
    ∙ slice_get-map g ys (length ys - 1)

through : {X Y Z : Type 0} (f : X → Y) (g : Y → Z) (d : Z) (o : Option X)
    → option_map_or (λ x. g (f x)) o d ≡ option_map_or g (option_map f o) d
through f g d None = refl
through f g d (Some x) = refl

-- what holds of the last link is what the last filled leaf shows
last-of : {A : Type 0} (part : ℕ × Owner → A) (d : A) (links : List Link) (os : List RawOpening)
    → map of_link links ≡ map of_opening (filled os)
    → option_map_or (λ link. part (of_link link)) (slice_get links (length links - 1)) d
    ≡ option_map_or (λ o. part (of_opening o)) (last_shown os) d
last-of part d links os same =
    through of_link part d (slice_get links (length links - 1))
    ∙ ap (λ (o : Option (ℕ × Owner)). option_map_or part o d) (last-same of_link of_opening links (filled os) same)
    ∙ sym (through of_opening part d (last_shown os))

-- ---- openings of which none fails before n

module _ (tests : Tests) (rules : Rules) (log : List RootCall) (bundle : Bundle) (made : CoinView) (n : ℕ)
    (rising : AreRising bundle.openings)
    (none : (m : ℕ) → m < n
    → failure_in tests rules log bundle.tip (links_of rules made bundle) m (opening_at bundle.openings m) ≡ None) where
  abbrev own : Links
  own = links_of rules made bundle

  abbrev front : List RawOpening
  front = openings_before n bundle.openings

  up : Up 0 bundle.openings
  up = up-rising bundle.openings rising

  -- each opening before n is right
  right : AllByRecursion (IsRight tests rules log bundle.tip own) front
  right = every-before (IsRight tests rules log bundle.tip own) n bundle.openings
      (each-found (λ o. o.block < n → IsRight tests rules log bundle.tip own o) 0 bundle.openings up
      (λ m o found less.
      let at = found-block bundle.openings m o found in
      right-from_none tests rules log bundle.tip own o
      (grind (arith, common_steps) steps 20000)))

  front-low : AllByRecursion (λ o. o.block < n) front
  front-low = every-before (λ o. o.block < n) n bundle.openings (each bundle.openings)
    where
      each : (os : List RawOpening) → AllByRecursion (λ o. o.block < n → o.block < n) os
      each [] = tt
      each (o ∷ os) = (λ less. less, each os)

  -- the links before n are those of the openings before n
  spends-are : (links_before n own).spends ≡ links_in rules bundle.coin front
  spends-are = links-of_before rules bundle.coin n bundle.openings

  next-one : (o : RawOpening) → IsRight tests rules log bundle.tip own o → o.block < n
      → IsNext tests rules bundle.tip (links_before o.block (links_before n own)) o
  next-one o is less = grind (arith, common_steps, before-lower) steps 20000

  both : {X : Type 0} (P Q R : X → Type 0) (xs : List X) → ((x : X) → P x → Q x → R x) → AllByRecursion P xs
      → AllByRecursion Q xs → AllByRecursion R xs
  both P Q R [] h ps qs = tt
  both P Q R (x ∷ xs) h ps qs = (h x ps.0 qs.0, both P Q R xs h ps.1 qs.1)

  linked-front : AllByRecursion (IsLeaf rules bundle.coin) front
      × AreLinked tests made.deposit made.owner (links_in rules bundle.coin front)
  linked-front = linked tests rules bundle.tip (links_before n own) 0 [] front tt (up-before n 0 bundle.openings up)
      spends-are
      (both (IsRight tests rules log bundle.tip own) (λ o. o.block < n)
      (λ o. IsNext tests rules bundle.tip (links_before o.block (links_before n own)) o) front next-one right
      front-low)

  -- a block before n is asked exactly where it has an opening
  unopened : (m : ℕ) → m < n → opening_at bundle.openings m ≡ None → is_asked log made.deposit bundle.tip m ≡ false
  unopened m less absent = grind (arith, common_steps, missing-none) steps 20000

  -- the committed blocks that are before n
  abbrev is_low : ℕ → Bool
  is_low m = is_committed log m && nat_lt m n

  are-low : AreOf is_low (made.deposit + 1) (bundle.tip - made.deposit) front
  are-low = record {
    up = higher 0 front (up-before n 0 bundle.openings up)
        (grind (arith, common_steps, every-weaker, asked-parts, right) steps 20000);
    each = both (IsRight tests rules log bundle.tip own) (λ o. o.block < n)
        (λ o. (is_low o.block ≡ true) × (o.block < (made.deposit + 1) + (bundle.tip - made.deposit))) front
        (grind (arith, common_steps, asked-parts, and_from, lt-ltb) steps 20000) right front-low;
    other = λ m absent low high. false_from_ne_true (is_low m) (λ is.
        let parts = and_parts (is_committed log m) (nat_lt m n) is in
        grind (arith, common_steps, ltb-true, true≢false, asked-from, unopened, opening-before) steps 20000);
  }
    where
      higher : (low : ℕ) (os : List RawOpening) → Up low os → AllByRecursion (λ o. made.deposit + 1 ≤ o.block) os
          → Up (made.deposit + 1) os
      higher low [] rise all = tt
      higher low (o ∷ os) rise all = (all.0, rise.1)

  blocks-are : blocks_of front ≡ filter (λ block. nat_lt block n) (committed_blocks log made.deposit bundle.tip)
  unfolding committed_blocks
  blocks-are =
      blocks-from_are is_low (made.deposit + 1) (bundle.tip - made.deposit) front are-low
      ∙ filter-both (is_committed log) (λ block. nat_lt block n)
      (range_with_len (made.deposit + 1) (bundle.tip - made.deposit))

  filled-are : map of_link (links_before n own).spends ≡ map of_opening (filled front)
  filled-are =
      ap (map of_link) spends-are ∙ links-filled rules bundle.coin front linked-front.0

  pub fails-first : (why : HistoryRefusal)
      → failure_in tests rules log bundle.tip (links_of rules made bundle) n (opening_at bundle.openings n) ≡ Some why
      → FailsFirstAt tests rules log bundle made n why
  fails-first why fails = record {
    fails = fails;
    lowest = none;
    blocks = blocks-are;
    opened = grind (arith, common_steps, every-weaker, right) steps 20000;
    leaves = All-from_recursion (IsLeaf rules bundle.coin) front linked-front.0;
    shown = ap (λ (spends : List Link). record own { spends = spends }) spends-are;
    linked = subst (AreLinked tests made.deposit made.owner) (sym spends-are) linked-front.1;
    tip = last-of (λ (p : ℕ × Owner). p.0) made.deposit (links_before n own).spends front filled-are;
    owner = last-of (λ (p : ℕ × Owner). p.1) made.owner (links_before n own).spends front filled-are;
  }

-- ---- the law

refused-may : {A : Type 0} (may : Bool) (failed : Option HistoryRefusal) (answer : A) (other why : HistoryRefusal)
    → may ≡ true → (if may then unless_failed failed answer else Err other) ≡ Err why → failed ≡ Some why
refused-may true None answer other why may is = absurd (cc is)
refused-may true (Some wrong) answer other why may is = cc
refused-may false failed answer other why may is = absurd (true≢false (sym may))

pub refusals-behind : RefusalsComeBehindLinks
unfolding history_of
refusals-behind tests rules log bundle made why rising coin may is =
    let own : Links = links_of rules made bundle in
    let failures = λ (m : ℕ). failure_in tests rules log bundle.tip own m (opening_at bundle.openings m) in
    let found : checked tests rules log bundle own ≡ Err why = grind (arith, common_steps) steps 20000 in
    let low = lowest-some failures (above bundle.tip bundle.openings) why
    (grind (arith, common_steps, refused-may) steps 20000) in
    (low.block, fails-first tests rules log bundle made low.block rising low.first why low.fails)
