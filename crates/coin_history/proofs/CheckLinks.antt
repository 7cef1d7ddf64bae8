-- The links of openings that were passed, and what the next opening fails by.
use Rattle.coin_history.proofs.Words.{◌≡◌, ℕ, suc, ◌+◌, ◌<◌, ◌≤◌, ◌==◌, Bool, true, false, if◌then◌else◌, List, [], ◌∷◌, ◌++◌, length, get_or, drop, Option, Some, None, Ok, Err, refl, sym, ap, ◌∙◌, subst, filter, arith, nat_lt, Result, option_or, option_map, option_to_list, drop_all, append-nil, filter-append, lt-ltb, le-ltb, common_steps, RootCall, RawOpening, SignedTx, Link, Links, CoinView, tip_of, last_owner_of, transfer_in, empty-none, Tests, Rules, spends, Bundle, leaf_of_opening, is_absent, transfer_of, link_of, links_in, links_of, HistoryRefusal, MissingBlock, NotLink, BadSignature, AreRising, first_cause, is_asked, opening_at, lowest_failure, above, unless_failed, opening_causes, links_before, link_causes, failure_in, IsLookedAt, NoneIsAsked, IsFirstAsked, links_with}
use Rattle.coin_history.proofs.CheckFacts.{Up, Passed, IsAt, at-index, rest-at, first-append, failed-none, failed-some, empty-is, missing-next, failing-next, holding-next, looked-at, missing-last, holding-last, passed-start, asked-high}

-- ---- links

-- the link is before block n
abbrev pub is_before : ℕ → Link → Bool
is_before n link = nat_lt link.block n

-- The links of openings are these spends, which those before the rest show, and the links of the rest; so are those
-- before a block that wasn't passed.
pub record Collected (rules : Rules) (coin : ℕ) (openings rest : List RawOpening) (passed : ℕ)
    (spends : List Link) : Type 0 where
  pub all : links_in rules coin openings ≡ spends ++ links_in rules coin rest
  pub before : (n : ℕ) → passed ≤ n → filter (is_before n) (links_in rules coin openings)
      ≡ spends ++ filter (is_before n) (links_in rules coin rest)

pub collected-start : (rules : Rules) (coin : ℕ) (openings : List RawOpening)
    → Collected rules coin openings openings 0 []
collected-start rules coin openings = record { all = refl; before = λ n le. refl }

links-cons : (rules : Rules) (coin : ℕ) (o : RawOpening) (rest : List RawOpening)
    → links_in rules coin (o ∷ rest) ≡ option_to_list (link_of rules coin o) ++ links_in rules coin rest
unfolding links_in
links-cons rules coin o rest = grind (arith, common_steps) steps 20000

-- of a link that an opening shows, the ones before a number are all where the opening is before it, else none
filter-of : (rules : Rules) (coin n : ℕ) (o : RawOpening) (b : Bool) → nat_lt o.block n ≡ b
    → filter (is_before n) (option_to_list (link_of rules coin o))
    ≡ (if b then option_to_list (link_of rules coin o) else [])
filter-of rules coin n o b is = grind (arith, common_steps) steps 20000

-- links of openings at a block or above are none of those before it
later-none : (rules : Rules) (coin n low : ℕ) (rest : List RawOpening) → n ≤ low → Up low rest
    → filter (is_before n) (links_in rules coin rest) ≡ []
unfolding links_in
later-none rules coin n low [] le up = refl
later-none rules coin n low (o ∷ os) le up =
    let not-before : nat_lt o.block n ≡ false = le-ltb o.block n (omega (arith, up.0)) in
    ap (filter (is_before n)) (links-cons rules coin o os)
    ∙ filter-append (is_before n) (option_to_list (link_of rules coin o)) (links_in rules coin os)
    ∙ ap (λ (xs : List Link). xs ++ filter (is_before n) (links_in rules coin os))
    (filter-of rules coin n o false not-before)
    ∙ later-none rules coin n (suc o.block) os (omega (arith, up.0)) up.1

pub collected-next : (rules : Rules) (coin : ℕ) (openings : List RawOpening) (o : RawOpening)
    (rest : List RawOpening) (passed : ℕ) (spends : List Link)
    → Collected rules coin openings (o ∷ rest) passed spends → passed ≤ o.block
    → Collected rules coin openings rest (o.block + 1) (spends ++ option_to_list (link_of rules coin o))
collected-next rules coin openings o rest passed spends are le =
    grind (arith, common_steps, links-cons, lt-ltb, filter-append, filter-of) steps 20000

-- the links before the next opening's block are the spends
pub links-at : (rules : Rules) (made : CoinView) (bundle : Bundle) (o : RawOpening) (rest : List RawOpening)
    (passed : ℕ) (spends : List Link) → Collected rules bundle.coin bundle.openings (o ∷ rest) passed spends
    → Up passed (o ∷ rest)
    → links_before o.block (links_of rules made bundle) ≡ links_with bundle.coin made spends
links-at rules made bundle o rest passed spends are up = grind (arith, common_steps, later-none, append-nil) steps 20000

-- what the next opening fails by, after the spends before it
pub failure-at : (tests : Tests) (rules : Rules) (log : List RootCall) (made : CoinView) (bundle : Bundle)
    (o : RawOpening) (rest : List RawOpening) (passed : ℕ) (spends : List Link)
    → Collected rules bundle.coin bundle.openings (o ∷ rest) passed spends → Up passed (o ∷ rest)
    → failure_in tests rules log bundle.tip (links_of rules made bundle) o.block (Some o)
    ≡ option_or
    (first_cause (opening_causes tests log bundle.coin (is_asked log made.deposit bundle.tip o.block) o))
    (first_cause (link_causes tests rules bundle.tip (links_with bundle.coin made spends) o))
failure-at tests rules log made bundle o rest passed spends are up =
    first-append (opening_causes tests log bundle.coin (is_asked log made.deposit bundle.tip o.block) o)
    (link_causes tests rules bundle.tip (links_before o.block (links_of rules made bundle)) o)
    ∙ ap (λ (links : Links). option_or
    (first_cause (opening_causes tests log bundle.coin (is_asked log made.deposit bundle.tip o.block) o))
    (first_cause (link_causes tests rules bundle.tip links o)))
    (links-at rules made bundle o rest passed spends are up)

-- ---- the next link

-- what an opening fails by as the next link, and the transfer that it shows where it doesn't fail
abbrev pub next_of : Tests → Rules → ℕ → Links → RawOpening → Result (Option SignedTx) HistoryRefusal
next_of tests rules tip before opening =
    unless_failed (first_cause (link_causes tests rules tip before opening)) (transfer_of rules before.coin opening)

module _ (tests : Tests) (rules : Rules) (tip : ℕ) (before : Links) (opening : RawOpening) where
  pub next-absent : is_absent opening ≡ true → (opening.block == tip) ≡ false
      → next_of tests rules tip before opening ≡ Ok None
  next-absent is other = grind (arith, common_steps, empty-is, empty-none) steps 20000

  pub next-apart : is_absent opening ≡ false → spends (tip_of before) (transfer_of rules before.coin opening) ≡ false
      → next_of tests rules tip before opening ≡ Err (NotLink opening.block)
  next-apart is apart = rw (is, apart)

  pub next-unsigned : (tx : SignedTx) → is_absent opening ≡ false → transfer_of rules before.coin opening ≡ Some tx
      → (tx.body.parent == tip_of before) ≡ true → tests.is_signed tx (last_owner_of before) ≡ false
      → next_of tests rules tip before opening ≡ Err (BadSignature opening.block)
  next-unsigned tx is shown spends-it unsigned = rw (is, shown, spends-it, unsigned)

  pub next-link : (tx : SignedTx) → is_absent opening ≡ false → transfer_of rules before.coin opening ≡ Some tx
      → (tx.body.parent == tip_of before) ≡ true → tests.is_signed tx (last_owner_of before) ≡ true
      → next_of tests rules tip before opening ≡ Ok (Some tx)
  next-link tx is shown spends-it signed = rw (is, shown, spends-it, signed)

-- the transfer that was read from an opening's leaf
pub transfer-from : (rules : Rules) (coin : ℕ) (opening : RawOpening) (tag leaf : List ℕ) (read : Option SignedTx)
    (tx : SignedTx) → tag ≡ rules.tag → leaf ≡ leaf_of_opening opening
    → read ≡ transfer_in tag coin opening.block leaf → read ≡ Some tx → transfer_of rules coin opening ≡ Some tx
transfer-from rules coin opening tag leaf read tx tag-is leaf-is read-is some = grind (arith, common_steps) steps 20000

-- ---- the next opening of a history

module _ (tests : Tests) (rules : Rules) (log : List RootCall) (made : CoinView) (bundle : Bundle)
    (items : List RawOpening) (i : ℕ) (o : RawOpening) (passed : ℕ) (spends : List Link)
    (place : IsAt bundle.openings items i o)
    (are : Passed (failure_in tests rules log bundle.tip (links_of rules made bundle)) bundle.openings (drop i items)
    passed)
    (collected : Collected rules bundle.coin bundle.openings (drop i items) passed spends) where
  here : Passed (failure_in tests rules log bundle.tip (links_of rules made bundle)) bundle.openings
      (o ∷ drop (i + 1) items) passed
  here = at-index (failure_in tests rules log bundle.tip (links_of rules made bundle))
      (is_asked log made.deposit bundle.tip) (λ n. refl) bundle.openings items bundle.tip i o passed place are

  links-here : Collected rules bundle.coin bundle.openings (o ∷ drop (i + 1) items) passed spends
  links-here = subst (λ (rest : List RawOpening). Collected rules bundle.coin bundle.openings rest passed spends)
      (rest-at items i o place.inside place.is) collected

  -- it fails by the causes of every opening, or else as the next link after the spends
  failure-next : failure_in tests rules log bundle.tip (links_of rules made bundle) o.block (Some o)
      ≡ option_or
      (first_cause (opening_causes tests log bundle.coin (is_asked log made.deposit bundle.tip o.block) o))
      (first_cause (link_causes tests rules bundle.tip (links_with bundle.coin made spends) o))
  failure-next =
      failure-at tests rules log made bundle o (drop (i + 1) items) passed spends links-here here.up

  pub fails-opened : (leaf : List ℕ) (why : HistoryRefusal) → unless_failed
      (first_cause (opening_causes tests log bundle.coin (is_asked log made.deposit bundle.tip o.block) o)) leaf
      ≡ Err why → failure_in tests rules log bundle.tip (links_of rules made bundle) o.block (Some o) ≡ Some why
  fails-opened leaf why is =
      failure-next ∙ ap (λ (f : Option HistoryRefusal). option_or f
      (first_cause (link_causes tests rules bundle.tip (links_with bundle.coin made spends) o)))
      (failed-some (first_cause
      (opening_causes tests log bundle.coin (is_asked log made.deposit bundle.tip o.block) o)) leaf why is)

  -- where it opens, it fails as the next link does
  pub fails-linked : (leaf read : List ℕ) → unless_failed
      (first_cause (opening_causes tests log bundle.coin (is_asked log made.deposit bundle.tip o.block) o)) leaf
      ≡ Ok read → failure_in tests rules log bundle.tip (links_of rules made bundle) o.block (Some o)
      ≡ first_cause (link_causes tests rules bundle.tip (links_with bundle.coin made spends) o)
  fails-linked leaf read is =
      failure-next ∙ ap (λ (f : Option HistoryRefusal). option_or f
      (first_cause (link_causes tests rules bundle.tip (links_with bundle.coin made spends) o)))
      (failed-none (first_cause
      (opening_causes tests log bundle.coin (is_asked log made.deposit bundle.tip o.block) o)) leaf read is).0

  pub collected-past : Collected rules bundle.coin bundle.openings (drop (i + 1) items) (o.block + 1)
      (spends ++ option_to_list (link_of rules bundle.coin o))
  collected-past = collected-next rules bundle.coin bundle.openings o (drop (i + 1) items) passed spends links-here
      here.up.0

-- the link of an opening that shows a transfer
abbrev pub as_link : RawOpening → SignedTx → Link
as_link opening tx = record { block = opening.block; tx = tx; opening = opening }

-- the links of a bundle whose openings were all passed
pub collected-all : (rules : Rules) (made : CoinView) (bundle : Bundle) (items : List RawOpening) (i passed : ℕ)
    (spends : List Link) → length items ≤ i
    → Collected rules bundle.coin bundle.openings (drop i items) passed spends
    → links_with bundle.coin made spends ≡ links_of rules made bundle
unfolding links_in
collected-all rules made bundle items i passed spends long are =
    grind (arith, common_steps, drop_all, append-nil) steps 20000

-- ---- a history, opening by opening

-- what is answered of a bundle whose tip may be one
abbrev pub answer_of : Tests → Rules → List RootCall → CoinView → Bundle → Result Links HistoryRefusal
answer_of tests rules log made bundle =
    unless_failed
    (lowest_failure
    (λ n. failure_in tests rules log bundle.tip (links_of rules made bundle) n (opening_at bundle.openings n))
    (above bundle.tip bundle.openings))
    (links_of rules made bundle)

-- Of what is gone over, which are the bundle's openings, so many were passed: nothing fails below this number, and
-- they show these spends.
pub record Walked (tests : Tests) (rules : Rules) (log : List RootCall) (made : CoinView) (bundle : Bundle)
    (items : List RawOpening) (i number : ℕ) (spends : List Link) : Type 0 where
  pub same : items ≡ bundle.openings
  pub passed : Passed (failure_in tests rules log bundle.tip (links_of rules made bundle)) bundle.openings
      (drop i items) number
  pub collected : Collected rules bundle.coin bundle.openings (drop i items) number spends

pub walked-start : (tests : Tests) (rules : Rules) (log : List RootCall) (made : CoinView) (bundle : Bundle)
    (items : List RawOpening) (spends : List Link) → AreRising bundle.openings → items ≡ bundle.openings
    → spends ≡ [] → Walked tests rules log made bundle items 0 0 spends
walked-start tests rules log made bundle items spends rising same none = record {
  same = same;
  passed = subst
      (λ (xs : List RawOpening). Passed (failure_in tests rules log bundle.tip (links_of rules made bundle))
      bundle.openings xs 0) (sym same)
      (passed-start (failure_in tests rules log bundle.tip (links_of rules made bundle))
      (is_asked log made.deposit bundle.tip) (λ n. refl) bundle.openings rising);
  collected = grind (arith, common_steps, collected-start) steps 20000;
}

-- what is answered of the bundle from here on
module _ {tests : Tests} {rules : Rules} {log : List RootCall} {made : CoinView} {bundle : Bundle}
    {items : List RawOpening} {i number : ℕ} {spends : List Link}
    (walked : Walked tests rules log made bundle items i number spends) where
  -- the next opening
  module _ (o : RawOpening) (inside : i < length items) (is : o ≡ get_or items i o) where
    place : IsAt bundle.openings items i o
    place = record { same = walked.same; inside = inside; is = is }

    -- a block before it is asked
    pub walked-missing : (n : ℕ) → IsFirstAsked (is_asked log made.deposit bundle.tip) number o.block n
        → answer_of tests rules log made bundle ≡ Err (MissingBlock n)
    walked-missing n first =
        missing-next (failure_in tests rules log bundle.tip (links_of rules made bundle))
        (is_asked log made.deposit bundle.tip) (λ m. refl) bundle.openings items bundle.tip
        (links_of rules made bundle) i o number n place walked.passed first

    module _ (none : NoneIsAsked (is_asked log made.deposit bundle.tip) number o.block) where
      -- it is looked at
      pub walked-looked : is_asked log made.deposit bundle.tip o.block ≡ true
          → IsLookedAt (is_asked log made.deposit bundle.tip)
          (λ n. failure_in tests rules log bundle.tip (links_of rules made bundle) n (opening_at bundle.openings n))
          bundle.openings
      walked-looked asked =
          looked-at (failure_in tests rules log bundle.tip (links_of rules made bundle))
          (is_asked log made.deposit bundle.tip) (λ m. refl) bundle.openings items bundle.tip i o number place
          walked.passed none asked

      -- what it fails by is answered
      walked-failing : (why : HistoryRefusal)
          → failure_in tests rules log bundle.tip (links_of rules made bundle) o.block (Some o) ≡ Some why
          → answer_of tests rules log made bundle ≡ Err why
      walked-failing why fails =
          failing-next (failure_in tests rules log bundle.tip (links_of rules made bundle))
          (is_asked log made.deposit bundle.tip) (λ m. refl) bundle.openings items bundle.tip
          (links_of rules made bundle) i o number why place walked.passed none fails

      -- it isn't asked, or doesn't open its block's root
      pub walked-unopened : (why : HistoryRefusal) → Err why ≡ unless_failed
          (first_cause (opening_causes tests log bundle.coin (is_asked log made.deposit bundle.tip o.block) o))
          (leaf_of_opening o) → answer_of tests rules log made bundle ≡ Err why
      walked-unopened why fails =
          walked-failing why (fails-opened tests rules log made bundle items i o number spends place walked.passed
          walked.collected (leaf_of_opening o) why (sym fails))

      -- it opens the root, and isn't the next link, or is empty or the next link
      module _ (leaf : List ℕ) (opens : Ok leaf ≡ unless_failed
          (first_cause (opening_causes tests log bundle.coin (is_asked log made.deposit bundle.tip o.block) o))
          (leaf_of_opening o)) (lent : List Link) (equal : lent ≡ spends)
        where
          linked-lent : failure_in tests rules log bundle.tip (links_of rules made bundle) o.block (Some o)
              ≡ first_cause (link_causes tests rules bundle.tip (links_with bundle.coin made lent) o)
          linked-lent =
              fails-linked tests rules log made bundle items i o number spends place walked.passed walked.collected
              (leaf_of_opening o) leaf (sym opens)
              ∙ ap (λ (xs : List Link). first_cause (link_causes tests rules bundle.tip
              (links_with bundle.coin made xs) o)) (sym equal)

          pub walked-unlinked : (why : HistoryRefusal)
              → Err why ≡ next_of tests rules bundle.tip (links_with bundle.coin made lent) o
              → answer_of tests rules log made bundle ≡ Err why
          walked-unlinked why fails =
              walked-failing why (linked-lent ∙ failed-some
              (first_cause (link_causes tests rules bundle.tip (links_with bundle.coin made lent) o))
              (transfer_of rules bundle.coin o) why (sym fails))

          pub walked-next : (next : Option SignedTx)
              → Ok next ≡ next_of tests rules bundle.tip (links_with bundle.coin made lent) o
              → (grown : List Link) → grown ≡ spends ++ option_to_list (option_map (as_link o) next)
              → (behind : ℕ) → behind ≡ o.block + 1 → Walked tests rules log made bundle items (i + 1) behind grown
          walked-next next holds grown adds behind after =
              let linked = failed-none
              (first_cause (link_causes tests rules bundle.tip (links_with bundle.coin made lent) o))
              (transfer_of rules bundle.coin o) next (sym holds) in
              let gives : grown ≡ spends ++ option_to_list (link_of rules bundle.coin o) =
              adds ∙ ap (λ (t : Option SignedTx). spends ++ option_to_list (option_map (as_link o) t)) (sym linked.1) in
              record {
                same = walked.same;
                passed = subst
                    (λ (m : ℕ). Passed (failure_in tests rules log bundle.tip (links_of rules made bundle))
                    bundle.openings (drop (i + 1) items) m) (sym after)
                    (holding-next (failure_in tests rules log bundle.tip (links_of rules made bundle))
                    (is_asked log made.deposit bundle.tip) (λ m. refl) bundle.openings items bundle.tip i o number
                    place walked.passed none (linked-lent ∙ linked.0));
                collected = subst
                    (λ (m : ℕ). Collected rules bundle.coin bundle.openings (drop (i + 1) items) m grown) (sym after)
                    (subst (λ (xs : List Link). Collected rules bundle.coin bundle.openings (drop (i + 1) items)
                    (o.block + 1) xs) (sym gives)
                    (collected-past tests rules log made bundle items i o number spends place walked.passed
                    walked.collected));
              }

  -- the openings are at their end
  module _ (long : length items ≤ i) (end : ℕ) (at-end : end ≡ bundle.tip + 1) where
    -- a block behind them is asked
    pub walked-behind : (n : ℕ) → IsFirstAsked (is_asked log made.deposit bundle.tip) number end n
        → answer_of tests rules log made bundle ≡ Err (MissingBlock n)
    walked-behind n first =
        missing-last (failure_in tests rules log bundle.tip (links_of rules made bundle))
        (is_asked log made.deposit bundle.tip) (λ m. refl) bundle.openings items bundle.tip
        (links_of rules made bundle) i number n long walked.passed
        (subst (λ (m : ℕ). IsFirstAsked (is_asked log made.deposit bundle.tip) number m n) at-end first)

    -- none is
    pub walked-end : NoneIsAsked (is_asked log made.deposit bundle.tip) number end
        → (all : List Link) → all ≡ spends
        → answer_of tests rules log made bundle ≡ Ok (links_with bundle.coin made all)
    walked-end none all equal =
        holding-last (failure_in tests rules log bundle.tip (links_of rules made bundle))
        (is_asked log made.deposit bundle.tip) (λ m. refl) bundle.openings items bundle.tip
        (links_of rules made bundle) i number long walked.passed
        (subst (λ (m : ℕ). NoneIsAsked (is_asked log made.deposit bundle.tip) number m) at-end none)
        (asked-high log made.deposit bundle.tip)
        ∙ ap Ok (sym (ap (links_with bundle.coin made) equal
        ∙ collected-all rules made bundle items i number spends long walked.collected))
