-- Histories stay as the log grows, determine their links, and have beginnings.
use Rattle.coin_history.proofs.Words.{◌≡◌, ℕ, zero, suc, ◌+◌, ◌<◌, ◌≤◌, Bool, true, false, if◌then◌else◌, List, [], ◌∷◌, length, take, Option, Some, None, inl, inr, refl, sym, ap, ◌∙◌, subst, filter, arith, nat_le, option_map, option_and_then, AllByRecursion, cons_option, range_with_len, cases_eq, eq-eqb, ne_eqb, le-leb, leb-true, leb-false, true≢false, false_from_ne_true, All-filter, common_steps, Owner, RawOpening, SignedTx, Link, Links, RootCall, Deposit, Commit, BlockView, CoinView, tip_of, blocks, coins, block_at, coin_at, some_same, Tests, Rules, root_in, root_at, Bundle, is_committed, committed_blocks, opens_block, transfer_of, links_in, links_of, AreLinked, IsHistory, is_asked, opening_at, HistoriesHaveOneMeaning, HistoriesStay, AbsencesStay, first_links, up_to, HistoriesHaveBeginnings}
use Rattle.plasma_tx.proofs.Bounds.{coin_at-le}
use Rattle.coin_history.proofs.HistoryOpenings.{Up, up-each, up-weaker, past-head, found-each, asked-parts, asked-from, AreAsked, blocks-from_asked, asked-from_blocks}
use Rattle.coin_history.proofs.HistoryLinks.{every-weaker, tip_from, tip-is, with_tx, links-block, tip-found, IsLeaf}

-- ---- blocks and coins that are there stay

-- a block that is there is among those counted
pub block_at-le : (log : List RootCall) (n : ℕ) (block : BlockView) → block_at log n ≡ Some block → n ≤ blocks log
unfolding block_at blocks
block_at-le [] n block is = absurd (cc is)
block_at-le (Deposit account amount key ∷ log) n block is =
    elim (cases_eq n (blocks log + 1)) [
      | inl last ↦ omega arith
      | inr other ↦ omega (arith, block_at-le log n block (simp (ne_eqb n (blocks log + 1) other) at is))
    ]
block_at-le (Commit account root ∷ log) n block is =
    elim (cases_eq n (blocks log + 1)) [
      | inl last ↦ omega arith
      | inr other ↦ omega (arith, block_at-le log n block (simp (ne_eqb n (blocks log + 1) other) at is))
    ]
block_at-le (call ∷ log) n block is = block_at-le log n block is

pub block_at-grown : (log : List RootCall) (call : RootCall) (n : ℕ) → n ≤ blocks log
    → block_at (call ∷ log) n ≡ block_at log n
unfolding block_at
block_at-grown log call n le = grind (arith, common_steps, ne_eqb) steps 20000

pub root_at-grown : (log : List RootCall) (call : RootCall) (n : ℕ) → n ≤ blocks log
    → root_at (call ∷ log) n ≡ root_at log n
root_at-grown log call n le = ap (option_and_then root_in) (block_at-grown log call n le)

pub committed-le : (log : List RootCall) (n : ℕ) → is_committed log n ≡ true → n ≤ blocks log
committed-le log n is = grind (arith, common_steps, true≢false, block_at-le) steps 20000

pub opens-le : (tests : Tests) (log : List RootCall) (coin : ℕ) (o : RawOpening)
    → opens_block tests log coin o ≡ true → o.block ≤ blocks log
opens-le tests log coin o is = grind (arith, common_steps, committed-le) steps 20000

pub opens-grown : (tests : Tests) (log : List RootCall) (call : RootCall) (coin : ℕ) (o : RawOpening)
    → opens_block tests log coin o ≡ true → opens_block tests (call ∷ log) coin o ≡ true
opens-grown tests log call coin o is = grind (arith, common_steps, root_at-grown, opens-le) steps 20000

-- tests that agree on a range keep the same of it
filter-range : (p q : ℕ → Bool) (start count : ℕ) → ((n : ℕ) → start ≤ n → n < start + count → p n ≡ q n)
    → filter p (range_with_len start count) ≡ filter q (range_with_len start count)
filter-range p q start zero same = refl
filter-range p q start (suc count) same =
    let here : p start ≡ q start = same start (omega arith) (omega arith) in
    let rest = filter-range p q (start + 1) count (λ n low high. same n (omega arith) (omega arith)) in
    λ i. if here i then start ∷ rest i else rest i

pub committed_blocks-grown : (log : List RootCall) (call : RootCall) (low high : ℕ) → high ≤ blocks log
    → committed_blocks (call ∷ log) low high ≡ committed_blocks log low high
unfolding committed_blocks
committed_blocks-grown log call low high le = grind (arith, common_steps, filter-range, root_at-grown) steps 20000

pub coin_at-grown : (log : List RootCall) (call : RootCall) (c : ℕ) (made : CoinView) → coin_at log c ≡ Some made
    → coin_at (call ∷ log) c ≡ Some made
unfolding coin_at
coin_at-grown log call c made is = grind (arith, common_steps, ne_eqb, coin_at-le) steps 20000

-- a coin's deposit block is among those counted
pub deposit-le : (log : List RootCall) (c : ℕ) (made : CoinView) → coin_at log c ≡ Some made
    → made.deposit ≤ blocks log
unfolding coin_at blocks
deposit-le [] c made is = absurd (cc is)
deposit-le (Deposit account amount key ∷ log) c made is =
    elim (cases_eq c (coins log + 1)) [
      | inl last ↦
          grind (arith, common_steps, some_same, eq-eqb) steps 20000
      | inr other ↦ omega (arith, deposit-le log c made (simp (ne_eqb c (coins log + 1) other) at is))
    ]
deposit-le (Commit account root ∷ log) c made is = omega (arith, deposit-le log c made is)
deposit-le (call ∷ log) c made is = deposit-le log c made is

-- ---- histories stay

-- the tip of a history is among the blocks counted
pub tip-le : (tests : Tests) (rules : Rules) (log : List RootCall) (bundle : Bundle) (links : Links)
    → IsHistory tests rules log bundle links → bundle.tip ≤ blocks log
tip-le tests rules log bundle links is =
    let own : Links = links_of rules is.made bundle in
    let asked = asked-from_blocks log is.made.deposit bundle.tip bundle.openings is.blocks in
    let last : tip_of own ≡ bundle.tip = ap tip_of (sym is.shown) ∙ is.tip in
    elim (tip-found rules bundle.coin bundle.tip (suc is.made.deposit) is.made.deposit bundle.openings asked.up
    (sym (tip-is own) ∙ last)) [
      | inl e ↦ omega (arith, deposit-le log bundle.coin is.made is.coin)
      | inr shown ↦
          grind (arith, common_steps, found-each, asked-parts, committed-le) steps 20000
    ]

pub histories_stay : HistoriesStay
histories_stay tests rules log call bundle links is = record {
  made = is.made;
  coin = coin_at-grown log call bundle.coin is.made is.coin;
  blocks = is.blocks ∙ sym (committed_blocks-grown log call is.made.deposit bundle.tip
      (tip-le tests rules log bundle links is));
  opened = grind (arith, common_steps, opens-grown) steps 20000;
  leaves = is.leaves;
  shown = is.shown;
  linked = is.linked;
  tip = is.tip;
}

pub absences_stay : AbsencesStay
absences_stay tests log call coin after last openings le is = record {
  blocks = is.blocks ∙ sym (committed_blocks-grown log call after last le);
  opened = grind (arith, common_steps, opens-grown) steps 20000;
  empty = is.empty;
}

-- ---- one meaning

pub histories_have_one_meaning : HistoriesHaveOneMeaning
histories_have_one_meaning tests rules log bundle links others one other =
    grind (arith, common_steps, some_same) steps 20000

-- ---- beginnings

module _ (tests : Tests) where
  linked-take : (count block : ℕ) (owner : Owner) (links : List Link) → AreLinked tests block owner links
      → AreLinked tests block owner (take count links)
  unfolding AreLinked
  linked-take zero block owner links are = tt
  linked-take (suc count) block owner [] are = tt
  linked-take (suc count) block owner (link ∷ links) are =
      (are.0, are.1, linked-take count link.block link.tx.body.to links are.2)

every-take : {X : Type 0} (P : X → Type 0) (n : ℕ) (xs : List X) → AllByRecursion P xs → AllByRecursion P (take n xs)
every-take P zero xs all = tt
every-take P (suc n) [] all = tt
every-take P (suc n) (x ∷ xs) all = (all.0, every-take P n xs all.1)

-- what holds of the block before links and of each of theirs holds of the last
last-holds : (P : ℕ → Type 0) (block : ℕ) (links : List Link) → P block → AllByRecursion (λ link. P link.block) links
    → P (tip_from block links)
last-holds P block [] here all = here
last-holds P block (link ∷ links) here all = last-holds P link.block links all.0 all.1

-- the openings up to a block
abbrev pub within : ℕ → List RawOpening → List RawOpening
within k os = filter (λ o. nat_le o.block k) os

within-none : (k : ℕ) (os : List RawOpening) → AllByRecursion (λ o. k < o.block) os → within k os ≡ []
within-none k [] all = refl
within-none k (o ∷ os) all =
    grind (arith, common_steps, within-none k os all.1, false_from_ne_true, leb-true) steps 20000

within-first : (k : ℕ) (o : RawOpening) (os : List RawOpening) → o.block ≤ k → within k (o ∷ os) ≡ o ∷ within k os
within-first k o os le =
    ap (λ (b : Bool). if b then o ∷ within k os else within k os) (le-leb o.block k le)

up-within : (k low : ℕ) (os : List RawOpening) → Up low os → Up low (within k os)
up-within k low [] up = tt
up-within k low (o ∷ os) up = grind (arith, common_steps, up-within k (suc o.block) os up.1, up-weaker) steps 20000

-- the opening of a block up to there is the same
opening-within : (k n : ℕ) (os : List RawOpening) → n ≤ k → opening_at (within k os) n ≡ opening_at os n
opening-within k n [] le = refl
opening-within k n (o ∷ os) le = grind (arith, common_steps, opening-within k n os le, past-head, leb-false) steps 20000

pub asked-within : (log : List RootCall) (low high k : ℕ) (os : List RawOpening) → k ≤ high → AreAsked log low high os
    → AreAsked log low k (within k os)
asked-within log low high k os le asked = record {
  up = up-within k (suc low) os asked.up;
  each = each os asked.each;
  other =
      grind (arith, common_steps, false_from_ne_true, asked-parts, true≢false, asked-from, opening-within) steps 20000;
}
  where
    each : (xs : List RawOpening) → AllByRecursion (λ o. is_asked log low high o.block ≡ true) xs
        → AllByRecursion (λ o. is_asked log low k o.block ≡ true) (within k xs)
    each [] all = tt
    each (x ∷ xs) all =
        (elim (nat_le x.block k) as (λ b. nat_le x.block k ≡ b
        → AllByRecursion (λ o. is_asked log low k o.block ≡ true) (if b then x ∷ within k xs else within k xs)) [
          | true ↦ λ kept.
              let parts = asked-parts log low high x.block all.0 in
              (asked-from log low k x.block parts.0 parts.1 (leb-true x.block k kept), each xs all.1)
          | false ↦ λ out. each xs all.1
        ]) refl

-- the links up to one of them are those of the openings up to its block
module _ (rules : Rules) (coin : ℕ) where
  links-within : (count low block : ℕ) (os : List RawOpening) → Up low os → block < low
      → count ≤ length (links_in rules coin os)
      → links_in rules coin (within (tip_from block (take count (links_in rules coin os))) os)
      ≡ take count (links_in rules coin os)
  unfolding links_in
  links-within zero low block os up less le =
      ap (links_in rules coin) (within-none block os (every-weaker (λ o. low ≤ o.block) (λ o. block < o.block)
      (λ o above. omega arith) os (up-each low os up)))
  links-within (suc count) low block [] up less le = absurd (omega arith)
  links-within (suc count) low block (o ∷ os) up less le =
      (elim (transfer_of rules coin o) as (λ t. transfer_of rules coin o ≡ t
      → suc count ≤ length (cons_option (option_map (with_tx o) t) (links_in rules coin os))
      → links_in rules coin (within (tip_from block (take (suc count)
      (cons_option (option_map (with_tx o) t) (links_in rules coin os)))) (o ∷ os))
      ≡ take (suc count) (cons_option (option_map (with_tx o) t) (links_in rules coin os))) [
        | None ↦ λ none long.
            skipped none (tip_from block (take (suc count) (links_in rules coin os)))
            ∙ links-within (suc count) (suc o.block) block os up.1 (omega (arith, up.0)) long
        | Some tx ↦ λ some long.
            let k = tip_from o.block (take count (links_in rules coin os)) in
            let later : AllByRecursion (λ link. o.block ≤ link.block) (links_in rules coin os) =
            links-block rules coin (λ n. o.block ≤ n) os
            (every-weaker (λ x. suc o.block ≤ x.block) (λ x. o.block ≤ x.block) (λ x more. omega arith) os
            (up-each (suc o.block) os up.1)) in
            let first : o.block ≤ k = last-holds (λ n. o.block ≤ n) o.block (take count (links_in rules coin os))
            (omega arith) (every-take (λ (link : Link). o.block ≤ link.block) count (links_in rules coin os) later) in
            ap (links_in rules coin) (within-first k o os first)
            ∙ ap (λ (t : Option SignedTx). cons_option (option_map (with_tx o) t)
            (links_in rules coin (within k os))) some
            ∙ ap (λ (l : List Link). with_tx o tx ∷ l)
            (links-within count (suc o.block) o.block os up.1 (omega arith) (omega arith))
      ]) refl le
    where
      skipped : transfer_of rules coin o ≡ None → (k : ℕ)
          → links_in rules coin (within k (o ∷ os)) ≡ links_in rules coin (within k os)
      skipped none k = grind (arith, common_steps, with_tx) steps 20000

begins : (tests : Tests) (rules : Rules) (log : List RootCall) (bundle : Bundle) (made : CoinView) (count k : ℕ)
    → count ≤ length (links_in rules bundle.coin bundle.openings)
    → k ≡ tip_from made.deposit (take count (links_in rules bundle.coin bundle.openings))
    → coin_at log bundle.coin ≡ Some made
    → IsHistory tests rules log bundle (links_of rules made bundle)
    → IsHistory tests rules log (up_to k bundle) (first_links count (links_of rules made bundle))
begins tests rules log bundle made count k le e coin is =
    let same : is.made ≡ made = some_same is.made made (sym is.coin ∙ coin) in
    let asked : AreAsked log made.deposit bundle.tip bundle.openings =
    asked-from_blocks log made.deposit bundle.tip bundle.openings
    (is.blocks ∙ ap (λ (m : CoinView). committed_blocks log m.deposit bundle.tip) same) in
    let own : Links = links_of rules made bundle in
    let least : made.deposit ≤ bundle.tip = subst (λ (n : ℕ). made.deposit ≤ n) (sym (tip-is own) ∙ is.tip)
    (last-holds (λ n. made.deposit ≤ n) made.deposit own.spends (omega arith)
    (links-block rules bundle.coin (λ n. made.deposit ≤ n) bundle.openings
    (grind (arith, common_steps, every-weaker, up-each) steps 20000))) in
    let most : k ≤ bundle.tip = subst (λ (n : ℕ). n ≤ bundle.tip) (sym e)
    (last-holds (λ n. n ≤ bundle.tip) made.deposit (take count own.spends) least
    (every-take (λ (link : Link). link.block ≤ bundle.tip) count own.spends
    (links-block rules bundle.coin (λ n. n ≤ bundle.tip) bundle.openings
    (grind (arith, common_steps, every-weaker, asked-parts) steps 20000)))) in
    record {
      made = made;
      coin = coin;
      blocks = grind (arith, common_steps, blocks-from_asked, asked-within) steps 20000;
      opened = All-filter (λ o. nat_le o.block k) (λ o. opens_block tests log bundle.coin o ≡ true)
          bundle.openings is.opened;
      leaves = All-filter (λ o. nat_le o.block k) (IsLeaf rules bundle.coin) bundle.openings is.leaves;
      shown = grind (arith, common_steps, links-within) steps 20000;
      linked = linked-take tests count made.deposit made.owner own.spends is.linked;
      tip = tip-is (first_links count own) ∙ sym e;
    }

pub histories_have_beginnings : HistoriesHaveBeginnings
histories_have_beginnings tests rules log bundle links count le is =
    let own : Links = links_of rules is.made bundle in
    subst (λ (l : Links).
    IsHistory tests rules log (up_to (tip_of (first_links count l)) bundle) (first_links count l)) (sym is.shown)
    (begins tests rules log bundle is.made count (tip_of (first_links count own))
    (subst (λ (l : Links). count ≤ length l.spends) is.shown le) (tip-is (first_links count own)) is.coin
    (subst (IsHistory tests rules log bundle) is.shown is))
