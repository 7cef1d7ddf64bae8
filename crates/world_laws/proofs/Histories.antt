-- Histories as walks, absences block by block, and that both stay as the log grows.
use Rattle.world_laws.proofs.Basics.{◌≡◌, ℕ, suc, ◌-◌, length, ◌<◌, ◌≤◌, ◌==◌, ◌||◌, true, List, [], ◌∷◌, Option, Some, None, refl, sym, ap, ◌∙◌, subst, arith, rules, is_some, option_map, option_map_or, AllByRecursion, cons_option, eqb-true, true≢false, false≢true, false_from_ne_true, or_cases, recursion_from_All, common_steps, find-has, got-has}
use Rattle.world_laws.proofs.CoinWords.{RawOpening, SignedTx, Link, Links, RootCall, CoinView, last_spend, tip_of, last_owner_of, AtDeposit, Spend, block_of, tip_shown, Tests, Rules, root_at, Bundle, is_absent, leaf_of_opening, transfer_of, opens_block, links_in, links_of, AreLinked, IsHistory, IsAbsent, is_asked, opening_at, tip_from, owner_from, tip-is, last_owner-is, with_tx, root_at-grown, committed-le, Has, all-has, empty-is}
use Rattle.coin_history.proofs.HistoryOpenings.{up-each, below-none, past-head, asked-parts, asked-from, AreAsked, asked-from_blocks}
use Rattle.world_laws.proofs.Clash.{IsOpened}
use Rattle.world_laws.proofs.Walk.{Place, IsGap, Moves, IsWalk}

abbrev pub place_of : CoinView → Place
place_of made = record { block = made.deposit; owner = made.owner }

-- ---- openings

opened-from : (tests : Tests) (log : List RootCall) (c : ℕ) (o : RawOpening) → opens_block tests log c o ≡ true
    → IsOpened tests log c o
opened-from tests log c o is = grind (arith, common_steps, false≢true)

pub opened-grow : (tests : Tests) (call : RootCall) (log : List RootCall) (c : ℕ) (o : RawOpening)
    → IsOpened tests log c o → IsOpened tests (call ∷ log) c o
opened-grow tests call log c o is = record {
  root = is.root;
  root_is = root_at-grown log call o.block (committed-le log o.block (ap is_some is.root_is)) ∙ is.root_is;
  opens = is.opens;
}

-- ---- the blocks that are asked

asked-rest : (log : List RootCall) (low high : ℕ) (o : RawOpening) (os : List RawOpening)
    → AreAsked log low high (o ∷ os) → AreAsked log o.block high os
asked-rest log low high o os are = record {
  up = are.up.1;
  each = each os (up-each (suc o.block) os are.up.1) are.each.1;
  other = grind (arith, false_from_ne_true, asked-parts, true≢false, asked-from, past-head);
}
  where
    each : (xs : List RawOpening) → AllByRecursion (λ x. suc o.block ≤ x.block) xs
        → AllByRecursion (λ x. is_asked log low high x.block ≡ true) xs
        → AllByRecursion (λ x. is_asked log o.block high x.block ≡ true) xs
    each [] above all = tt
    each (x ∷ xs) above all =
        let parts = asked-parts log low high x.block all.0 in
        (asked-from log o.block high x.block parts.0 (omega (arith, above.0)) parts.2, each xs above.1 all.1)

asked-gap : (log : List RootCall) (low high : ℕ) (o : RawOpening) (os : List RawOpening)
    → AreAsked log low high (o ∷ os) → IsGap log low o.block
asked-gap log low high o os are m above under =
    grind (arith, common_steps, asked-parts, true≢false, asked-from, below-none)

-- ---- a history is a walk

module _ (tests : Tests) (rules : Rules) (log : List RootCall) (c tip : ℕ) where
  abbrev EndOf : Place → List Link → Place
  EndOf last links = record { block = tip; owner = owner_from last.owner links }

  abbrev AreLeaves : List RawOpening → Type 0
  AreLeaves os = AllByRecursion (λ o. (is_absent o || is_some (transfer_of rules c o)) ≡ true) os

  walk-from : (n : ℕ) (last : Place) (os : List RawOpening) → AreAsked log n tip os
      → AllByRecursion (λ o. opens_block tests log c o ≡ true) os → AreLeaves os
      → AreLinked tests last.block last.owner (links_in rules c os)
      → tip_from last.block (links_in rules c os) ≡ tip → last.block ≤ n → n ≤ tip
      → IsWalk tests rules log c n last os (EndOf last (links_in rules c os))
  unfolding IsWalk links_in AreLinked
  walk-from n last [] are opened leaves linked end low high =
      (omega (arith, end), λ i. record { block = end i; owner = last.owner })
  walk-from n last (o ∷ os) are opened leaves linked end low high =
      by_tx (transfer_of rules c o) refl linked end
      (λ next chain at le up. walk-from o.block next os (asked-rest log n tip o os are) opened.1 leaves.1 chain at le
      up)
    where
      absent_then : transfer_of rules c o ≡ None → is_absent o ≡ true
      absent_then none = grind (arith, common_steps, or_cases, false≢true)

      by_tx : (t : Option SignedTx) → transfer_of rules c o ≡ t
          → AreLinked tests last.block last.owner (cons_option (option_map (with_tx o) t) (links_in rules c os))
          → tip_from last.block (cons_option (option_map (with_tx o) t) (links_in rules c os)) ≡ tip
          → ((next : Place) → AreLinked tests next.block next.owner (links_in rules c os)
          → tip_from next.block (links_in rules c os) ≡ tip → next.block ≤ o.block → o.block ≤ tip
          → IsWalk tests rules log c o.block next os (EndOf next (links_in rules c os)))
          → IsWalk tests rules log c n last (o ∷ os)
          (EndOf last (cons_option (option_map (with_tx o) t) (links_in rules c os)))
      by_tx None none chain at rest = grind (arith, common_steps, asked-parts, asked-gap, opened-from, empty-is)
      by_tx (Some tx) some chain at rest =
          let parts = asked-parts log n tip o.block are.each.0 in
          record {
            rises = parts.1;
            gap = asked-gap log n tip o os are;
            opened = opened-from tests log c o opened.0;
            next = record { block = o.block; owner = tx.body.to };
            step = Moves tx some chain.0 chain.1 refl;
            rest = rest (record { block = o.block; owner = tx.body.to }) chain.2 at (omega arith) parts.2;
          }

pub history-walk : (tests : Tests) (rules : Rules) (log : List RootCall) (bundle : Bundle) (links : Links)
    → (h : IsHistory tests rules log bundle links)
    → IsWalk tests rules log bundle.coin h.made.deposit (place_of h.made) bundle.openings
    (record { block = bundle.tip; owner = last_owner_of links })
unfolding links_in
history-walk tests rules log bundle links h =
    let own : Links = links_of rules h.made bundle in
    let are = asked-from_blocks log h.made.deposit bundle.tip bundle.openings h.blocks in
    let end : tip_from h.made.deposit own.spends ≡ bundle.tip = sym (tip-is own) ∙ ap tip_of (sym h.shown) ∙ h.tip in
    let owner : owner_from h.made.owner own.spends ≡ last_owner_of links =
    sym (last_owner-is own) ∙ ap last_owner_of (sym h.shown) in
    subst (λ w. IsWalk tests rules log bundle.coin h.made.deposit (place_of h.made) bundle.openings
    (record { block = bundle.tip; owner = w })) owner
    (walk-from tests rules log bundle.coin bundle.tip h.made.deposit (place_of h.made) bundle.openings are
    (recursion_from_All (λ o. opens_block tests log bundle.coin o ≡ true) bundle.openings h.opened)
    (recursion_from_All (λ o. (is_absent o || is_some (transfer_of rules bundle.coin o)) ≡ true) bundle.openings
    h.leaves)
    (subst (λ (l : Links). AreLinked tests l.deposit l.owner l.spends) h.shown h.linked) end (omega arith)
    (low bundle.openings are end))
  where
    low : (os : List RawOpening) → AreAsked log h.made.deposit bundle.tip os
        → tip_from h.made.deposit (links_in rules bundle.coin os) ≡ bundle.tip → h.made.deposit ≤ bundle.tip
    low [] are end = omega (arith, end)
    low (o ∷ os) are end =
        let parts = asked-parts log h.made.deposit bundle.tip o.block are.each.0 in omega (arith, parts.1, parts.2)

-- ---- absences

-- an opening that shows the coin absent in the block
pub record ShowsAbsent (tests : Tests) (log : List RootCall) (c : ℕ) (os : List RawOpening) (n : ℕ) : Type 0 where
  pub o : RawOpening
  pub has : Has os o
  pub block_is : o.block ≡ n
  pub empty : leaf_of_opening o ≡ []
  pub opened : IsOpened tests log c o

pub absent-covers : (tests : Tests) (log : List RootCall) (c low high : ℕ) (os : List RawOpening)
    → IsAbsent tests log c low high os → (m : ℕ) (root : List ℕ) → low < m → m ≤ high → root_at log m ≡ Some root
    → ShowsAbsent tests log c os m
absent-covers tests log c low high os is m root above under root_is = by_found (opening_at os m) refl
  where
    are : AreAsked log low high os
    are = asked-from_blocks log low high os is.blocks

    by_found : (f : Option RawOpening) → opening_at os m ≡ f → ShowsAbsent tests log c os m
    by_found None none =
        absurd (true≢false (sym (asked-from log low high m (ap is_some root_is) above under) ∙ are.other m none))
    by_found (Some o) found =
        let r = find-has (λ (x : RawOpening). x.block == m) os o found in
        record {
          o = o;
          has = r.0;
          block_is = eqb-true o.block m r.1;
          empty = empty-is (leaf_of_opening o) (all-has (λ x. is_absent x ≡ true) os o
              (recursion_from_All (λ x. is_absent x ≡ true) os is.empty) r.0);
          opened = opened-from tests log c o (all-has (λ x. opens_block tests log c x ≡ true) os o
              (recursion_from_All (λ x. opens_block tests log c x ≡ true) os is.opened) r.0);
        }

-- ---- the block of a link

-- a link is in the block of its opening
pub links-at : (rules : Rules) (c : ℕ) (os : List RawOpening)
    → AllByRecursion (λ link. link.opening.block ≡ link.block) (links_in rules c os)
unfolding links_in
links-at rules c [] = tt
links-at rules c (o ∷ os) = grind (arith, common_steps, links-at rules c os, with_tx)

-- so what shows the tip of these links is in the tip's block
pub shown-tip : (links : Links) → AllByRecursion (λ link. link.opening.block ≡ link.block) links.spends
    → block_of (tip_shown links) ≡ tip_of links
shown-tip links at = by_last (last_spend links) refl
  where
    by_last : (o : Option Link) → last_spend links ≡ o
        → block_of (option_map_or (λ link. Spend link.opening) o (AtDeposit links.deposit))
        ≡ option_map_or (λ link. link.block) o links.deposit
    by_last None none = refl
    by_last (Some link) some = all-has (λ (l : Link). l.opening.block ≡ l.block) links.spends link at
        (got-has links.spends (length links.spends - 1) link some)
