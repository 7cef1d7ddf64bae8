-- The bundle of a tip that the walk passed is a history.
use Rattle.operator_rules.proofs.Words.{◌≡◌, ◌≢◌, ◌⊎◌, ℕ, zero, suc, ◌+◌, ◌-◌, ◌^◌, ◌<◌, ◌≤◌, ◌==◌, true, false, if◌then◌else◌, List, [], ◌∷◌, length, filter, Option, Some, None, Ok, inl, inr, refl, sym, ap, ◌∙◌, subst, arith, is_some, AllByRecursion, range_with_len, option_and_then, ne_eqb, eq-eqb, lt-ltb, or_left, or_right, and_from, All-from_recursion, common_steps, Entry, leaf_of, SignedTx, RootCall, Deposit, CoinView, leaf_in, transfer_in, is_signed_by, blocks, coins, new_coin, coin_at, transfer-read, empty-none, some_same, Rules, tests_by, root_at, is_committed, committed_blocks, blocks_of, opens_block, is_empty, is_absent, transfer_of, links_in, links_of, AreLinked, IsHistory, deposit-le, opens-le, Forest, forest_of, tree_of, tree_at, opening_in_tree, Place, start_of, place_at, present, openings_of, tip_asked, bundle_of, Act, log_of, kept_notes, sealed_in, IsHonest, AreDistinct, IsGoodBundle, BundlesAreHistories, ZeroAsksForThePresentTip, PresentBundlesAreHistories}
use Rattle.plasma_tx.specs.declared.opening.RawOpening.{RawOpening}
use Rattle.plasma_tx.specs.declared.links.Links.{Links}
use Rattle.plasma_tx.specs.Links.{last_owner_of}
use Rattle.coin_history.specs.declared.bundle.Bundle.{Bundle}
use Rattle.coin_history.specs.Bundles.{IsBundle}
use Rattle.coin_history.specs.Checking.{may_be_tip, history_of}
use Rattle.coin_history.proofs.HistoryOpenings.{rising-up, asked-from_blocks}
use Rattle.coin_history.proofs.HistoryLinks.{every-weaker, tip_from, owner_from, tip-is, last_owner-is, with_tx, IsLeaf}
use Rattle.coin_history.proofs.HistoryFound.{histories_pass}
use Rattle.operator_rules.proofs.Trees.{tree_of-has, root_at-le}
use Rattle.operator_rules.proofs.Places.{place-start, place-moved, place-stays, place-idle, place-committed, place-passed}
use Rattle.operator_rules.proofs.Track.{IsTracked, Tracks}
use Rattle.operator_rules.proofs.Run.{IsKept, all_kept}
use Rattle.operator_rules.proofs.Openings.{leaf-short, shown}

suc-is : (n : ℕ) → n + 1 ≡ suc n
suc-is n = omega arith

-- a coin is deposited after the start
deposit-positive : (log : List RootCall) (c : ℕ) (made : CoinView) → coin_at log c ≡ Some made → 1 ≤ made.deposit
unfolding coin_at
deposit-positive [] c made is = absurd (cc is)
deposit-positive (Deposit account amount key ∷ log) c made is =
    (elim (c == coins log + 1) as (λ b. (if b then Some (new_coin log account amount key) else coin_at log c)
    ≡ Some made → 1 ≤ made.deposit) [
      | true ↦ grind (arith, common_steps, some_same) steps 20000
      | false ↦ λ e. deposit-positive log c made e
    ]) is
deposit-positive (call ∷ log) c made is = deposit-positive log c made is

-- the walk passes nothing below the deposit
tip-low : (dig : List ℕ → List ℕ) (tag : List ℕ) (c : ℕ) (made : CoinView) (log : List RootCall)
    (sealed : List (List Entry)) (tip : ℕ) → (place_at dig tag log sealed c made tip).block ≡ tip → made.deposit ≤ tip
tip-low dig tag c made log sealed tip at = grind (arith, common_steps, place-committed) steps 20000

tree_at-tree : (dig : List ℕ → List ℕ) (log : List RootCall) (sealed : List (List Entry)) (n : ℕ) (root : List ℕ)
    (tree : List Entry) → root_at log n ≡ Some root → tree_of dig sealed root ≡ Some tree
    → tree_at dig log sealed n ≡ Some tree
tree_at-tree dig log sealed n root tree root_is tree_is =
    ap (λ (r : Option (List ℕ)). option_and_then (tree_of dig sealed) r) root_is ∙ tree_is

leaf-empty : (o : RawOpening) (leaf : List ℕ) → leaf_in o.bytes ≡ leaf → leaf ≡ []
    → is_absent o ≡ true
leaf-empty o leaf is empty = ap is_empty (is ∙ empty)

module _ (dig : List ℕ → List ℕ) (rules : Rules) (c : ℕ) (made : CoinView) (log : List RootCall) (forest : Forest)
    (long : (bytes : List ℕ) → length (dig bytes) ≡ 32) (narrow : c < 2 ^ 64)
    (kept : IsKept dig rules.tag c log forest)
    (t : IsTracked dig rules.tag log forest.sealed forest.pool c made) where
  abbrev place : ℕ → Place
  place n = place_at dig rules.tag log forest.sealed c made n

  abbrev opening : ℕ → List Entry → RawOpening
  opening n tree = opening_in_tree dig c n tree

  -- an opening of a history, with few bytes
  record IsFine (o : RawOpening) : Type 0 where
    opens : opens_block (tests_by dig) log c o ≡ true
    leaf : IsLeaf rules c o
    short : length o.bytes < 2 ^ 32

  -- the opening of block m, behind n, is the link that moves the walk
  record IsLinked (n m : ℕ) (tree : List Entry) : Type 0 where
    tx : SignedTx
    tx_is : transfer_of rules c (opening m tree) ≡ Some tx
    parent : tx.body.parent ≡ (place n).block
    signed : is_signed_by tx (place n).owner ≡ true
    moved : place m ≡ record { block = m; owner = tx.body.to }

  -- it is fine, and it is that link, or it shows none and the walk stays
  record IsPassed (n m : ℕ) (tree : List Entry) : Type 0 where
    fine : IsFine (opening m tree)
    steps : ((transfer_of rules c (opening m tree) ≡ None) × (place m ≡ place n)) ⊎ IsLinked n m tree

  passed-suc : (n : ℕ) (root : List ℕ) (tree : List Entry) → made.deposit ≤ n → root_at log (suc n) ≡ Some root
      → tree_of dig forest.sealed root ≡ Some tree → IsPassed n (suc n) tree
  passed-suc n root tree low root_is tree_is =
      let has = tree_of-has dig forest.sealed root tree tree_is in
      elim (t.linked n root tree root_is tree_is) [
        | inl empty ↦
            let none : length (leaf_of tree c) ≤ 2632 = grind (arith, common_steps) steps 20000 in
            let s = shown dig log c (suc n) tree long narrow (kept.maps tree has.0) none in
            record {
              fine = grind (arith, common_steps, or_left, leaf-empty) steps 20000;
              steps = inl (
                ap (transfer_in rules.tag c (suc n)) (s.leaf ∙ empty) ∙ empty-none rules.tag c (suc n),
                place-stays dig rules.tag c made log forest.sealed n root tree low root_is tree_is empty,
              );
            }
        | inr both ↦
            let link = both.1 in
            let read = transfer-read rules.tag (leaf_of tree c) c (suc n) link.tx link.tx_is in
            let s = shown dig log c (suc n) tree long narrow (kept.maps tree has.0)
            (leaf-short rules.tag (leaf_of tree c) link.tx (place n).owner read.0 link.signed) in
            let tx_is : transfer_of rules c (opening (suc n) tree) ≡ Some link.tx =
            ap (transfer_in rules.tag c (suc n)) s.leaf ∙ link.tx_is in
            record {
              fine = grind (arith, common_steps, or_right) steps 20000;
              steps = inr (record {
                tx = link.tx;
                tx_is = tx_is;
                parent = link.parent;
                signed = link.signed;
                moved = place-moved dig rules.tag c made log forest.sealed n root tree low root_is tree_is link;
              });
            }
      ]

  passed : (n : ℕ) (root : List ℕ) (tree : List Entry) → made.deposit ≤ n → root_at log (n + 1) ≡ Some root
      → tree_of dig forest.sealed root ≡ Some tree → IsPassed n (n + 1) tree
  passed n root tree low root_is tree_is =
      subst (λ (m : ℕ). IsPassed n m tree) (sym (suc-is n))
      (passed-suc n root tree low (ap (root_at log) (sym (suc-is n)) ∙ root_is) tree_is)

  idle : (n : ℕ) → made.deposit ≤ n → root_at log (n + 1) ≡ None → place (n + 1) ≡ place n
  idle n low none =
      ap place (suc-is n)
      ∙ place-idle dig rules.tag c made log forest.sealed n low (ap (root_at log) (sym (suc-is n)) ∙ none)

  -- ---- the openings of the committed ones of the k blocks after n

  abbrev after : ℕ → ℕ → List ℕ
  after k n = filter (is_committed log) (range_with_len (n + 1) k)

  -- links from this place to that one
  record Leads (from to : Place) (os : List RawOpening) : Type 0 where
    linked : AreLinked (tests_by dig) from.block from.owner (links_in rules c os)
    tip : tip_from from.block (links_in rules c os) ≡ to.block
    owner : owner_from from.owner (links_in rules c os) ≡ to.owner

  record IsOpenedUp (k n : ℕ) : Type 0 where
    os : List RawOpening
    opened : openings_of dig log forest.sealed c (after k n) ≡ Ok os
    blocks_are : blocks_of os ≡ after k n
    few : length os ≤ k
    each : AllByRecursion IsFine os
    leads : Leads (place n) (place (n + k)) os

  leads-none : (from to : Place) → from ≡ to → Leads from to []
  unfolding AreLinked links_in
  leads-none from to e = grind (arith, common_steps) steps 20000

  leads-past : (from to : Place) (o : RawOpening) (os : List RawOpening) → transfer_of rules c o ≡ None
      → Leads from to os → Leads from to (o ∷ os)
  unfolding links_in
  leads-past from to o os none l = grind (arith, common_steps, with_tx, tip_from, owner_from) steps 20000

  leads-link : (from to : Place) (o : RawOpening) (os : List RawOpening) (tx : SignedTx)
      → transfer_of rules c o ≡ Some tx → tx.body.parent ≡ from.block → is_signed_by tx from.owner ≡ true
      → Leads (record { block = o.block; owner = tx.body.to }) to os → Leads from to (o ∷ os)
  unfolding links_in AreLinked
  leads-link from to o os tx some parent signed l =
      grind (arith, common_steps, with_tx, tip_from, owner_from) steps 20000

  after-idle : (k n : ℕ) → root_at log (n + 1) ≡ None → after (suc k) n ≡ after k (n + 1)
  after-idle k n none =
      ap (λ (r : Option (List ℕ)). if is_some r then (n + 1) ∷ after k (n + 1) else after k (n + 1)) none

  after-block : (k n : ℕ) (root : List ℕ) → root_at log (n + 1) ≡ Some root
      → after (suc k) n ≡ (n + 1) ∷ after k (n + 1)
  after-block k n root is =
      ap (λ (r : Option (List ℕ)). if is_some r then (n + 1) ∷ after k (n + 1) else after k (n + 1)) is

  opened_idle : (k n : ℕ) → made.deposit ≤ n → root_at log (n + 1) ≡ None → IsOpenedUp k (n + 1)
      → IsOpenedUp (suc k) n
  opened_idle k n low none up = grind (arith, common_steps, after-idle, idle) steps 20000

  opened_block : (k n : ℕ) (root : List ℕ) (tree : List Entry) → made.deposit ≤ n
      → root_at log (n + 1) ≡ Some root → tree_of dig forest.sealed root ≡ Some tree → IsOpenedUp k (n + 1)
      → IsOpenedUp (suc k) n
  unfolding openings_of
  opened_block k n root tree low root_is tree_is up =
      let p = passed n root tree low root_is tree_is in
      let o : RawOpening = opening (n + 1) tree in
      let e : n + 1 + k ≡ n + suc k = omega arith in
      let same = after-block k n root root_is in
      let rest : Leads (place (n + 1)) (place (n + suc k)) up.os =
      subst (λ (x : ℕ). Leads (place (n + 1)) (place x) up.os) e up.leads in
      record {
        os = o ∷ up.os;
        opened = grind (arith, common_steps, tree_at-tree) steps 20000;
        blocks_are = ap (λ (xs : List ℕ). (n + 1) ∷ xs) up.blocks_are ∙ sym same;
        few = let f = up.few in omega (arith, f);
        each = (p.fine, up.each);
        leads = elim p.steps [
          | inl stays ↦ leads-past (place n) (place (n + suc k)) o up.os stays.0
              (subst (λ (x : Place). Leads x (place (n + suc k)) up.os) stays.1 rest)
          | inr link ↦ leads-link (place n) (place (n + suc k)) o up.os link.tx link.tx_is link.parent link.signed
              (subst (λ (x : Place). Leads x (place (n + suc k)) up.os) link.moved rest)
        ];
      }

  opened_up : (k n : ℕ) → made.deposit ≤ n → IsOpenedUp k n
  unfolding openings_of
  opened_up zero n low = record {
    os = [];
    opened = refl;
    blocks_are = refl;
    few = omega arith;
    each = tt;
    leads = leads-none (place n) (place (n + zero)) (ap place (zero-is n));
  }
    where
      zero-is : (n : ℕ) → n ≡ n + zero
      zero-is n = omega arith
  opened_up (suc k) n low = by (root_at log (n + 1)) refl (opened_up k (n + 1) (omega arith))
    where
      by : (r : Option (List ℕ)) → root_at log (n + 1) ≡ r → IsOpenedUp k (n + 1) → IsOpenedUp (suc k) n
      by None is up = opened_idle k n low is up
      by (Some root) is up = let first = kept.known (n + 1) root is in
          opened_block k n root first.0 low is first.1 up

  -- ---- the bundle

  at-deposit : (tip : ℕ) → (place tip).block ≡ tip → (made.deposit ≤ tip) × (tip ≤ blocks log)
      × (may_be_tip log made.deposit tip ≡ true)
  at-deposit tip at =
      grind (arith, common_steps, place-committed, or_left, eq-eqb, root_at-le, or_right, and_from, lt-ltb) steps 20000

  -- a bundle that was made for this tip
  pub record IsMade (asked tip : ℕ) : Type 0 where
    pub bundle : Bundle
    pub links : Links
    pub is_made : bundle_of dig rules.tag log forest.sealed c asked (coin_at log c) ≡ Ok bundle
    pub is_bundle : IsBundle bundle
    pub is_history : history_of (tests_by dig) rules log bundle ≡ Ok links
    pub ends_with : last_owner_of links ≡ (place tip).owner

  pub made-good : (asked tip : ℕ) → coin_at log c ≡ Some made → blocks log < 2 ^ 32
      → tip_asked asked (present dig rules.tag log forest.sealed c made) ≡ tip → (place tip).block ≡ tip
      → IsMade asked tip
  unfolding committed_blocks
  made-good asked tip coin_is small asked_is at =
      let where_at = at-deposit tip at in
      let k : ℕ = tip - made.deposit in
      let up = opened_up k made.deposit (omega arith) in
      let e : made.deposit + k ≡ tip = omega (arith, where_at.0) in
      let leads : Leads (start_of made) (place tip) up.os = grind (arith, common_steps, place-start) steps 20000 in
      let bundle : Bundle = record { coin = c; tip = tip; openings = up.os } in
      let links : Links = links_of rules made bundle in
      let asked_blocks = asked-from_blocks log made.deposit tip up.os up.blocks_are in
      let opens = every-weaker IsFine (λ o. opens_block (tests_by dig) log c o ≡ true) (λ o f. f.opens) up.os
      up.each in
      let history : IsHistory (tests_by dig) rules log bundle links = record {
        made = made;
        coin = coin_is;
        blocks = up.blocks_are;
        opened = All-from_recursion (λ o. opens_block (tests_by dig) log c o ≡ true) up.os opens;
        leaves = All-from_recursion (IsLeaf rules c) up.os
            (every-weaker IsFine (IsLeaf rules c) (λ o f. f.leaf) up.os up.each);
        shown = refl;
        linked = leads.linked;
        tip = tip-is links ∙ leads.tip ∙ at;
      } in
      record {
        bundle = bundle;
        links = links;
        is_made = grind (arith, common_steps) steps 20000;
        is_bundle = record {
          coin = narrow;
          tip = omega (arith, where_at.1, small);
          count = let f = up.few in omega (arith, f, where_at.1, small);
          blocks = All-from_recursion (λ o. o.block < 2 ^ 64) up.os
              (grind (arith, common_steps, every-weaker, opens-le) steps 20000);
          lengths = All-from_recursion (λ o. length o.bytes < 2 ^ 32) up.os
              (every-weaker IsFine (λ o. length o.bytes < 2 ^ 32) (λ o f. f.short) up.os up.each);
          rising = rising-up (suc made.deposit) up.os asked_blocks.up;
        };
        is_history = histories_pass (tests_by dig) rules log bundle links history;
        ends_with = last_owner-is links ∙ leads.owner;
      }

-- ---- for honest operators

good-at : (dig : List ℕ → List ℕ) (rules : Rules) (acts : List Act) (coin asked tip : ℕ) (made : CoinView)
    → ((bytes : List ℕ) → length (dig bytes) ≡ 32) → coin < 2 ^ 64 → blocks (log_of acts) < 2 ^ 32
    → IsHonest dig rules.tag acts → AreDistinct dig (sealed_in acts) → coin_at (log_of acts) coin ≡ Some made
    → tip_asked asked (present dig rules.tag (log_of acts) (sealed_in acts) coin made) ≡ tip
    → (place_at dig rules.tag (log_of acts) (sealed_in acts) coin made tip).block ≡ tip
    → IsGoodBundle dig rules acts coin asked
    (place_at dig rules.tag (log_of acts) (sealed_in acts) coin made tip).owner
good-at dig rules acts coin asked tip made long narrow small honest distinct coin_is asked_is at =
    let forest : Forest = forest_of (kept_notes acts) in
    let kept = all_kept dig rules.tag coin acts honest distinct in
    let t : IsTracked dig rules.tag (log_of acts) forest.sealed forest.pool coin made =
    subst (Tracks dig rules.tag (log_of acts) forest.sealed forest.pool coin) coin_is kept.tracks in
    let g = made-good dig rules coin made (log_of acts) forest long narrow kept t asked tip coin_is small asked_is
    at in
    grind (arith, common_steps) steps 20000

pub bundles_are_histories : BundlesAreHistories
bundles_are_histories dig rules acts coin tip made long narrow small honest distinct coin_is at =
    let place : Place = present dig rules.tag (log_of acts) (sealed_in acts) coin made in
    let apart : tip ≢ 0 = grind (arith, common_steps, deposit-positive, tip-low) steps 20000 in
    grind (arith, common_steps, good-at, ne_eqb) steps 20000

pub present_bundles_are_histories : PresentBundlesAreHistories
present_bundles_are_histories dig rules acts coin made long narrow small honest distinct coin_is =
    let place : Place = present dig rules.tag (log_of acts) (sealed_in acts) coin made in
    let passed = place-passed dig rules.tag coin made (log_of acts) (sealed_in acts) (blocks (log_of acts))
    (deposit-le (log_of acts) coin made coin_is) in
    grind (arith, common_steps, passed, good-at) steps 20000

pub zero_asks_for_the_present_tip : ZeroAsksForThePresentTip
zero_asks_for_the_present_tip dig tag log sealed coin made coin_is = grind (arith, common_steps) steps 20000
