-- Two histories of one coin agree up to the nearer tip, and absences exclude links, or they show two leaves of a root.
use Rattle.coin_history.proofs.Words.{◌≡◌, ℕ, zero, suc, true, false, List, [], ◌∷◌, map, Option, Some, None, inl, inr, refl, sym, ap, ◌∙◌, subst, arith, ◌&&◌, Bool, if◌then◌else◌, filter, ◌⊎◌, ◌≢◌, nat_lt, nat_le, option_map, option_map_or, AllByRecursion, cons_option, Contains, true≢false, and_parts, ltb-true, leb-true, recursion_from_All, All-from_recursion, All-filter, All-contains_itself, common_steps, RawOpening, SignedTx, Link, Links, RootCall, coin_at, some_same, Tests, Rules, root_at, committed_blocks, blocks_of, opens_block, leaf_of_opening, transfer_of, links_in, is_empty, is_absent, ShowTwoLeaves, block_and_tx, HistoriesAgree, AbsencesExcludeLinks, CoinView, is_asked, opening_at}
use Rattle.std.specs.Str.{bytes_eq}
use Rattle.std.proofs.lemmas.Slice.Eq.{bytes_eq-Decides}
use Rattle.coin_history.proofs.HistoryLinks.{with_tx, absent-none}
use Rattle.coin_history.proofs.HistoryOpenings.{found-each, asked-parts, asked-from, AreAsked, blocks-from_asked, asked-from_blocks}
use Rattle.coin_history.proofs.HistoryGrow.{within, asked-within}

-- ---- openings of lists

first-in : (o : RawOpening) (os : List RawOpening) → Contains (o ∷ os) o
first-in o os = (zero, omega arith, refl)

later-in : (o : RawOpening) (os : List RawOpening) (x : RawOpening) → Contains os x → Contains (o ∷ os) x
later-in o os x has = (suc has.0, omega (arith, has.1), has.2)

kept-in : (p : RawOpening → Bool) (os : List RawOpening) (x : RawOpening) → Contains (filter p os) x → Contains os x
kept-in p os x has =
    let all = All-filter p (Contains os) os (All-contains_itself os) in
    subst (Contains os) has.2 (all has.0 x has.1)

found-in : (os : List RawOpening) (n : ℕ) (x : RawOpening) → opening_at os n ≡ Some x → Contains os x
found-in os n x found =
    let at = found-each (Contains os) os n x (recursion_from_All (Contains os) os (All-contains_itself os)) found in
    at.1

-- ---- two leaves of one root

module _ (tests : Tests) (log : List RootCall) (coin : ℕ) where
  -- an opening opens the root of its block
  root-opened : (block : ℕ) (o : RawOpening) → o.block ≡ block → opens_block tests log coin o ≡ true
      → (root : List ℕ) → root_at log block ≡ Some root → tests.opens root coin o ≡ true
  root-opened block o at is root has = grind (arith, common_steps) steps 20000

  -- openings of one block to different leaves, one of each list
  two-leaves : (o x : RawOpening) (os xs : List RawOpening) → Contains os o → Contains xs x → o.block ≡ x.block
      → opens_block tests log coin o ≡ true → opens_block tests log coin x ≡ true
      → leaf_of_opening o ≢ leaf_of_opening x → ShowTwoLeaves tests log coin os xs
  two-leaves o x os xs has-o has-x at one two differ =
      (elim (root_at log o.block) as (λ r. root_at log o.block ≡ r
      → option_map_or (λ root. tests.opens root coin o) r false ≡ true
      → ShowTwoLeaves tests log coin os xs) [
        | None ↦ λ none wrong. absurd (true≢false (sym wrong))
        | Some root ↦ λ has opens. record {
          one = o;
          other = x;
          root = root;
          is_one = has-o;
          is_other = has-x;
          one_block = at;
          has_root = has;
          one_opens = opens;
          other_opens = root-opened o.block x (sym at) two root has;
          differ = differ;
        }
      ]) refl one

  -- they are in larger lists too
  among : (os xs more others : List RawOpening) → ((x : RawOpening) → Contains os x → Contains more x)
      → ((x : RawOpening) → Contains xs x → Contains others x) → ShowTwoLeaves tests log coin os xs
      → ShowTwoLeaves tests log coin more others
  among os xs more others into-more into-others two = record {
    one = two.one;
    other = two.other;
    root = two.root;
    is_one = into-more two.one two.is_one;
    is_other = into-others two.other two.is_other;
    one_block = two.one_block;
    has_root = two.has_root;
    one_opens = two.one_opens;
    other_opens = two.other_opens;
    differ = two.differ;
  }

  -- openings of the same blocks have the same leaves, or two are of one root with different leaves
  pub compared : (os xs : List RawOpening) → blocks_of os ≡ blocks_of xs
      → AllByRecursion (λ o. opens_block tests log coin o ≡ true) os
      → AllByRecursion (λ o. opens_block tests log coin o ≡ true) xs
      → (map leaf_of_opening os ≡ map leaf_of_opening xs) ⊎ ShowTwoLeaves tests log coin os xs
  compared [] [] same one two = inl refl
  compared [] (x ∷ xs) same one two = absurd (cc same)
  compared (o ∷ os) [] same one two = absurd (cc same)
  compared (o ∷ os) (x ∷ xs) same one two =
      let at : o.block ≡ x.block = cc in
      let rest : blocks_of os ≡ blocks_of xs = cc in
      let decides = bytes_eq-Decides (leaf_of_opening o) (leaf_of_opening x) in
      (elim (bytes_eq (leaf_of_opening o) (leaf_of_opening x)) as (λ b.
      bytes_eq (leaf_of_opening o) (leaf_of_opening x) ≡ b
      → (map leaf_of_opening (o ∷ os) ≡ map leaf_of_opening (x ∷ xs))
      ⊎ ShowTwoLeaves tests log coin (o ∷ os) (x ∷ xs)) [
        | true ↦ λ is. elim (compared os xs rest one.1 two.1) [
          | inl e ↦ let leaf = decides.0 is in inl (λ i. leaf i ∷ e i)
          | inr shown ↦ inr (among os xs (o ∷ os) (x ∷ xs) (later-in o os) (later-in x xs) shown)
        ]
        | false ↦ λ isnt. inr (two-leaves o x (o ∷ os) (x ∷ xs) (first-in o os) (first-in x xs) at one.0 two.0
            (λ e. true≢false (sym (decides.1 e) ∙ isnt)))
      ]) refl

  -- a leaf that is there differs from an empty one
  leaves-differ : (o x : RawOpening) → is_absent o ≡ false → is_absent x ≡ true
      → leaf_of_opening o ≢ leaf_of_opening x
  leaves-differ o x there absent e = true≢false (sym absent ∙ ap is_empty (sym e) ∙ there)

  -- ---- absences exclude links

  module _ (rules : Rules) (low high after last : ℕ) (openings : List RawOpening)
      (asked : AreAsked log after last openings)
      (opened : AllByRecursion (λ o. opens_block tests log coin o ≡ true) openings)
      (empty : AllByRecursion (λ o. is_absent o ≡ true) openings) where
    -- a leaf that is there, in a block in which the openings show the coin absent
    beside : (o : RawOpening) (os : List RawOpening) → Contains os o → is_asked log low high o.block ≡ true
        → opens_block tests log coin o ≡ true → is_absent o ≡ false
        → (nat_lt after o.block && nat_le o.block last) ≡ true → ShowTwoLeaves tests log coin os openings
    beside o os has ours opens there inside =
        let ends = and_parts (nat_lt after o.block) (nat_le o.block last) inside in
        let committed = (asked-parts log low high o.block ours).0 in
        let is : is_asked log after last o.block ≡ true =
        asked-from log after last o.block committed (ltb-true after o.block ends.0) (leb-true o.block last ends.1) in
        (elim (opening_at openings o.block) as (λ r. opening_at openings o.block ≡ r
        → ShowTwoLeaves tests log coin os openings) [
          | None ↦ λ none. absurd (true≢false (sym is ∙ asked.other o.block none))
          | Some x ↦ λ found.
              let at = found-each (λ y. opens_block tests log coin y ≡ true) openings o.block x opened found in
              let bare = found-each (λ y. is_absent y ≡ true) openings o.block x empty found in
              two-leaves o x os openings has (found-in openings o.block x found) (sym at.0) opens at.1
              (leaves-differ o x there bare.1)
        ]) refl

    abbrev IsOutside : Link → Type 0
    IsOutside link = (nat_lt after link.block && nat_le link.block last) ≡ false

    outside-one : (o : RawOpening) (t : Option SignedTx) (links : List Link)
        → (nat_lt after o.block && nat_le o.block last) ≡ false → AllByRecursion IsOutside links
        → AllByRecursion IsOutside (cons_option (option_map (with_tx o) t) links)
    outside-one o None links out rest = rest
    outside-one o (Some tx) links out rest = (out, rest)

    -- no link is in such a block, or two leaves are shown
    excluded : (os : List RawOpening) → AllByRecursion (λ o. is_asked log low high o.block ≡ true) os
        → AllByRecursion (λ o. opens_block tests log coin o ≡ true) os
        → AllByRecursion IsOutside (links_in rules coin os) ⊎ ShowTwoLeaves tests log coin os openings
    unfolding links_in
    excluded [] ours opens = inl tt
    excluded (o ∷ os) ours opens = elim (excluded os ours.1 opens.1) [
      | inr shown ↦ inr (among os openings (o ∷ os) openings (later-in o os) (λ x has. has) shown)
      | inl rest ↦
          (elim (nat_lt after o.block && nat_le o.block last) as (λ b.
          (nat_lt after o.block && nat_le o.block last) ≡ b
          → AllByRecursion IsOutside (links_in rules coin (o ∷ os)) ⊎ ShowTwoLeaves tests log coin (o ∷ os) openings) [
            | false ↦ λ out. inl (outside-one o (transfer_of rules coin o) (links_in rules coin os) out rest)
            | true ↦ λ inside. (elim (is_absent o) as (λ a. is_absent o ≡ a
                → AllByRecursion IsOutside (links_in rules coin (o ∷ os))
                ⊎ ShowTwoLeaves tests log coin (o ∷ os) openings) [
                  | true ↦ λ absent. inl (grind (arith, common_steps, with_tx, absent-none) steps 20000)
                  | false ↦ λ there. inr (beside o (o ∷ os) (first-in o os) ours.0 opens.0 there inside)
                ]) refl
          ]) refl
    ]

-- ---- the same links

module _ (rules : Rules) (coin : ℕ) where
  same-link : (o x : RawOpening) (t : Option SignedTx) (links others : List Link) → o.block ≡ x.block
      → map block_and_tx links ≡ map block_and_tx others
      → map block_and_tx (cons_option (option_map (with_tx o) t) links)
      ≡ map block_and_tx (cons_option (option_map (with_tx x) t) others)
  same-link o x None links others at rest = rest
  same-link o x (Some tx) links others at rest = λ i. (at i, tx) ∷ rest i

  -- the same blocks with the same leaves show the same links
  pub same-links : (os xs : List RawOpening) → blocks_of os ≡ blocks_of xs
      → map leaf_of_opening os ≡ map leaf_of_opening xs
      → map block_and_tx (links_in rules coin os) ≡ map block_and_tx (links_in rules coin xs)
  unfolding links_in
  same-links [] [] blocks leaves = refl
  same-links [] (x ∷ xs) blocks leaves = absurd (cc blocks)
  same-links (o ∷ os) [] blocks leaves = absurd (cc blocks)
  same-links (o ∷ os) (x ∷ xs) blocks leaves =
      let at : o.block ≡ x.block = cc in
      let leaf : leaf_of_opening o ≡ leaf_of_opening x = cc in
      let more : blocks_of os ≡ blocks_of xs = cc in
      let further : map leaf_of_opening os ≡ map leaf_of_opening xs = cc in
      grind (arith, common_steps, same-links os xs more further, with_tx, same-link) steps 20000

  -- the links up to a block are those of the openings up to it
  one-within : (k : ℕ) (o : RawOpening) (t : Option SignedTx) (links : List Link)
      → filter (λ link. nat_le link.block k) (cons_option (option_map (with_tx o) t) links)
      ≡ (if nat_le o.block k then cons_option (option_map (with_tx o) t) (filter (λ link. nat_le link.block k) links)
      else filter (λ link. nat_le link.block k) links)
  one-within k o t links = grind (arith, common_steps) steps 20000

  pub kept-links : (k : ℕ) (os : List RawOpening)
      → filter (λ link. nat_le link.block k) (links_in rules coin os) ≡ links_in rules coin (within k os)
  unfolding links_in
  kept-links k [] = refl
  kept-links k (o ∷ os) = grind (arith, common_steps, kept-links k os, one-within, with_tx, within) steps 20000

-- ---- the laws

pub histories_agree : HistoriesAgree
histories_agree tests rules log bundle other links others one two coin le =
    let made : one.made ≡ two.made = some_same one.made two.made (sym one.coin ∙ ap (coin_at log) coin ∙ two.coin) in
    let near = within bundle.tip other.openings in
    let asked = asked-from_blocks log one.made.deposit other.tip other.openings
    (two.blocks ∙ ap (λ (m : CoinView). committed_blocks log m.deposit other.tip) (sym made)) in
    let blocks : blocks_of bundle.openings ≡ blocks_of near =
    grind (arith, common_steps, blocks-from_asked, asked-within) steps 20000 in
    let opened = recursion_from_All (λ o. opens_block tests log other.coin o ≡ true) near
    (All-filter (λ o. nat_le o.block bundle.tip) (λ o. opens_block tests log other.coin o ≡ true)
    other.openings two.opened) in
    elim (compared tests log bundle.coin bundle.openings near blocks
    (recursion_from_All (λ o. opens_block tests log bundle.coin o ≡ true) bundle.openings one.opened)
    (subst (λ (c : ℕ). AllByRecursion (λ o. opens_block tests log c o ≡ true) near) (sym coin) opened)) [
      | inl leaves ↦ inl (
        leaves,
        ap (λ (l : Links). map block_and_tx l.spends) one.shown
            ∙ same-links rules bundle.coin bundle.openings near blocks leaves
            ∙ ap (λ (c : ℕ). map block_and_tx (links_in rules c near)) coin
            ∙ ap (map block_and_tx) (sym (kept-links rules other.coin bundle.tip other.openings))
            ∙ ap (λ (l : Links). map block_and_tx (filter (λ link. nat_le link.block bundle.tip) l.spends))
            (sym two.shown),
      )
      | inr shown ↦ inr (among tests log bundle.coin bundle.openings near bundle.openings other.openings
          (λ x has. has) (kept-in (λ o. nat_le o.block bundle.tip) other.openings) shown)
    ]

pub absences_exclude_links : AbsencesExcludeLinks
absences_exclude_links tests rules log bundle links after last openings is absent =
    let ours = asked-from_blocks log is.made.deposit bundle.tip bundle.openings is.blocks in
    let theirs = asked-from_blocks log after last openings absent.blocks in
    elim (excluded tests log bundle.coin rules is.made.deposit bundle.tip after last openings theirs
    (recursion_from_All (λ o. opens_block tests log bundle.coin o ≡ true) openings absent.opened)
    (recursion_from_All (λ o. is_absent o ≡ true) openings absent.empty) bundle.openings ours.each
    (recursion_from_All (λ o. opens_block tests log bundle.coin o ≡ true) bundle.openings is.opened)) [
      | inl out ↦ inl (All-from_recursion (λ link. (nat_lt after link.block && nat_le link.block last) ≡ false)
          links.spends (grind (arith, common_steps) steps 20000))
      | inr shown ↦ inr shown
    ]
