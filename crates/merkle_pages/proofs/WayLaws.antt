-- The nodes on the way up from a coin: room made for them, digests put in their place, and the tree after a put.
use Rattle.merkle_pages.proofs.Words.{◌≡◌, ◌≢◌, ℕ, ◌+◌, ◌/◌, ◌^◌, ◌<◌, ◌≤◌, ◌==◌, List, [], slice_index_or, Option, Some, IsSome, sym, ap, ◌∙◌, inl, inr, arith, unwrap_or, cases_Bool, cases_lt, cases_eq, eqb-true, eqb-false, common_steps, with_leaf, subtree_digest, default_digest, root_of, AreDefaults, Entry, IsMap-with_leaf, part_at, KeepsNodes, Paged, node_at, read_at, SameNodes, ReadsSame, PutsAt, SetsWay}
use Rattle.merkle_pages.proofs.PageLaws.{node-prefix, page_node-none, puts-here, puts-elsewhere}
use Rattle.merkle_pages.proofs.PartLaws.{part_at-same, part_at-whole}
use Rattle.merkle_pages.proofs.PutLaws.{part_at-empty, part_at-other}

-- ---- nodes that stay

pub reads-nodes : (defaults : List (List ℕ)) (old new : Paged) → SameNodes old new → ReadsSame defaults old new
reads-nodes defaults old new same level coin lt = grind (arith, common_steps) steps 20000

-- what is kept in place of a node is read as it was
pub reads-put : (defaults : List (List ℕ)) (level coin : ℕ) (kept : Option (List ℕ)) (old new : Paged)
    → PutsAt level coin kept old new
    → unwrap_or kept (slice_index_or defaults level []) ≡ read_at defaults level coin old
    → ReadsSame defaults old new
reads-put defaults level coin kept old new puts is k other lt =
    elim (cases_Bool (other / 2 ^ level == coin / 2 ^ level)) [
      | inl on_way ↦ elim (cases_eq k level) [
        | inl same ↦
            let e : other / 2 ^ level ≡ coin / 2 ^ level = eqb-true _ _ on_way in
            rw same (
            ap (λ (o : Option (List ℕ)). unwrap_or o (slice_index_or defaults level []))
            (puts-here level coin other kept old new puts e)
            ∙ is
            ∙ ap (λ (o : Option (List ℕ)). unwrap_or o (slice_index_or defaults level []))
            (sym (node-prefix level other coin old e))
            )
        | inr apart ↦ elsewhere (λ same e. apart same)
      ]
      | inr off_way ↦ elsewhere (λ same e. eqb-false _ _ off_way e)
    ]
  where
    elsewhere : (k ≡ level → other / 2 ^ level ≡ coin / 2 ^ level → ⊥)
        → read_at defaults k other new ≡ read_at defaults k other old
    elsewhere apart =
        ap (λ (o : Option (List ℕ)). unwrap_or o (slice_index_or defaults k []))
        (puts-elsewhere level coin k other kept old new puts apart)

-- ---- room for the nodes of a way

pub room-put : (level coin : ℕ) (digest : List ℕ) (old new : Paged) → PutsAt level coin (Some digest) old new
    → (k : ℕ) → IsSome (node_at k coin old) → IsSome (node_at k coin new)
room-put level coin digest old new puts k some = grind (arith, common_steps, cases_eq, puts-elsewhere) steps 20000

-- ---- the digests of a way in place of its nodes

pub SetsWay-none : (coin : ℕ) (digests defaults : List (List ℕ)) (pages : Paged)
    → SetsWay coin 0 digests defaults pages pages
SetsWay-none coin digests defaults pages = grind (arith, common_steps) steps 20000

pub SetsWay-more : (coin level : ℕ) (digests defaults : List (List ℕ)) (digest : List ℕ) (old mid new : Paged)
    → SetsWay coin level digests defaults old mid → PutsAt level coin (Some digest) mid new
    → digest ≡ slice_index_or digests level [] → SetsWay coin (level + 1) digests defaults old new
SetsWay-more coin level digests defaults digest old mid new sets puts is = record {
  here = λ k other below lt e. elim (cases_lt k level) [
    | inl under ↦ stays k other (λ same f. absurd (omega arith)) ∙ sets.here k other under lt e
    | inr top ↦
        let same : k ≡ level = omega arith in
        rw same (ap (λ (o : Option (List ℕ)). unwrap_or o (slice_index_or defaults level []))
        (puts-here level coin other (Some digest) mid new puts (rw same at e))
        ∙ is)
  ];
  elsewhere = λ k other lt off_way.
      stays k other (λ same f. off_way (omega arith) (rw same f))
      ∙ sets.elsewhere k other lt (λ below. off_way (omega arith));
}
  where
    stays : (k other : ℕ) → (k ≡ level → other / 2 ^ level ≡ coin / 2 ^ level → ⊥)
        → read_at defaults k other new ≡ read_at defaults k other mid
    stays k other apart =
        ap (λ (o : Option (List ℕ)). unwrap_or o (slice_index_or defaults k []))
        (puts-elsewhere level coin k other (Some digest) mid new puts apart)

pub SetsWay-then : (coin : ℕ) (digests defaults : List (List ℕ)) (old roomy mid new : Paged)
    → ReadsSame defaults old roomy → SetsWay coin 64 digests defaults roomy mid → ReadsSame defaults mid new
    → SetsWay coin 64 digests defaults old new
SetsWay-then coin digests defaults old roomy mid new first sets last = record {
  here = λ k other below lt e. last k other lt ∙ sets.here k other below lt e;
  elsewhere = λ k other lt off_way. last k other lt ∙ sets.elsewhere k other lt off_way ∙ first k other lt;
}

-- ---- a tree, without a leaf, and after a put

pub KeepsNodes-none : (dig : List ℕ → List ℕ) (root : List ℕ) (pages : Paged) → root ≡ default_digest dig 64
    → pages.entries ≡ [] → KeepsNodes dig [] root pages
unfolding root_of
KeepsNodes-none dig root pages is bare = grind (arith, common_steps, page_node-none, part_at-empty) steps 20000

module _ (dig : List ℕ → List ℕ) (entries : List Entry) (defaults : List (List ℕ)) (root : List ℕ) (old new : Paged)
    (are : AreDefaults dig defaults) (h : KeepsNodes dig entries root old) where
  -- a node by the defaults that are at hand
  read : (level other : ℕ) (pages : Paged) → level < 64
      → unwrap_or (node_at level other pages) (default_digest dig level) ≡ read_at defaults level other pages
  read level other pages lt = ap (λ (d : List ℕ). unwrap_or (node_at level other pages) d) (sym (are level lt))

  pub KeepsNodes-put : (coin : ℕ) (leaf : List ℕ) (digests : List (List ℕ)) → coin < 2 ^ 64
      → ((level : ℕ) → level ≤ 64 → slice_index_or digests level [] ≡ subtree_digest dig level
      (part_at level coin (with_leaf entries coin leaf)))
      → SetsWay coin 64 digests defaults old new
      → KeepsNodes dig (with_leaf entries coin leaf) (slice_index_or digests 64 []) new
  unfolding root_of
  KeepsNodes-put coin leaf digests lt digests_are sets =
      let map = IsMap-with_leaf entries coin leaf h.map lt in
      record {
        map = map;
        root_is = rw (part_at-whole coin (with_leaf entries coin leaf) lt map.small) at (digests_are 64 (omega arith));
        nodes = λ level other in_tree small. elim (cases_Bool (other / 2 ^ level == coin / 2 ^ level)) [
          | inl is ↦
              let e : other / 2 ^ level ≡ coin / 2 ^ level = eqb-true _ _ is in
              read level other new in_tree ∙ sets.here level other in_tree in_tree e
              ∙ digests_are level (omega arith)
              ∙ ap (λ (part : List Entry). subtree_digest dig level part)
              (sym (part_at-same other coin level (with_leaf entries coin leaf) e))
          | inr isnt ↦
              let ne : other / 2 ^ level ≢ coin / 2 ^ level = eqb-false _ _ isnt in
              grind (arith, common_steps, read, part_at-other) steps 20000
        ];
      }
