-- The nodes that a tree keeps are the digests of the parts of its map.
use Rattle.merkle_pages.proofs.Words.{◌≡◌, ◌≢◌, ℕ, suc, ◌/◌, ◌^◌, ◌<◌, List, [], slice_index_or, sym, ap, ◌∙◌, inl, inr, arith, bit_xor, unwrap_or, cases_Bool, cases_lt, xor_lt, pow_below, common_steps, node_string, subtree_digest, default_digest, root_of, IsMap, AreDefaults, Entry, default_digest-suc, part_at, KeepsDefaults, KeepsNodes, IsClear, KeepsNode, AddsPart, Paged, name_at, place_at, kept_digest, node_at, PutsAt}
use Rattle.std.proofs.lemmas.Slice.Eq.{bytes_eq-Decides}
use Rattle.merkle_pages.proofs.PageLaws.{name_at-prefix, place_at-prefix, page_node-none, puts-elsewhere}
use Rattle.merkle_pages.proofs.PartLaws.{part_at-same, part_at-whole, part_at-none, prefix-up, halves, sibling-apart, IsSibling-xor}

pub KeepsDefaults-made : (dig : List ℕ → List ℕ) (below : List (List ℕ)) (root : List ℕ) → AreDefaults dig below
    → root ≡ dig (node_string (slice_index_or below 63 []) (slice_index_or below 63 [])) → KeepsDefaults dig below root
KeepsDefaults-made dig below root are is = record {
  below_are = are;
  root_is = is ∙ rw (are 63 (omega arith)) (sym (default_digest-suc dig 63));
}

kept-read : (digest default : List ℕ) → unwrap_or (kept_digest digest default) default ≡ digest
kept-read digest default = grind (arith, common_steps, cases_Bool, bytes_eq-Decides) steps 20000

-- what stands for the siblings of a coin's way up are the digests of their parts
pub siblings-kept : (dig : List ℕ → List ℕ) (entries : List Entry) (root : List ℕ) (pages : Paged)
    (defaults siblings : List (List ℕ)) (coin : ℕ) → coin < 2 ^ 64 → KeepsNodes dig entries root pages
    → AreDefaults dig defaults
    → ((k : ℕ) → k < 64 → slice_index_or siblings k []
    ≡ unwrap_or (node_at k (bit_xor coin (2 ^ k)) pages) (slice_index_or defaults k []))
    → (k : ℕ) → k < 64
    → slice_index_or siblings k [] ≡ subtree_digest dig k (part_at k (bit_xor coin (2 ^ k)) entries)
siblings-kept dig entries root pages defaults siblings coin lt h are is k in_tree =
    is k in_tree
    ∙ ap (λ (d : List ℕ). unwrap_or (node_at k (bit_xor coin (2 ^ k)) pages) d) (are k in_tree)
    ∙ h.nodes k (bit_xor coin (2 ^ k)) in_tree (xor_lt 64 coin (2 ^ k) lt (pow_below k 64 in_tree))

pub node-root : (dig : List ℕ → List ℕ) (entries : List Entry) (root : List ℕ) (pages : Paged) (level coin : ℕ)
    → coin < 2 ^ 64 → level ≡ 64 → KeepsNodes dig entries root pages
    → root ≡ subtree_digest dig level (part_at level coin entries)
unfolding root_of
node-root dig entries root pages level coin lt top h = rw (top, part_at-whole coin entries lt h.map.small) h.root_is

module _ (dig : List ℕ → List ℕ) (entries : List Entry) where
  -- ---- one node

  pub KeepsNode-put : (level coin : ℕ) (digest default : List ℕ)
      (old new : Paged)
      → PutsAt level coin (kept_digest digest default) old new
      → default ≡ default_digest dig level → KeepsNode dig level coin digest old new
  KeepsNode-put level coin digest default old new puts is = record {
    here = grind (arith, common_steps, kept-read) steps 20000;
    elsewhere = λ k other in_tree apart.
        puts-elsewhere level coin k other (kept_digest digest default) old new puts apart;
  }

  pub KeepsNode-root : (level coin : ℕ) (digest : List ℕ) (pages : Paged)
      → level ≡ 64 → KeepsNode dig level coin digest pages pages
  KeepsNode-root level coin digest pages top = grind (arith, common_steps) steps 20000

  -- ---- the nodes of a part

  pub IsClear-bare : (level coin : ℕ) (pages : Paged) → pages.entries ≡ []
      → IsClear level coin pages
  IsClear-bare level coin pages bare k other in_tree le e =
      page_node-none pages (name_at k other) (place_at k other) bare

  pub AddsPart-none : (level coin : ℕ) (pages : Paged)
      → part_at level coin entries ≡ [] → IsClear level coin pages → AddsPart dig entries level coin pages pages
  AddsPart-none level coin pages none clear = grind (arith, common_steps, part_at-none) steps 20000

  pub AddsPart-leaf : (level coin : ℕ) (digest : List ℕ) (old new : Paged)
      → level ≡ 0 → digest ≡ subtree_digest dig level (part_at level coin entries)
      → KeepsNode dig level coin digest old new → AddsPart dig entries level coin old new
  AddsPart-leaf level coin digest old new bottom is keeps = record {
    added = grind (arith, common_steps, name_at-prefix, place_at-prefix, part_at-same) steps 20000;
    stays = λ k other in_tree outside. keeps.elsewhere k other in_tree (λ same e. outside (omega arith) e);
  }

  pub clear-near : (level below coin : ℕ) (pages : Paged) → level ≡ suc below
      → IsClear level coin pages → IsClear below coin pages
  clear-near level below coin pages up clear k other tree le e =
      clear k other tree (omega arith) (prefix-up other coin below level (omega arith) e)

  -- the two halves of a part, and its own node
  module _ (level below coin : ℕ) (up : level ≡ suc below) (lt : coin < 2 ^ 64) (in_tree : below < 64)
      (old mid : Paged) where
    above-is : bit_xor coin (2 ^ below) / 2 ^ level ≡ coin / 2 ^ level
    above-is = rw up (IsSibling-xor coin below lt in_tree).above

    apart-is : bit_xor coin (2 ^ below) / 2 ^ below ≢ coin / 2 ^ below
    apart-is = sibling-apart coin (bit_xor coin (2 ^ below)) below (IsSibling-xor coin below lt in_tree)

    pub clear-far : AddsPart dig entries below coin old mid → IsClear level coin old
        → IsClear below (bit_xor coin (2 ^ below)) mid
    clear-far near clear k other tree le e =
        near.stays k other tree (λ low f. apart-is (sym e ∙ f))
        ∙ clear k other tree (omega arith)
        (prefix-up other (bit_xor coin (2 ^ below)) below level (omega arith) e ∙ above-is)

    pub AddsPart-more : (digest : List ℕ) (far new : Paged)
        → AddsPart dig entries below coin old mid
        → AddsPart dig entries below (bit_xor coin (2 ^ below)) mid far
        → digest ≡ subtree_digest dig level (part_at level coin entries) → KeepsNode dig level coin digest far new
        → AddsPart dig entries level coin old new
    AddsPart-more digest far new near more is keeps = record {
      added = λ k other tree le e. elim (cases_lt below k) [
        | inl over ↦
            grind (arith, common_steps, name_at-prefix, place_at-prefix, part_at-same) steps 20000
        | inr under ↦
            let kept : node_at k other new ≡ node_at k other far =
            keeps.elsewhere k other tree (λ same _. absurd (omega arith)) in
            elim (halves other coin (bit_xor coin (2 ^ below)) below (IsSibling-xor coin below lt in_tree)
            (rw up at e)) [
              | inl here ↦
                  grind (arith, common_steps, apart-is) steps 20000
              | inr there ↦
                  grind (arith, common_steps) steps 20000
            ]
      ];
      stays = λ k other tree outside.
          keeps.elsewhere k other tree (λ same e. outside (omega arith) e)
          ∙ more.stays k other tree (λ low e. outside (omega arith)
          (prefix-up other (bit_xor coin (2 ^ below)) below level (omega arith) e ∙ above-is))
          ∙ near.stays k other tree (λ low e. outside (omega arith)
          (prefix-up other coin below level (omega arith) e));
    }

  -- ---- the whole

  pub KeepsNodes-made : (root : List ℕ) (bare new : Paged) → IsMap entries
      → root ≡ subtree_digest dig 64 (part_at 64 0 entries) → AddsPart dig entries 64 0 bare new
      → KeepsNodes dig entries root new
  unfolding root_of
  KeepsNodes-made root bare new map is adds = record {
    map = map;
    root_is = rw (part_at-whole 0 entries (omega arith) map.small) at is;
    nodes = λ level coin in_tree lt. adds.added level coin in_tree (omega arith) (omega arith);
  }
