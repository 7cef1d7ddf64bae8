-- The nodes of a tree over a finite map.
use Rattle.std.specs.Prelude.{◌≡◌, ℕ, ◌/◌, ◌^◌, ◌<◌, ◌≤◌, ◌==◌, List, None}
use Rattle.std.specs.List.{filter}
use Rattle.std.specs.Option.{unwrap_or}
use Rattle.sparse_merkle.specs.TreeDigest.{subtree_digest, default_digest, root_of, IsMap, AreDefaults}
use Rattle.sparse_merkle.specs.declared.tree.Entry.{Entry}
use Rattle.merkle_pages.specs.Pages.{Paged, node_at}

-- the part of a map whose coins agree with a coin in the bit of that level and in every higher bit
unfoldable pub part_at : ℕ → ℕ → List Entry → List Entry
part_at level coin entries = filter (λ entry. entry.coin / 2 ^ level == coin / 2 ^ level) entries

-- a tree as callers see it: the hash that it was made with, and the map that it stands for
pub record HashedMap (H : Type 0) : Type 0 where
  pub hash : H
  pub entries : List Entry

-- the defaults of the levels below the root, and the root of the map without a leaf
pub record KeepsDefaults (dig : List ℕ → List ℕ) (below : List (List ℕ)) (root : List ℕ) : Type 0 where
  pub below_are : AreDefaults dig below
  pub root_is : root ≡ default_digest dig 64

-- the root and the nodes of the levels below it are kept: what no page keeps is the default of its level
pub record KeepsNodes (dig : List ℕ → List ℕ) (entries : List Entry) (root : List ℕ) (pages : Paged) : Type 0 where
  pub map : IsMap entries
  pub root_is : root ≡ root_of dig entries
  pub nodes : (level coin : ℕ) → level < 64 → coin < 2 ^ 64
      → unwrap_or (node_at level coin pages) (default_digest dig level)
      ≡ subtree_digest dig level (part_at level coin entries)

-- the pages keep no node of the part of a tree at a level on the way up from a coin
abbrev pub IsClear : ℕ → ℕ → Paged → Type 0
IsClear level coin pages = (k other : ℕ) → k < 64 → k ≤ level → other / 2 ^ level ≡ coin / 2 ^ level
    → node_at k other pages ≡ None

-- the pages keep the digest of a node below the root, and of all other nodes what they kept
pub record KeepsNode (dig : List ℕ → List ℕ) (level coin : ℕ) (digest : List ℕ) (old new : Paged) : Type 0 where
  pub here : level < 64 → unwrap_or (node_at level coin new) (default_digest dig level) ≡ digest
  pub elsewhere : (k other : ℕ) → k < 64 → (k ≡ level → other / 2 ^ level ≡ coin / 2 ^ level → ⊥)
      → node_at k other new ≡ node_at k other old

-- the same of the nodes of the part of a map at a level on the way up from a coin
pub record AddsPart (dig : List ℕ → List ℕ) (entries : List Entry) (level coin : ℕ) (old new : Paged) : Type 0 where
  pub added : (k other : ℕ) → k < 64 → k ≤ level → other / 2 ^ level ≡ coin / 2 ^ level
      → unwrap_or (node_at k other new) (default_digest dig k) ≡ subtree_digest dig k (part_at k other entries)
  pub stays : (k other : ℕ) → k < 64 → (k ≤ level → other / 2 ^ level ≡ coin / 2 ^ level → ⊥)
      → node_at k other new ≡ node_at k other old
