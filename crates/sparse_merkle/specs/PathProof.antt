-- The proof of a path.
use Rattle.std.specs.Prelude.{◌≡◌, ℕ, zero, suc, ◌+◌, ◌^◌, not, Bool, if◌then◌else◌, List, [], map, filter, length, slice_index_or, IsTrue}
use Rattle.std.specs.List.{All, range_with_len}
use Rattle.std.specs.Str.{bytes_eq}
use Rattle.sparse_merkle.specs.TreeDigest.{default_digest}
use Rattle.sparse_merkle.specs.MaskedPath.{MaskedPath, IsMaskedPath, is_canonical, proof_path}

-- the sibling of a path at a level is the default of the level
abbrev pub is_default_at : (List ℕ → List ℕ) → List (List ℕ) → ℕ → Bool
is_default_at dig path level = bytes_eq (slice_index_or path level []) (default_digest dig level)

-- the mask of a path's lowest levels: a bit is set where the sibling isn't the default
unfoldable pub mask_of : (List ℕ → List ℕ) → List (List ℕ) → ℕ → ℕ
mask_of dig path zero = 0
mask_of dig path (suc level) = mask_of dig path level + (if is_default_at dig path level then 0 else 2 ^ level)

-- the siblings that aren't the default of their level
unfoldable pub kept_siblings : (List ℕ → List ℕ) → List (List ℕ) → List (List ℕ)
kept_siblings dig path =
    map (λ level. slice_index_or path level [])
    (filter (λ level. not (is_default_at dig path level)) (range_with_len 0 64))

-- the proof of a path: its mask, and the siblings at the set bits
unfoldable pub proof_of_path : (List ℕ → List ℕ) → List (List ℕ) → MaskedPath
proof_of_path dig path = record { mask = mask_of dig path 64; siblings = kept_siblings dig path }

-- the proof of a path of 64 siblings of 32 bytes stands for it, and shows no default
abbrev pub PathsHaveProofs : Type 0
PathsHaveProofs = (dig : List ℕ → List ℕ) (path : List (List ℕ)) → length path ≡ 64
    → All (λ sibling. length sibling ≡ 32) path
    → IsMaskedPath (proof_of_path dig path) × IsTrue (is_canonical dig (proof_of_path dig path))
    × (proof_path dig (proof_of_path dig path) ≡ path)
