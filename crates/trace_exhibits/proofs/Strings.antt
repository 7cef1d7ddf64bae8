-- The strings on the way up from an opening, one level after another.
use Rattle.std.proofs.Common.{◌≡◌, ℕ, ◌+◌, ◌<◌, ◌≤◌, List, [], ◌∷◌, ◌++◌, take, drop, refl, sym, ap, ◌∙◌, append_assoc, arith}
use Rattle.std.proofs.lemmas.List.{take-append-drop}
use Rattle.std.proofs.lemmas.List.FromFn.{take-map-range_with_len, map-range_with_len_more}
use Rattle.sparse_merkle.specs.Opening.{hashed_string, hashed_strings}
use Rattle.trace_exhibits.specs.Ways.{strings_below}

module _ (dig : List ℕ → List ℕ) (coin : ℕ) (leaf : List ℕ) (path : List (List ℕ)) where
  pub strings_below-zero : strings_below dig coin leaf path 0 ≡ []
  unfolding strings_below
  strings_below-zero = refl

  pub strings_below-more : (level : ℕ) → strings_below dig coin leaf path (level + 1)
      ≡ strings_below dig coin leaf path level ++ hashed_string dig coin leaf path level ∷ []
  unfolding strings_below
  strings_below-more level = map-range_with_len_more (hashed_string dig coin leaf path) 0 level level (omega arith)

  pub strings_below-all : strings_below dig coin leaf path 65 ≡ hashed_strings dig coin leaf path
  unfolding strings_below hashed_strings
  strings_below-all = refl

  below-take : (level : ℕ) → level ≤ 65
      → take level (hashed_strings dig coin leaf path) ≡ strings_below dig coin leaf path level
  unfolding strings_below hashed_strings
  below-take level le = take-map-range_with_len (hashed_string dig coin leaf path) 0 65 level le

  -- the strings from a level on
  pub strings-behind : (level : ℕ) → level < 65
      → hashed_strings dig coin leaf path ≡ strings_below dig coin leaf path level
      ++ hashed_string dig coin leaf path level ∷ drop (level + 1) (hashed_strings dig coin leaf path)
  strings-behind level less =
      let all = hashed_strings dig coin leaf path in
      let up : level + 1 ≤ 65 = omega arith in
      sym (take-append-drop (level + 1) all)
      ∙ ap (λ front. front ++ drop (level + 1) all) (below-take (level + 1) up ∙ strings_below-more level)
      ∙ append_assoc (strings_below dig coin leaf path level) (hashed_string dig coin leaf path level ∷ [])
      (drop (level + 1) all)
