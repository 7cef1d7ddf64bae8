-- Leaves in an ordered map, as entries.
use Rattle.merkle_pages.proofs.Words.{◌≡◌, ℕ, ◌<◌, List, [], ◌∷◌, map, length, refl, ap, inl, inr, arith, insert_entry, is_at, unwrap_or, nat_cmp, eq-eqb, ne_eqb, lt-ltb, le-ltb, cases_lt, cases_eq, nil_from_length, common_steps, leaf_of, with_leaf, IsMap, entries_in, coins_of}
use Rattle.std.specs.Map.{lookup, remove_entry}
use Rattle.merkle_pages.proofs.Rising.{above-less, low-above, high-above, IsRising, rising}

pub IsMap-none : IsMap []
IsMap-none = grind (arith, common_steps, rising) steps 20000

pub coins-keys : (pairs : List (ℕ × List ℕ)) → map (λ pair. pair.0) pairs ≡ coins_of (entries_in pairs)
coins-keys [] = refl
coins-keys (pair ∷ pairs) = ap (λ (coins : List ℕ). pair.0 ∷ coins) (coins-keys pairs)

pub leaf-found : (pairs : List (ℕ × List ℕ)) (coin : ℕ)
    → leaf_of (entries_in pairs) coin ≡ unwrap_or (lookup (is_at (nat_cmp coin)) pairs) []
unfolding leaf_of
leaf-found [] coin = refl
leaf-found (pair ∷ pairs) coin =
    grind (arith, common_steps, leaf-found pairs coin, cases_lt, lt-ltb, ne_eqb, cases_eq, le-ltb, eq-eqb) steps 20000

inserts : (pairs : List (ℕ × List ℕ)) (coin byte : ℕ) (bytes : List ℕ) → IsRising (entries_in pairs)
    → entries_in (insert_entry nat_cmp pairs coin (byte ∷ bytes)) ≡ with_leaf (entries_in pairs) coin (byte ∷ bytes)
unfolding IsRising
inserts [] coin byte bytes is = refl
inserts (pair ∷ pairs) coin byte bytes is = elim (cases_lt coin pair.0) [
  | inl below ↦
      let above = above-less coin pair.0 (omega arith) (entries_in pairs) is.0 in
      grind (arith, common_steps, lt-ltb, le-ltb, low-above, high-above) steps 20000
  | inr le ↦ grind (
    arith,
    common_steps,
    inserts pairs coin byte bytes is.2,
    cases_eq,
    above-less,
    le-ltb,
    eq-eqb,
    low-above,
    high-above,
    lt-ltb,
    ne_eqb,
  ) steps 20000
]

removes : (pairs : List (ℕ × List ℕ)) (coin : ℕ) → IsRising (entries_in pairs)
    → entries_in (remove_entry (is_at (nat_cmp coin)) pairs) ≡ with_leaf (entries_in pairs) coin []
unfolding IsRising
removes [] coin is = refl
removes (pair ∷ pairs) coin is =
    grind (
      arith,
      common_steps,
      removes pairs coin is.2,
      cases_lt,
      above-less,
      low-above,
      high-above,
      lt-ltb,
      le-ltb,
      cases_eq,
      eq-eqb,
      ne_eqb,
    ) steps 20000

pub inserted : (pairs : List (ℕ × List ℕ)) (coin : ℕ) (leaf : List ℕ) → IsMap (entries_in pairs) → 0 < length leaf
    → entries_in (insert_entry nat_cmp pairs coin leaf) ≡ with_leaf (entries_in pairs) coin leaf
inserted pairs coin leaf map some = grind (arith, common_steps, inserts, rising) steps 20000

pub removed : (pairs : List (ℕ × List ℕ)) (coin : ℕ) (leaf : List ℕ) → IsMap (entries_in pairs) → length leaf ≡ 0
    → entries_in (remove_entry (is_at (nat_cmp coin)) pairs) ≡ with_leaf (entries_in pairs) coin leaf
removed pairs coin leaf map none =
    rw (nil_from_length leaf none) (removes pairs coin (rising (entries_in pairs) map.rising map.not_empty))
