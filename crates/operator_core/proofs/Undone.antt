-- A leaf put back where another was put.
use Rattle.operator_core.proofs.Words.{◌≡◌, ◌≢◌, ℕ, List, [], ◌∷◌, ◌++◌, refl, inl, inr, append-nil, arith, cases_Bool, eq-eqb, ne_eqb, ltb-true, lt-ltb, le-ltb, cases_lt, cases_eq, filter-append, common_steps, Entry, leaf_of-with_leaf, leaf_of-with_other, leaf_of, entry_of, with_leaf, IsMap}
use Rattle.merkle_pages.proofs.Rising.{low, high, AllAbove, above-less, low-above, high-above, IsRising, rising}

-- ---- a second put at a coin

low-low : (coin : ℕ) (entries : List Entry) → low coin (low coin entries) ≡ low coin entries
low-low coin [] = refl
low-low coin (entry ∷ entries) = grind (arith, common_steps, low-low coin entries, cases_Bool) steps 20000

high-high : (coin : ℕ) (entries : List Entry) → high coin (high coin entries) ≡ high coin entries
high-high coin [] = refl
high-high coin (entry ∷ entries) = grind (arith, common_steps, high-high coin entries, cases_Bool) steps 20000

low-high : (coin : ℕ) (entries : List Entry) → low coin (high coin entries) ≡ []
low-high coin [] = refl
low-high coin (entry ∷ entries) =
    grind (arith, common_steps, low-high coin entries, cases_Bool, le-ltb, ltb-true) steps 20000

high-low : (coin : ℕ) (entries : List Entry) → high coin (low coin entries) ≡ []
high-low coin [] = refl
high-low coin (entry ∷ entries) =
    grind (arith, common_steps, high-low coin entries, cases_Bool, le-ltb, ltb-true) steps 20000

low-here : (coin : ℕ) (leaf : List ℕ) → low coin (entry_of coin leaf) ≡ []
low-here coin [] = refl
low-here coin (byte ∷ bytes) = simp (le-ltb coin coin (omega arith))

high-here : (coin : ℕ) (leaf : List ℕ) → high coin (entry_of coin leaf) ≡ []
high-here coin [] = refl
high-here coin (byte ∷ bytes) = simp (le-ltb coin coin (omega arith))

low-with : (coin : ℕ) (leaf : List ℕ) (entries : List Entry)
    → low coin (with_leaf entries coin leaf) ≡ low coin entries
low-with coin leaf entries =
    simp (filter-append, low-low coin entries, low-here coin leaf, low-high coin entries, append-nil)

high-with : (coin : ℕ) (leaf : List ℕ) (entries : List Entry)
    → high coin (with_leaf entries coin leaf) ≡ high coin entries
high-with coin leaf entries =
    simp (filter-append, high-high coin entries, high-here coin leaf, high-low coin entries)

with-with : (entries : List Entry) (coin : ℕ) (one other : List ℕ)
    → with_leaf (with_leaf entries coin one) coin other ≡ with_leaf entries coin other
with-with entries coin one other =
    λ i. low-with coin one entries i ++ entry_of coin other ++ high-with coin one entries i

-- ---- a put of the leaf that is there

leaf-above : (coin : ℕ) (entries : List Entry) → AllAbove coin entries → leaf_of entries coin ≡ []
unfolding leaf_of
leaf-above coin [] all = refl
leaf-above coin (entry ∷ entries) all =
    rw (ne_eqb entry.coin coin (λ e. let lt = all.0 in absurd (omega arith))) (leaf-above coin entries all.1)

entry-own : (entry : Entry) → entry.leaf ≢ [] → entry_of entry.coin entry.leaf ≡ entry ∷ []
entry-own entry filled = grind (arith, common_steps) steps 20000

with-own : (entries : List Entry) (coin : ℕ) → IsRising entries
    → with_leaf entries coin (leaf_of entries coin) ≡ entries
unfolding leaf_of IsRising
with-own [] coin is = refl
with-own (entry ∷ entries) coin is = elim (cases_lt entry.coin coin) [
  | inl below ↦
      grind (arith, common_steps, with-own entries coin is.2, lt-ltb, le-ltb, ne_eqb) steps 20000
  | inr le ↦ grind (
    arith,
    common_steps,
    cases_eq,
    above-less,
    le-ltb,
    eq-eqb,
    low-above,
    high-above,
    entry-own,
    lt-ltb,
    ne_eqb,
    leaf-above,
  ) steps 20000
]

-- the leaf that was there, put back
pub put_back_is : (entries : List Entry) (coin : ℕ) (leaf : List ℕ) → IsMap entries
    → with_leaf (with_leaf entries coin leaf) coin (leaf_of entries coin) ≡ entries
put_back_is entries coin leaf map = grind (arith, common_steps, with-with, with-own, rising) steps 20000

-- the leaf of a coin once another was put back
pub leaf_back : (entries : List Entry) (coin : ℕ) (leaf : List ℕ)
    → leaf_of (with_leaf entries coin leaf) coin ≡ leaf
leaf_back = leaf_of-with_leaf

pub leaf_stays : (entries : List Entry) (coin other : ℕ) (leaf : List ℕ) → other ≢ coin
    → leaf_of (with_leaf entries coin leaf) other ≡ leaf_of entries other
leaf_stays = leaf_of-with_other
