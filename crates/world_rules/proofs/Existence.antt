-- What is found in a list stands there.
use Rattle.world_rules.proofs.Basics.{◌≡◌, ◌<◌, ℕ, Bool, true, List, length, Some, inl, inr, sym, ap, ◌∙◌, arith, slice_get, position, position_or_len, ltb-true, slice_get_cases, common_steps}
use Rattle.world_rules.proofs.CoinWords.{some_same}
use Rattle.std.proofs.lemmas.List.Quantifiers.{position-Some}

-- the first place that passes is inside the list
pub position-parts : {X : Type 0} (p : X → Bool) (xs : List X) (i : ℕ) → position p xs ≡ Some i
    → (position_or_len p xs ≡ i) × (position_or_len p xs < length xs)
position-parts p xs i is = grind (arith, common_steps, some_same, ltb-true)

-- an element that passes stands there
pub position-is : {X : Type 0} (p : X → Bool) (xs : List X) (i : ℕ) → position p xs ≡ Some i
    → (x : X) × (slice_get xs i ≡ Some x) × (p x ≡ true)
position-is {X} p xs i is =
    let parts = position-parts p xs i is in
    elim (slice_get_cases xs i).1 [
      | inl at ↦ (at.0, at.2, ap p (sym at.3) ∙ (position-Some p xs i at.0 is).1)
      | inr past ↦ absurd (omega (arith, parts.0, parts.1, past.0))
    ]
