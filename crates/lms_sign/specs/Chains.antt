-- How far the chains of a leaf are taken.
use Rattle.std.specs.Prelude.{◌≡◌, ℕ, ◌+◌, ◌-◌, ◌≤◌, ◌⊎◌, List, slice_index_or}
use Rattle.lms_sign.specs.declared.chains.Span.{Span}
use Rattle.lms_sign.specs.OneTime.{chain_value}

-- the span of chain n
abbrev pub span_at : List Span → ℕ → Span
span_at spans n = slice_index_or spans n (record { from = 0; to = 0 })

-- the steps of a span
abbrev pub left : Span → ℕ
left span = span.to - span.from

-- chain n has the same span and string as before, or has taken so many of its span's steps
abbrev pub IsTaken : List ℕ → ℕ → ℕ → ℕ → Span → List ℕ → Span → List ℕ → Type 0
IsTaken id q n count before start after end = (after.to ≡ before.to)
    × (((after.from ≡ before.from) × (end ≡ start))
    ⊎ ((after.from ≡ before.from + count) × (count ≤ left before) × (end ≡ chain_value id q n before.from count start)))
