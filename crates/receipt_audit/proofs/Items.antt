-- Lists that have a place.
use Rattle.receipt_audit.proofs.Words.{◌≡◌, ◌≢◌, ℕ, ◌<◌, List, [], length, ◌∙◌, ap, arith, RawOpening}

-- a list with a place isn't empty
pub some-inside : {i : ℕ} (items openings : List RawOpening) → items ≡ openings → i < length items → openings ≢ []
some-inside {i} items openings same inside none =
    let empty : length items ≡ 0 = ap (λ (os : List RawOpening). length os) (same ∙ none) in absurd (omega arith)
