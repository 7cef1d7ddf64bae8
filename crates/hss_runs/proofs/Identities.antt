-- The seed of a signer's records.
use Rattle.hss_runs.proofs.Words.{◌≡◌, ℕ, List, [], ◌∷◌, Option, Some, ◌∙◌, ap, slice_get, unwrap_or, seed_in, seed_of, signer_seed}

-- that of the first one, where it spells an identity
pub seed-is : (records : List (List ℕ)) (first seed : List ℕ) → Some first ≡ slice_get records 0
    → Some seed ≡ seed_in first → signer_seed seed ≡ seed_of records
unfolding seed_of
seed-is [] first seed at is = absurd (cc at)
seed-is (body ∷ bodies) first seed at is =
    let same : first ≡ body = cc at in
    ap (λ (o : Option (List ℕ)). signer_seed (unwrap_or o [])) is
    ∙ ap (λ (b : List ℕ). signer_seed (unwrap_or (seed_in b) [])) same
