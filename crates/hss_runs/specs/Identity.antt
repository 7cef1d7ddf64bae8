-- The records of a two-level signer's notes, and what its keys are made from.
use Rattle.std.specs.Prelude.{ℕ, ◌==◌, ◌&&◌, false, if◌then◌else◌, List, [], ◌∷◌, length, take, Option, Some, None, unwrap_or, is_some}
use Rattle.sha2.specs.Sha256.{sha256}
use Rattle.node_journal.specs.Role.{Kinds}
use Rattle.hss_keys.specs.declared.seed.HssSeed.{HssSeed}

-- the identity: 31, hexadecimal, and the seed of the top key, 32 bytes
unfoldable pub identity_text : List ℕ → List ℕ
identity_text seed = 0x31 ∷ seed

-- the seed of an identity; None where the record is none
unfoldable pub seed_in : List ℕ → Option (List ℕ)
seed_in [] = None
seed_in (mark ∷ seed) = if (mark == 0x31) && (length seed == 32) then Some seed else None

-- which records are a signer's: its identity, and none behind it
abbrev pub signer_kinds : Kinds
signer_kinds = record { is_identity = λ body. is_some (seed_in body); is_note = λ identity body. false }

-- What the keys of a signer are made from: both levels have the types 5 and 4, and the identifier of the top key is the
-- first 16 bytes of the seed's SHA-256.
abbrev pub signer_seed : List ℕ → HssSeed
signer_seed seed = record {
  top = record { lms = 5; ots = 4 };
  bottom = record { lms = 5; ots = 4 };
  id = take 16 (sha256 seed);
  seed = seed;
}

-- those of a signer with these records
unfoldable pub seed_of : List (List ℕ) → HssSeed
seed_of [] = signer_seed []
seed_of (identity ∷ notes) = signer_seed (unwrap_or (seed_in identity) [])
