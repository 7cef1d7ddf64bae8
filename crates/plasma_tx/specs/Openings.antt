-- The bytes of openings: the leaf's length in four bytes, the highest first, the leaf, the proof and nothing after it.
use Rattle.std.specs.Prelude.{◌≡◌, ℕ, ◌+◌, ◌^◌, ◌<◌, ◌≤◌, true, nat_le, if◌then◌else◌, List, ◌++◌, length, take, drop, Result, Ok, Err}
use Rattle.std.specs.Int.{w32, to_be_bytes, from_be_bytes}
use Rattle.std.specs.List.{All}
use Rattle.sparse_merkle.specs.{declared.proof.ProofRefusal.{ProofRefusal}, MaskedPath.{MaskedPath, IsMaskedPath, is_canonical, proof_text, has_proof_length, proof_in}}
use Rattle.plasma_tx.specs.{declared.opening.RawOpening.{RawOpening}, declared.opening.Opening.{Opening}, declared.opening.OpeningRefusal.{OpeningRefusal}, declared.opening.OpeningRefusal.TheVariants.{Unreadable}}

-- the bytes of an opening
unfoldable pub opening_text : Opening → List ℕ
opening_text opening = to_be_bytes w32 (length opening.leaf) ++ opening.leaf ++ proof_text opening.proof

-- an opening before it is read
abbrev pub raw_of : Opening → RawOpening
raw_of opening = record { block = opening.block; bytes = opening_text opening }

-- the leaf's length, as the first four bytes give it
abbrev pub leaf_length : List ℕ → ℕ
leaf_length bytes = from_be_bytes w32 (take 4 bytes)

-- the leaf that so many bytes are, behind its length; the bytes may end before it
unfoldable pub leaf_in : List ℕ → List ℕ
leaf_in bytes = take (leaf_length bytes) (drop 4 bytes)

-- the bytes are as long as the leaf's length and the proof's mask ask for
pub record HasOpeningLength (bytes : List ℕ) : Type 0 where
  pub leaf : 4 + leaf_length bytes ≤ length bytes
  pub proof : has_proof_length (drop (4 + leaf_length bytes) bytes) ≡ true

-- the opening with this leaf, where the rest is read as a proof
abbrev pub with_proof : ℕ → List ℕ → Result MaskedPath ProofRefusal → Result Opening OpeningRefusal
with_proof block leaf (Err why) = Err Unreadable
with_proof block leaf (Ok proof) = Ok (record { block = block; leaf = leaf; proof = proof })

-- the opening that the bytes spell, with a proof that shows no default of that digest
unfoldable pub opening_in : (List ℕ → List ℕ) → RawOpening → Result Opening OpeningRefusal
opening_in dig raw =
    if nat_le (4 + leaf_length raw.bytes) (length raw.bytes)
    then with_proof raw.block (leaf_in raw.bytes) (proof_in dig (drop (4 + leaf_length raw.bytes) raw.bytes))
    else Err Unreadable

-- an opening's bytes are read as that opening, where its proof shows no default
abbrev pub OpeningsAreReadBack : Type 0
OpeningsAreReadBack = (dig : List ℕ → List ℕ) (opening : Opening) → length opening.leaf < 2 ^ 32
    → IsMaskedPath opening.proof → is_canonical dig opening.proof ≡ true → opening_in dig (raw_of opening) ≡ Ok opening

-- the leaf of an opening that is read is the one behind the length that its bytes begin with
abbrev pub LeavesAreShown : Type 0
LeavesAreShown = (dig : List ℕ → List ℕ) (raw : RawOpening) (opening : Opening) → opening_in dig raw ≡ Ok opening
    → leaf_in raw.bytes ≡ opening.leaf

-- bytes that are read as an opening are its own, and its proof shows no default
abbrev pub OpeningsHaveOneSpelling : Type 0
OpeningsHaveOneSpelling = (dig : List ℕ → List ℕ) (raw : RawOpening) (opening : Opening)
    → All (λ byte. byte < 256) raw.bytes
    → opening_in dig raw ≡ Ok opening
    → (raw ≡ raw_of opening) × (length opening.leaf < 2 ^ 32) × IsMaskedPath opening.proof
    × (is_canonical dig opening.proof ≡ true)
