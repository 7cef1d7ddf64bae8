-- Openings are read as they are written, and have one spelling.
use Rattle.plasma_tx.proofs.Words.{◌≡◌, ℕ, ◌+◌, ◌^◌, ◌<◌, ◌≤◌, true, nat_le, List, ◌++◌, Ok, Err, length, take, drop, refl, sym, ap, subst, ◌∙◌, inl, inr, append_assoc, arith, Result, w32, to_be_bytes, from_be_bytes, All, cases_Bool, le-leb, leb-true, length-append, take_at, drop_at, length-take-le, length-drop, take-append-drop, drop-drop, All-take, All-drop, from_be_bytes-to_be_bytes_4, common_steps, RawOpening, opening_text, raw_of, leaf_length, leaf_in, HasOpeningLength, with_proof, opening_in}
use Rattle.sparse_merkle.specs.declared.proof.ProofRefusal.{ProofRefusal}
use Rattle.sparse_merkle.specs.declared.proof.ProofRefusal.TheVariants.{BadLength}
use Rattle.sparse_merkle.specs.MaskedPath.{MaskedPath, IsMaskedPath, is_canonical, proof_text, has_proof_length, proof_in}
use Rattle.sparse_merkle.proofs.ProofLaws.{proof_in-text, text-proof_in}
use Rattle.plasma_tx.specs.declared.opening.Opening.{Opening}
use Rattle.plasma_tx.specs.declared.opening.OpeningRefusal.TheVariants.{Unreadable}
use Rattle.plasma_tx.proofs.Parts.{short_number-below, short_number-bytes}

opening_in-parts : (dig : List ℕ → List ℕ) (block : ℕ) (front leaf rest : List ℕ) (proof : MaskedPath)
    → length front ≡ 4
    → from_be_bytes w32 front ≡ length leaf → proof_in dig rest ≡ Ok proof
    → opening_in dig (record { block = block; bytes = front ++ leaf ++ rest })
    ≡ Ok (record { block = block; leaf = leaf; proof = proof })
unfolding opening_in leaf_in
opening_in-parts dig block front leaf rest proof long value read =
    let whole : List ℕ = front ++ leaf ++ rest in
    let same : whole ≡ front ++ (leaf ++ rest) = append_assoc front leaf rest in
    let counted : leaf_length whole ≡ length leaf = ap (λ (l : List ℕ). from_be_bytes w32 (take 4 l)) same
    ∙ ap (from_be_bytes w32) (take_at front (leaf ++ rest) 4 long) ∙ value in
    let behind : drop 4 whole ≡ leaf ++ rest = ap (λ (l : List ℕ). drop 4 l) same
    ∙ drop_at front (leaf ++ rest) 4 long in
    let front_long : length (front ++ leaf) ≡ 4 + length leaf = omega (arith, length-append front leaf) in
    let after : drop (4 + length leaf) whole ≡ rest = drop_at (front ++ leaf) rest (4 + length leaf) front_long in
    let fits : nat_le (4 + length leaf) (length whole) ≡ true = le-leb _ _
    (omega (arith, length-append (front ++ leaf) rest)) in
    let leaf_is : take (length leaf) (leaf ++ rest) ≡ leaf = take_at leaf rest (length leaf) refl in
    rw (counted, fits, behind, leaf_is, after, read) refl

pub opening_in-text : (dig : List ℕ → List ℕ) (opening : Opening) → length opening.leaf < 2 ^ 32
    → IsMaskedPath opening.proof
    → is_canonical dig opening.proof ≡ true → opening_in dig (raw_of opening) ≡ Ok opening
unfolding opening_text
opening_in-text dig opening small h canonical =
    opening_in-parts dig opening.block (to_be_bytes w32 (length opening.leaf)) opening.leaf
    (proof_text opening.proof) opening.proof refl
    (from_be_bytes-to_be_bytes_4 (length opening.leaf) small) (proof_in-text dig opening.proof h canonical)

-- where bytes are read as a proof behind a leaf that fits, all of them are as long as an opening
pub HasOpeningLength-read : (dig : List ℕ → List ℕ) (bytes shown rest : List ℕ) (proof : MaskedPath) → shown ≡ bytes
    → 4 + leaf_length shown ≤ length shown → rest ≡ drop (4 + leaf_length shown) shown
    → Ok proof ≡ proof_in dig rest → HasOpeningLength bytes
unfolding proof_in
HasOpeningLength-read dig bytes shown rest proof same fits behind read =
    subst HasOpeningLength same (record {
      leaf = fits;
      proof = elim (cases_Bool (has_proof_length (drop (4 + leaf_length shown) shown))) [
        | inl is ↦ is
        | inr isnt ↦ let bad : Ok proof ≡ Err BadLength = rw (behind, isnt) at read in cc bad
      ];
    })

with_proof-ok : (block : ℕ) (leaf : List ℕ) (r : Result MaskedPath ProofRefusal) (opening : Opening)
    → with_proof block leaf r ≡ Ok opening
    → (r ≡ Ok opening.proof) × (opening ≡ record { block = block; leaf = leaf; proof = opening.proof })
with_proof-ok block leaf r opening h = grind (arith, common_steps) steps 20000

-- what an opening that is read shows of the bytes
pub record IsRead (dig : List ℕ → List ℕ) (raw : RawOpening) (opening : Opening) : Type 0 where
  pub long : 4 + leaf_length raw.bytes ≤ length raw.bytes
  pub proof : proof_in dig (drop (4 + leaf_length raw.bytes) raw.bytes) ≡ Ok opening.proof
  pub is : opening ≡ record { block = raw.block; leaf = leaf_in raw.bytes; proof = opening.proof }

pub opening_in-ok : (dig : List ℕ → List ℕ) (raw : RawOpening) (opening : Opening) → opening_in dig raw ≡ Ok opening
    → IsRead dig raw opening
unfolding opening_in
opening_in-ok dig raw opening h = elim (cases_Bool (nat_le (4 + leaf_length raw.bytes) (length raw.bytes))) [
  | inl fits ↦
      let known = with_proof-ok raw.block (leaf_in raw.bytes)
      (proof_in dig (drop (4 + leaf_length raw.bytes) raw.bytes)) opening (rw fits at h) in
      record { long = leb-true (4 + leaf_length raw.bytes) (length raw.bytes) fits; proof = known.0; is = known.1 }
  | inr isnt ↦ let bad : Err Unreadable ≡ Ok opening = rw isnt at h in cc bad
]

pub text-opening_in : (dig : List ℕ → List ℕ) (raw : RawOpening) (opening : Opening)
    → All (λ byte. byte < 256) raw.bytes → opening_in dig raw ≡ Ok opening
    → (raw ≡ raw_of opening) × (length opening.leaf < 2 ^ 32) × IsMaskedPath opening.proof
    × (is_canonical dig opening.proof ≡ true)
unfolding opening_text leaf_in
text-opening_in dig raw opening small h =
    let read = opening_in-ok dig raw opening h in
    let n : ℕ = leaf_length raw.bytes in
    let fits = read.long in
    let front_small = All-take (λ byte. byte < 256) 4 raw.bytes small in
    let rest = drop (4 + n) raw.bytes in
    let proof = text-proof_in dig rest opening.proof
    (All-drop (λ byte. byte < 256) (4 + n) raw.bytes small) read.proof in
    let leaf_is : opening.leaf ≡ take n (drop 4 raw.bytes) = ap (λ (o : Opening). o.leaf) read.is in
    let leaf_long : length opening.leaf ≡ n = ap (λ (l : List ℕ). length l) leaf_is
    ∙ length-take-le n (drop 4 raw.bytes) (omega (arith, length-drop 4 raw.bytes)) in
    let front : to_be_bytes w32 (length opening.leaf) ≡ take 4 raw.bytes = short_number-bytes (take 4 raw.bytes)
    (length opening.leaf) front_small (length-take-le 4 raw.bytes (omega arith)) leaf_long in
    let behind : rest ≡ drop n (drop 4 raw.bytes) = sym (drop-drop n 4 raw.bytes) in
    let below : n < 2 ^ 32 = short_number-below (take 4 raw.bytes) front_small in
    let text : raw.bytes ≡ to_be_bytes w32 (length opening.leaf) ++ opening.leaf ++ proof_text opening.proof =
    sym ((λ i. front i ++ leaf_is i ++ (sym proof.0 ∙ behind) i) ∙ append_assoc (take 4 raw.bytes)
    (take n (drop 4 raw.bytes)) (drop n (drop 4 raw.bytes))
    ∙ ap (λ (l : List ℕ). take 4 raw.bytes ++ l) (take-append-drop n (drop 4 raw.bytes))
    ∙ take-append-drop 4 raw.bytes) in
    let block : raw.block ≡ opening.block = sym (ap (λ (o : Opening). o.block) read.is) in
    (λ i. record { block = block i; bytes = text i }, omega (arith, leaf_long, below), proof.1, proof.2)

pub leaf-shown : (dig : List ℕ → List ℕ) (raw : RawOpening) (opening : Opening) → opening_in dig raw ≡ Ok opening
    → leaf_in raw.bytes ≡ opening.leaf
leaf-shown dig raw opening h = sym (ap (λ (o : Opening). o.leaf) (opening_in-ok dig raw opening h).is)
