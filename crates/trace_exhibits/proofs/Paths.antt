-- The siblings of a proof's bytes.
use Rattle.std.proofs.Common.{◌-◌, slice_set, length-drop, ◌≡◌, ℕ, zero, suc, ◌+◌, ◌*◌, ◌<◌, ◌≤◌, true, false, List, [], length, take, drop, slice_index_or, Option, Some, None, inl, inr, refl, sym, ap, ◌∙◌, arith}
use Rattle.std.specs.Prelude.{Result, Ok, Err, nat_le}
use Rattle.std.proofs.lemmas.Bool.{cases_Bool, leb-true, and_parts, eqb-true}
use Rattle.std.proofs.lemmas.List.{drop-drop, take_all}
use Rattle.sparse_merkle.specs.TreeDigest.{bit_of}
use Rattle.sparse_merkle.proofs.ProofLaws.{set_bits-lt, Filled, Filled-sibling, Filled-default}
use Rattle.sparse_merkle.specs.declared.proof.ProofRefusal.{ProofRefusal}
use Rattle.sparse_merkle.specs.MaskedPath.{MaskedPath, set_bits, siblings_in, has_proof_length, masked_path_in, mask_in, lowest_default, proof_or_refusal, proof_in}
use Rattle.plasma_tx.specs.declared.opening.RawOpening.{RawOpening}
use Rattle.plasma_tx.specs.declared.opening.Opening.{Opening}
use Rattle.plasma_tx.specs.Openings.{leaf_length, leaf_in, opening_in, with_proof}

-- the sibling with a number
pub sibling-at : (count number : ℕ) (bytes : List ℕ) → number < count
    → slice_index_or (siblings_in count bytes) number [] ≡ take 32 (drop (32 * number) bytes)
unfolding siblings_in
sibling-at zero number bytes less = absurd (omega arith)
sibling-at (suc count) zero bytes less = refl
sibling-at (suc count) (suc number) bytes less =
    let place : 32 + 32 * number ≡ 32 * suc number = omega arith in
    sibling-at count number (drop 32 bytes) (omega arith)
    ∙ ap (take 32) (drop-drop (32 * number) 32 bytes ∙ ap (λ n. drop n bytes) place)

-- a proof's bytes have the length that their mask asks for
pub proof-long : (text : List ℕ) → has_proof_length text ≡ true → length text ≡ 8 + 32 * set_bits (mask_in text) 64
proof-long text is =
    eqb-true (length text) (8 + 32 * set_bits (mask_in text) 64)
    (and_parts (nat_le 8 (length text)) _ is).1

-- what an opening's bytes that are read have behind the leaf
pub record IsRead (raw : RawOpening) (opening : Opening) : Type 0 where
  pub within : 4 + leaf_length raw.bytes ≤ length raw.bytes
  pub leaf : leaf_in raw.bytes ≡ opening.leaf
  pub long : has_proof_length (drop (4 + leaf_length raw.bytes) raw.bytes) ≡ true
  pub proof : masked_path_in (drop (4 + leaf_length raw.bytes) raw.bytes) ≡ opening.proof

made-of : (block : ℕ) (leaf : List ℕ) (r : Result MaskedPath ProofRefusal) (opening : Opening)
    → with_proof block leaf r ≡ Ok opening → r ≡ Ok opening.proof
made-of block leaf (Err why) opening is = cc is
made-of block leaf (Ok proof) opening is =
    let e : record { block = block; leaf = leaf; proof = proof } ≡ opening = cc is in
    ap (λ (o : Opening). Ok o.proof) e

leaf-of : (block : ℕ) (leaf : List ℕ) (r : Result MaskedPath ProofRefusal) (opening : Opening)
    → with_proof block leaf r ≡ Ok opening → leaf ≡ opening.leaf
leaf-of block leaf (Err why) opening is = cc is
leaf-of block leaf (Ok proof) opening is =
    let e : record { block = block; leaf = leaf; proof = proof } ≡ opening = cc is in
    ap (λ (o : Opening). o.leaf) e

taken : (path : MaskedPath) (lowest : Option ℕ) (proof : MaskedPath) → proof_or_refusal path lowest ≡ Ok proof
    → path ≡ proof
taken path None proof is = cc is
taken path (Some level) proof is = cc is

module _ (dig : List ℕ → List ℕ) where
  text-read : (text : List ℕ) (proof : MaskedPath) → proof_in dig text ≡ Ok proof
      → (has_proof_length text ≡ true) × (masked_path_in text ≡ proof)
  unfolding proof_in
  text-read text proof is = elim (cases_Bool (has_proof_length text)) [
    | inl long ↦ (long, taken (masked_path_in text) (lowest_default dig (masked_path_in text)) proof (rw long at is))
    | inr short ↦ absurd (let wrong = rw short at is in cc wrong)
  ]

  pub is-read : (raw : RawOpening) (opening : Opening) → opening_in dig raw ≡ Ok opening → IsRead raw opening
  unfolding opening_in
  is-read raw opening is = elim (cases_Bool (nat_le (4 + leaf_length raw.bytes) (length raw.bytes))) [
    | inl fits ↦
        let text = drop (4 + leaf_length raw.bytes) raw.bytes in
        let both = text-read text opening.proof
        (made-of raw.block (leaf_in raw.bytes) (proof_in dig text) opening (rw fits at is)) in
        record {
          within = leb-true (4 + leaf_length raw.bytes) (length raw.bytes) fits;
          leaf = leaf-of raw.block (leaf_in raw.bytes) (proof_in dig text) opening (rw fits at is);
          long = both.0;
          proof = both.1;
        }
    | inr ends ↦ absurd (let wrong = rw ends at is in cc wrong)
  ]

-- they don't end before it
pub not-ended : (raw : RawOpening) (opening : Opening) → IsRead raw opening
    → length raw.bytes < 4 + leaf_length raw.bytes → ⊥
not-ended raw opening read ends = lt_le_absurd (length raw.bytes) (4 + leaf_length raw.bytes) ends read.within
  where
    lt_le_absurd : (m n : ℕ) → m < n → n ≤ m → ⊥
    lt_le_absurd m n lt le = omega arith

-- ---- the path, level by level

pub behind-mask : (text : List ℕ) → take (length text - 8) (drop 8 text) ≡ drop 8 text
behind-mask text = take_all (length text - 8) (drop 8 text) (omega (arith, length-drop 8 text))

module _ (dig : List ℕ → List ℕ) (text : List ℕ) (path : List (List ℕ)) (next level mask : ℕ)
    (filled : Filled dig (masked_path_in text) path next level) (long : has_proof_length text ≡ true)
    (less : level < 64) (same : mask ≡ mask_in text) where
  fewer : true ≡ bit_of mask level → next < set_bits (mask_in text) 64
  fewer is =
      let below = set_bits-lt (mask_in text) level 64 less (ap (λ m. bit_of m level) (sym same) ∙ sym is) in
      let count : next ≡ set_bits (mask_in text) level = filled.count in
      omega (arith, below, count)

  -- the next sibling is there
  pub sibling-fits : true ≡ bit_of mask level → 32 * next + 32 ≤ length (drop 8 text)
  sibling-fits is = omega (arith, fewer is, proof-long text long, length-drop 8 text)

  pub sibling-filled : (sibling : List ℕ) → true ≡ bit_of mask level
      → sibling ≡ take 32 (drop (32 * next) (drop 8 text))
      → Filled dig (masked_path_in text) (slice_set path level sibling) (next + 1) (level + 1)
  sibling-filled sibling is made =
      let at : sibling ≡ slice_index_or (masked_path_in text).siblings next [] =
      made ∙ sym (sibling-at (set_bits (mask_in text) 64) next (drop 8 text) (fewer is)) in
      rw at (Filled-sibling dig (masked_path_in text) path next level filled less
      (ap (λ m. bit_of m level) (sym same) ∙ sym is))

  pub default-filled : false ≡ bit_of mask level → Filled dig (masked_path_in text) path next (level + 1)
  default-filled isnt =
      Filled-default dig (masked_path_in text) path next level filled less
      (ap (λ m. bit_of m level) (sym same) ∙ sym isnt)
