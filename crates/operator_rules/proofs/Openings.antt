-- What an opening shows that the operator makes of a tree.
use Rattle.operator_rules.proofs.Words.{◌≡◌, ℕ, ◌*◌, ◌^◌, ◌<◌, ◌≤◌, true, List, [], ◌∷◌, length, drop, All, Some, Ok, refl, ap, length-append, length-drop, arith, concat, and_parts, eqb-true, All-head, All-tail, common_steps, Entry, leaf_of, root_of, path_to, IsMap, is_opening-path_to, SignedTx, RootCall, opening_text, leaf_in, opening_in, body_length, signed_in, is_signed_by, signed_in-ok, tests_by, root_at, opens_block, opening_in_tree}
use Rattle.lms_sign.specs.declared.types.LmsTypes.{LmsTypes}
use Rattle.lms_sign.specs.Types.{chains, height}
use Rattle.lms_sign.specs.Valid.{is_valid}
use Rattle.gate_journal.specs.Image.{most}
use Rattle.sparse_merkle.specs.MaskedPath.{MaskedPath, IsMaskedPath, proof_text}
use Rattle.sparse_merkle.specs.PathProof.{proof_of_path}
use Rattle.sparse_merkle.proofs.ProofLaws.{set_bits-bound}
use Rattle.sparse_merkle.proofs.PathProof.{IsMaskedPath-proof_of_path, is_canonical-proof_of_path, proof_path-proof_of_path, length-path_to, All-path_to-long}
use Rattle.plasma_tx.specs.declared.owner.Owner.{Owner}
use Rattle.plasma_tx.specs.declared.opening.Opening.{Opening}
use Rattle.plasma_tx.proofs.OpeningTexts.{opening_in-text, leaf-shown}

-- ---- a signed leaf is short

chains-le : (types : LmsTypes) → chains types ≤ 67
unfolding chains
chains-le types = grind (arith, common_steps) steps 20000

height-le : (types : LmsTypes) → height types ≤ 10
unfolding height
height-le types = grind (arith, common_steps) steps 20000

signature-short : (tx : SignedTx) (owner : Owner) → is_signed_by tx owner ≡ true → length tx.signature ≤ 2508
unfolding is_signed_by is_valid
signature-short tx owner signed = grind (arith, common_steps, and_parts, eqb-true, chains-le, height-le) steps 20000

body-le : (bytes : List ℕ) → body_length bytes ≤ 124
body-le bytes = grind (arith, common_steps) steps 20000

pub leaf-short : (tag leaf : List ℕ) (tx : SignedTx) (owner : Owner) → signed_in tag leaf ≡ Ok tx
    → is_signed_by tx owner ≡ true → length leaf ≤ 2632
leaf-short tag leaf tx owner is signed =
    let e : length tx.signature ≡ length (drop (body_length leaf) leaf) =
    ap (λ (t : SignedTx). length t.signature) (signed_in-ok tag leaf tx is).1 in
    let cut = length-drop (body_length leaf) leaf in
    omega (arith, e, cut, body-le leaf, signature-short tx owner signed)

-- ---- an opening of a tree

concat-long : (siblings : List (List ℕ)) → All (λ sibling. length sibling ≡ 32) siblings
    → length (concat siblings) ≡ 32 * length siblings
concat-long [] all = refl
concat-long (sibling ∷ siblings) all =
    let here : length sibling ≡ 32 = All-head (λ s. length s ≡ 32) sibling siblings all in
    let rest = concat-long siblings (All-tail (λ s. length s ≡ 32) sibling siblings all) in
    omega (arith, length-append sibling (concat siblings))

proof-short : (proof : MaskedPath) → IsMaskedPath proof → length (proof_text proof) ≤ 2056
unfolding proof_text
proof-short proof is = grind (arith, common_steps, concat-long, set_bits-bound) steps 20000

text-short : (opening : Opening) → IsMaskedPath opening.proof → length opening.leaf ≤ most
    → length (opening_text opening) < 2 ^ 32
unfolding opening_text
text-short opening is short = grind (arith, common_steps, proof-short) steps 20000

-- an opening of a tree has few bytes, where the leaf fits a journal's record
pub opening-short : (dig : List ℕ → List ℕ) (c n : ℕ) (tree : List Entry)
    → ((bytes : List ℕ) → length (dig bytes) ≡ 32) → length (leaf_of tree c) ≤ most
    → length (opening_in_tree dig c n tree).bytes < 2 ^ 32
opening-short dig c n tree long short =
    let proof : MaskedPath = proof_of_path dig (path_to dig c tree) in
    text-short (record { block = n; leaf = leaf_of tree c; proof = proof })
    (IsMaskedPath-proof_of_path dig (path_to dig c tree) (length-path_to dig c tree) (All-path_to-long dig c tree long))
    short

-- the opening shows the tree's leaf, opens the tree's root at the coin, and has few bytes
pub record IsShown (dig : List ℕ → List ℕ) (log : List RootCall) (c n : ℕ) (tree : List Entry) : Type 0 where
  pub leaf : leaf_in (opening_in_tree dig c n tree).bytes ≡ leaf_of tree c
  pub opens : (root : List ℕ) → root_at log n ≡ Some root → root_of dig tree ≡ root
      → opens_block (tests_by dig) log c (opening_in_tree dig c n tree) ≡ true
  pub short : length (opening_in_tree dig c n tree).bytes < 2 ^ 32

pub shown : (dig : List ℕ → List ℕ) (log : List RootCall) (c n : ℕ) (tree : List Entry)
    → ((bytes : List ℕ) → length (dig bytes) ≡ 32) → c < 2 ^ 64 → IsMap tree → length (leaf_of tree c) ≤ 2632
    → IsShown dig log c n tree
shown dig log c n tree long narrow map short =
    let path : List (List ℕ) = path_to dig c tree in
    let proof : MaskedPath = proof_of_path dig path in
    let opening : Opening = record { block = n; leaf = leaf_of tree c; proof = proof } in
    let masked : IsMaskedPath proof =
    IsMaskedPath-proof_of_path dig path (length-path_to dig c tree) (All-path_to-long dig c tree long) in
    let reads : opening_in dig (opening_in_tree dig c n tree) ≡ Ok opening =
    opening_in-text dig opening (omega (arith, short)) masked (is_canonical-proof_of_path dig path) in
    grind (
      arith,
      common_steps,
      proof_path-proof_of_path,
      length-path_to,
      leaf-shown,
      is_opening-path_to,
      text-short,
    ) steps 20000
