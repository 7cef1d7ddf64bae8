use Rattle.sparse_merkle.proofs.Words.{◌≡◌, ℕ, true, List, [], ◌∷◌, length, ◌==◌, sym, ap, ◌∙◌, refl, arith, leaf_string}
use Rattle.sparse_merkle.proofs.TreeLaws.{default_digest-zero}
use Rattle.sparse_merkle.proofs.opening.leaf_digest_with_defaults.Goals as goal

none-in : (leaf : List ℕ) → true ≡ (length leaf == 0) → [] ≡ leaf
none-in [] is = refl
none-in (code ∷ leaf) is = grind (arith, is)

pub returns-then-is_empty : goal.returns-then-is_empty
returns-then-is_empty g c =
    let dig = g.H.Hash32.digest_of c.args.h.now in
    c.requires 0 (omega arith) ∙ default_digest-zero dig
    ∙ ap (λ leaf. dig (leaf_string leaf)) (none-in c.args.leaf.now c.if-is_empty.ensures)
