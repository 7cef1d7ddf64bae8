use Rattle.sparse_merkle.proofs.Words.{◌≡◌, ap, ◌∙◌, arith, proof_path}
use Rattle.sparse_merkle.proofs.OpeningLaws.{digest_at_level-zero, hashed_string-step, is_opening-test}
use Rattle.sparse_merkle.proofs.ProofLaws.{length-proof_path}
use Rattle.sparse_merkle.proofs.opening.opens_with_defaults.Goals as goal

pub loop-level-init : goal.loop-level-init
loop-level-init g c =
    digest_at_level-zero (g.H.Hash32.digest_of c.args.h.now) c.args.coin c.args.leaf.now
    c.path_with_defaults-path.result c.leaf_digest_with_defaults-digest.result c.leaf_digest_with_defaults-digest.ensures

pub loop-level-preserved : goal.loop-level-preserved
loop-level-preserved g c =
    let dig = g.H.Hash32.digest_of c.args.h.now in
    c.digest-digest.ensures ∙ ap dig (hashed_string-step dig c.args.coin c.args.leaf.now
    c.path_with_defaults-path.result c.loop-level.level c.loop-level.digest c.parent_bytes.result c.bit.result
    c.loop-level.invariant c.bit.ensures c.parent_bytes.ensures)

pub returns : goal.returns
returns g c =
    let dig = g.H.Hash32.digest_of c.args.h.now in
    let path = proof_path dig c.args.proof.now in
    let top : c.loop-level.level ≡ 64 = omega arith in
    c.eq.ensures ∙ is_opening-test dig c.args.root.now c.args.coin c.args.leaf.now path c.loop-level.level
    c.loop-level.digest (length-proof_path dig c.args.proof.now) top
    (rw c.path_with_defaults-path.ensures at c.loop-level.invariant)
