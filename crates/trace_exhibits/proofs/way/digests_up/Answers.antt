use Rattle.std.proofs.Common.{◌≡◌, ◌≢◌, ◌<◌, ◌+◌, length, [], slice_index_or, below_more, refl, ap, arith, get_or-set_other, get_or-set_same, ◌∙◌, length-set}
use Rattle.sparse_merkle.proofs.OpeningLaws.{digest_at_level-zero, hashed_string-step}
use Rattle.trace_exhibits.proofs.way.digests_up.Goals as goal

pub loop-level-init : goal.loop-level-init
loop-level-init g c = record {
  long = refl;
  right = λ level lt.
      let e : level ≡ 0 = omega arith in
      rw e (digest_at_level-zero (g.H.Hash32.digest_of c.args.h.now) c.args.coin c.args.leaf.now c.args.path.now
      c.leaf_digest.result c.leaf_digest.ensures);
}

pub loop-level-preserved : goal.loop-level-preserved
loop-level-preserved g c =
    let dig = g.H.Hash32.digest_of c.args.h.now in
    let digests = c.loop-level.digests in
    let level = c.loop-level.level in
    let long : length digests ≡ 65 = c.loop-level.invariant.long in
    let within : level + 1 < length digests = omega arith in
    let here : level < level + 1 = omega arith in
    let made = c.digest.ensures ∙ ap dig (hashed_string-step dig c.args.coin c.args.leaf.now c.args.path.now level
    (slice_index_or digests level []) c.parent_bytes.result c.bit.result (c.loop-level.invariant.right level here)
    c.bit.ensures c.parent_bytes.ensures) in
    record {
      long = length-set digests (level + 1) c.digest.result ∙ long;
      right = below_more _ (level + 1)
          (λ k lt. let ne : k ≢ level + 1 = omega arith in
          rw (get_or-set_other digests (level + 1) k c.digest.result [] ne) (c.loop-level.invariant.right k lt))
          (rw (get_or-set_same digests (level + 1) c.digest.result [] within) made);
    }
