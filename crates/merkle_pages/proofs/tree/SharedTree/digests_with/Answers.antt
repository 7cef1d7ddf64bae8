use Rattle.merkle_pages.proofs.Words.{◌≡◌, ◌≢◌, ◌+◌, ◌<◌, ◌^◌, [], length, slice_index_or, refl, ◌∙◌, inl, inr, arith, length-set, get_or-set_other, get_or-set_same, bit_xor, cases_lt, IsMap, subtree_digest, part_at}
use Rattle.merkle_pages.proofs.PutLaws.{way-start, way-up}
use Rattle.merkle_pages.proofs.tree.SharedTree.digests_with.Goals as goal

pub loop-level-init : goal.loop-level-init
loop-level-init g c = record {
  long = refl;
  right = λ level le.
      let e : level ≡ 0 = omega arith in
      rw (e, ← c.self.view_is) (way-start (g.H.Hash32.digest_of c.self.inside.hash) c.args.coin c.args.leaf.now
      c.self.inside.leaves c.leaf_digest.result c.leaf_digest.ensures);
}

pub loop-level-preserved : goal.loop-level-preserved
loop-level-preserved g c =
    let dig = g.H.Hash32.digest_of c.args.self.now.hash in
    let digests = c.loop-level.digests in
    let level = c.loop-level.level in
    let entries = c.args.self.now.entries in
    let long : length digests ≡ 65 = c.loop-level.invariant.long in
    let within : level + 1 < length digests = omega arith in
    let map : IsMap entries = rw (← c.self.view_is) c.self.invariant.map in
    let sibling : c.node-sibling.result.now ≡ subtree_digest dig level (part_at level (bit_xor c.args.coin (2 ^ level))
    entries) =
    rw c.sibling_coin.ensures at c.node-sibling.ensures in
    let above : c.digest.result ≡ dig c.parent_bytes-string.result = rw (← c.self.view_is) c.digest.ensures in
    let top = way-up dig c.args.coin level c.args.leaf.now entries (slice_index_or digests level [])
    c.node-sibling.result.now c.parent_bytes-string.result
    c.digest.result c.bit.result (omega arith) c.loop-level-test.true map
    (c.loop-level.invariant.right level (omega arith)) sibling c.bit.ensures
    c.parent_bytes-string.ensures above in
    record {
      long = length-set digests (level + 1) c.digest.result ∙ long;
      right = λ k le. elim (cases_lt k (level + 1)) [
        | inl below ↦
            let ne : k ≢ level + 1 = omega arith in
            rw (get_or-set_other digests (level + 1) k c.digest.result [] ne)
            (c.loop-level.invariant.right k (omega arith))
        | inr at_top ↦
            let e : k ≡ level + 1 = omega arith in
            rw (e, get_or-set_same digests (level + 1) c.digest.result [] within) top
      ];
    }
