use Rattle.std.proofs.Common.{rules}
use Rattle.sparse_merkle.specs.MaskedPath.{masked_path_in}
use Rattle.sparse_merkle.proofs.ProofLaws.{Filled-none, Filled-all}
use Rattle.trace_exhibits.proofs.Paths.{behind-mask, sibling-fits, sibling-filled, default-filled}
use Rattle.trace_exhibits.proofs.way.path_in.Goals as goal
use Rattle.trace_exhibits.proofs.way.path_in.Goals.{then-bit, else-bit}

pub loop-level-init : goal.loop-level-init
loop-level-init g c = Filled-none (g.H.Hash32.digest_of c.args.h.now) (masked_path_in c.args.text.now)
    c.args.defaults.now (search rules) c.requires.defaults

pub sibling_in-requires : goal.sibling_in-requires
sibling_in-requires g c =
    rw (behind-mask c.args.text.now) (sibling-fits (g.H.Hash32.digest_of c.args.h.now) c.args.text.now c.loop-level.path
    c.loop-level.next c.loop-level.level c.mask_in-mask.result c.loop-level.invariant c.requires.long
    c.loop-level-test.true c.mask_in-mask.ensures c.if-bit.ensures)

pub loop-level-preserved : goal.loop-level-preserved
loop-level-preserved g c =
    let dig = g.H.Hash32.digest_of c.args.h.now in
    let text = c.args.text.now in
    elim c.if-bit.branch [
      | then-bit w ↦ rw (w.path-is, w.next-is) (sibling-filled dig text c.loop-level.path c.loop-level.next
          c.loop-level.level c.mask_in-mask.result c.loop-level.invariant c.requires.long c.loop-level-test.true
          c.mask_in-mask.ensures w.sibling_in.result w.if-bit.ensures
          (rw (behind-mask text) at w.sibling_in.ensures))
      | else-bit w ↦ rw (w.path-is, w.next-is) (default-filled dig text c.loop-level.path c.loop-level.next
          c.loop-level.level c.mask_in-mask.result c.loop-level.invariant c.requires.long c.loop-level-test.true
          c.mask_in-mask.ensures w.if-bit.ensures)
    ]

pub returns : goal.returns
returns g c = Filled-all (g.H.Hash32.digest_of c.args.h.now) (masked_path_in c.args.text.now) c.loop-level.path
    c.loop-level.next c.loop-level.level c.loop-level.invariant c.loop-level-test.false
