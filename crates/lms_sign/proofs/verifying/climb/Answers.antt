use Rattle.std.proofs.Common.{◌≡◌, ◌-◌, ◌+◌, ◌∙◌, arith, sym}
use Rattle.lms_sign.proofs.Lists.{ancestor_node-more, ancestor_node-none}
use Rattle.lms_sign.proofs.verifying.climb.Goals as goal

pub loop-done-preserved : goal.loop-done-preserved
loop-done-preserved c =
    let left : c.args.levels - c.loop-done._done ≡ (c.args.levels - (c.loop-done._done + 1)) + 1 = omega arith in
    let step = ancestor_node-more c.args.id.now _ _ c.loop-done.r c.loop-done.rest.now c.loop-done.node left in
    let room = c.split_at.ensures.back_len in (
      omega arith,
      rw (
        c.split_at.ensures.back,
        c.parent_node-node.ensures,
        c.copy_from_slice.ensures.after,
        c.split_at.ensures.front,
      ) (sym step ∙ c.loop-done.invariant.1),
    )

pub returns : goal.returns
returns c =
    let left : c.args.levels - c.loop-done._done ≡ 0 = omega arith in
    sym (ancestor_node-none c.args.id.now _ c.loop-done.r c.loop-done.rest.now c.loop-done.node left)
    ∙ c.loop-done.invariant.1
