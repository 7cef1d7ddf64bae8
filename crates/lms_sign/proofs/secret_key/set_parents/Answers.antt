use Rattle.std.proofs.Common.{◌≡◌, ◌+◌, ◌-◌, ◌*◌, ◌<◌, ◌∙◌, sym, arith}
use Rattle.lms_sign.specs.Types.{leaf_count}
use Rattle.lms_sign.specs.Tree.{tree_node}
use Rattle.lms_sign.proofs.Nodes.{set_node, tree_node-inner}
use Rattle.lms_sign.proofs.secret_key.set_parents.Goals as goal

pub loop-r-preserved : goal.loop-r-preserved
loop-r-preserved c =
    let secret = c.args.secret.now in
    let r = c.loop-r.r - 1 in
    let inner : r < leaf_count secret.types = omega (arith, c.requires.count) in
    let left = c.loop-r.invariant.2 (2 * r) (omega arith) (omega arith) (omega arith) in
    let right = c.loop-r.invariant.2 (2 * r + 1) (omega arith) (omega arith) (omega arith) in
    let value : c.inner_node.result ≡ tree_node secret r = c.inner_node.ensures
    ∙ rw (left, right) (sym (tree_node-inner secret r (omega arith) inner)) in (
      omega arith,
      omega arith,
      λ n low above below. set_node (tree_node secret) c.loop-r.nodes r n c.inner_node.result (omega arith) value
          (λ other. c.loop-r.invariant.2 n (omega arith) above below),
    )
