use Rattle.std.proofs.Common.{◌≡◌, ◌≤◌, sym, arith}
use Rattle.lms_sign.specs.Types.{leaf_count}
use Rattle.lms_sign.specs.Tree.{tree_node}
use Rattle.lms_sign.proofs.Nodes.{set_node, tree_node-leaf}
use Rattle.lms_sign.proofs.secret_key.set_leaves.Goals as goal

pub loop-r-preserved : goal.loop-r-preserved
loop-r-preserved c =
    let secret = c.args.secret.now in
    let from : leaf_count secret.types ≤ c.loop-r.r = omega (arith, c.requires.count) in
    let value : c.leaf_node.result ≡ tree_node secret
    c.loop-r.r = rw (c.leaf_node.ensures, c.one_time_public-key.ensures, c.requires.count)
    (sym (tree_node-leaf secret c.loop-r.r from)) in
    λ n low high. set_node (tree_node secret) c.loop-r.nodes c.loop-r.r n c.leaf_node.result (omega arith) value
    (λ other. c.loop-r.invariant n low (omega arith))
