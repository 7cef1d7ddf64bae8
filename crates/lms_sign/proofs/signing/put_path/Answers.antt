use Rattle.std.proofs.Common.{◌≡◌, ◌+◌, ◌-◌, ◌*◌, ◌≤◌, refl, arith, length, append_assoc, append-nil}
use Rattle.std.proofs.lemmas.List.{take_all}
use Rattle.std.proofs.lemmas.Nat.{pow_pos}
use Rattle.lms_sign.specs.Types.{height, leaf_count}
use Rattle.lms_sign.specs.Tree.{sibling, tree_node}
use Rattle.lms_sign.proofs.Sizes.{leaf_count-le}
use Rattle.lms_sign.proofs.Lists.{put_on}
use Rattle.lms_sign.proofs.Nodes.{half_low, length-tree_node, authentication_path-more, authentication_path-none, sibling-within}
use Rattle.lms_sign.proofs.signing.put_path.Goals as goal

pub overflow_add-r : goal.overflow_add-r
overflow_add-r c = omega (arith, c.leaves.ensures.value, leaf_count-le c.args.key.now.types)

pub loop-level-init : goal.loop-level-init
loop-level-init c =
    let tree = height c.args.key.now.types in
    let zero : tree - 0 ≡ tree = omega arith in
    let none : c.args.place + 0 ≡ c.args.place = omega arith in (
      rw zero (omega (arith, c.leaves.ensures.value)),
      omega (arith, c.leaves.ensures, c.requires.leaf),
      rw (zero, none) refl,
    )

pub loop-level-preserved : goal.loop-level-preserved
loop-level-preserved c =
    let key = c.args.key.now in
    let tree = height key.types in
    let level = c.loop-level.level in
    let r = c.loop-level.r in
    let tall : c.height-level-end.result ≡ tree = rw c.types.ensures.value at c.height-level-end.ensures.value in
    let left : tree - level ≡ (tree - (level + 1)) + 1 = omega arith in
    let whole : length c.node.result ≡ 32 = rw c.node.ensures (length-tree_node key c.sibling.result) in
    let node : c.node.result ≡ tree_node key (sibling r) = rw (c.node.ensures, c.sibling.ensures) refl in
    let now = put_on c.loop-level.out c.put.new.out c.node.result _ _ (c.args.place + 32 * (level + 1)) refl
    c.put.ensures (omega arith) in
    let path = authentication_path-more key (tree - level) (tree - (level + 1)) r left in (
      half_low (tree - level) (tree - (level + 1)) r left c.loop-level.invariant.0,
      omega
          (arith, c.loop-level.invariant.1),
      rw (now, node, append_assoc) (rw path at c.loop-level.invariant.2),
    )

pub sibling-requires : goal.sibling-requires
sibling-requires c = omega (arith, c.loop-level.invariant.1, leaf_count-le c.args.key.now.types)

pub node-requires-clause-above : goal.node-requires-clause-above
node-requires-clause-above c =
    let tree = height c.args.key.now.types in
    let level = c.loop-level.level in
    let tall : c.height-level-end.result ≡ tree = rw c.types.ensures.value at c.height-level-end.ensures.value in
    let left : tree - level ≡ (tree - (level + 1)) + 1 = omega arith in
    let half = half_low (tree - level) (tree - (level + 1)) c.loop-level.r left c.loop-level.invariant.0 in
    let least = pow_pos (tree - (level + 1)) in
    let two : 2 ≤ c.loop-level.r = omega arith in
    rw c.sibling.ensures (sibling-within c.loop-level.r (leaf_count c.args.key.now.types) two
    c.loop-level.invariant.1).0

pub returns : goal.returns
returns c =
    let tree = height c.args.key.now.types in
    let tall : c.height-level-end.result ≡ tree = rw c.types.ensures.value at c.height-level-end.ensures.value in
    let none : tree - c.loop-level.level ≡ 0 = omega arith in
    let all : length c.loop-level.out ≤ c.args.place + 32 * c.loop-level.level = omega (arith, c.requires.room) in
    let end = rw (
      take_all _ c.loop-level.out all,
      authentication_path-none c.args.key.now _ c.loop-level.r none,
      append-nil,
      c.leaves.ensures.value,
    ) at c.loop-level.invariant.2 in
    end
