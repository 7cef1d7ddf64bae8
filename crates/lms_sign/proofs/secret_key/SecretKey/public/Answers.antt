use Rattle.std.proofs.Common.{◌≡◌, ◌∙◌, ap, refl, arith, length}
use Rattle.lms_sign.specs.Tree.{public_key_of}
use Rattle.lms_sign.specs.Types.{is_supported}
use Rattle.lms_sign.proofs.Laws.{key-types}
use Rattle.lms_sign.proofs.Nodes.{length-tree_node}
use Rattle.lms_sign.proofs.Lists.{length-u32str, put_first, put_on, all_of_front}
use Rattle.lms_sign.proofs.secret_key.SecretKey.public.Goals as goal

pub returns-clause-value : goal.returns-clause-value
unfolding public_key_of
returns-clause-value c =
    let secret = c.self.inside.secret in
    let four : length c.u32str.result ≡ 4 = rw c.u32str.ensures (length-u32str secret.types.lms) in
    let also_four : length c.u32str-2.result ≡ 4 = rw c.u32str-2.ensures (length-u32str secret.types.ots) in
    let id = c.self.invariant.id in
    let node : length c.node.result ≡ 32 = rw c.node.ensures (length-tree_node c.args.self.now 1) in
    let first = put_first c.put.new.out _ 4 c.put.ensures four in
    let second = put_on _ c.put-2.new.out _ _ 4 8 first c.put-2.ensures (omega arith) in
    let third = put_on _ c.put-3.new.out _ _ 8 24 second c.put-3.ensures (omega arith) in
    let fourth = put_on _ c.put-4.new.out _ _ 24 56 third c.put-4.ensures (omega arith) in
    all_of_front c.put-4.new.out _ 56 (c.put-4.auto.out ∙ c.put-3.auto.out ∙ c.put-2.auto.out ∙ c.put.auto.out) fourth
    ∙ rw (c.u32str.ensures, c.u32str-2.ensures, c.node.ensures, ← c.self.view_is) refl

pub returns-clause-types : goal.returns-clause-types
returns-clause-types c =
    let key = c.self.inside.secret in
    rw (returns-clause-value c, ← c.self.view_is) (key-types key c.self.invariant.supported c.self.invariant.id)

pub returns-clause-reads : goal.returns-clause-reads
returns-clause-reads c = ap is_supported (returns-clause-types c) ∙ rw (← c.self.view_is) c.self.invariant.supported
