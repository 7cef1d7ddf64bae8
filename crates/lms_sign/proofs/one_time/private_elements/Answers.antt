use Rattle.std.proofs.Common.{rules, ◌+◌, ◌*◌, [], arith}
use Rattle.lms_sign.specs.OneTime.{private_element}
use Rattle.lms_sign.proofs.Lists.{set_next}
use Rattle.lms_sign.proofs.one_time.private_elements.Goals as goal

pub lanes-preserved : goal.lanes-preserved
lanes-preserved c = (
  search rules,
  λ n below. set_next (private_element c.args.secret.now c.args.q) c.lanes.strings (8 * c.groups.group + c.lanes.k) _ []
      (omega arith) (c.eight_elements-elements.ensures c.args.secret.now.id c.args.q c.lanes.k (omega arith)
      c.begin_steps-begun.ensures (omega arith)) c.lanes.invariant.1 n (omega arith),
)
