use Rattle.std.proofs.Common.{◌∙◌}
use Rattle.plasma_base.proofs.ToyLaws.{group_sum-empty, group_sum-step}
use Rattle.plasma_base.proofs.toy.added.Goals as goal

pub bytes-preserved : goal.bytes-preserved
bytes-preserved c = (
  group_sum-step _ _ _ _ _ c.bytes.rest.now c.in-Some.others.now c.in-Some.ensures.cases.0 c.with_byte-sum.ensures.sum
      ∙ c.bytes.invariant.0,
  c.with_byte-sum.ensures.small,
)

pub returns-clause-sum : goal.returns-clause-sum
returns-clause-sum c = group_sum-empty _ _ _ _ _ c.in_default.ensures.cases c.bytes.invariant.1 c.bytes.invariant.0
