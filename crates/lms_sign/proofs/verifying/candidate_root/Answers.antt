use Rattle.std.proofs.Common.{refl}
use Rattle.std.proofs.lemmas.List.{take_rest}
use Rattle.lms_sign.specs.Valid.{candidate_root}
use Rattle.lms_sign.proofs.verifying.candidate_root.Goals as goal

pub returns : goal.returns
unfolding candidate_root
returns c =
    rw (
      c.climb.ensures,
      c.leaf_node.ensures,
      c.candidate-key.ensures,
      c.height.ensures.value,
      c.leaf_count.ensures.value,
      c.u32_at-q.ensures,
      take_rest,
      c.from.ensures,
      c.chains.ensures.value,
    ) refl
