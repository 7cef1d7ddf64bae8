use Rattle.std.proofs.Common.{◌∙◌, ap}
use Rattle.plasma_base.specs.Toy.{toy_text}
use Rattle.plasma_base.proofs.ToyLaws.{group_sum-two}
use Rattle.plasma_base.proofs.toy.ToyHash32.digest_two.Goals as goal

pub returns : goal.returns
returns c =
    c.text_of.ensures ∙ ap toy_text (group_sum-two _ _ _ _ _ c.added.ensures.sum c.«added-2».ensures.sum)
