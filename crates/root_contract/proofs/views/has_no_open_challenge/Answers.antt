use Rattle.std.proofs.Common.{◌∙◌, sym}
use Rattle.root_contract.proofs.SlotLemmas.{answered-all}
use Rattle.root_contract.proofs.views.has_no_open_challenge.Goals as goal

pub returns : goal.returns
returns c = c.are_answered.ensures ∙ sym (answered-all c.args.slot.now.challenges)
