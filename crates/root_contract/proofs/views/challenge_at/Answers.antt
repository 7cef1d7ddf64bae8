use Rattle.root_contract.proofs.Words.{◌∙◌, ap, option_map, as_challenge}
use Rattle.root_contract.proofs.SlotLemmas.{challenge-found}
use Rattle.root_contract.proofs.Standing.{challenge-dated}
use Rattle.root_contract.proofs.views.challenge_at.Goals as goal

pub returns-clause-is : goal.returns-clause-is
returns-clause-is c = ap (option_map as_challenge) c.at.ensures ∙ challenge-found c.args.block
    c.args.slot.now.challenges

pub returns-clause-dated : goal.returns-clause-dated
returns-clause-dated c = challenge-dated c.args.slot.now c.args.block c.requires c.at.result c.at.ensures
