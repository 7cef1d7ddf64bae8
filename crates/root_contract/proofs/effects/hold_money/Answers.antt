use Rattle.root_contract.proofs.Moving.{hold-ok}
use Rattle.root_contract.proofs.effects.hold_money.Goals as goal

pub returns : goal.returns
returns c = hold-ok _ _ _ _ c.hold.result c.hold.ensures c.requires
