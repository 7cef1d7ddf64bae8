use Rattle.root_contract.proofs.Moving.{fund-ok}
use Rattle.root_contract.proofs.effects.add_money.Goals as goal

pub returns : goal.returns
returns c = fund-ok _ _ _ _ c.fund.result c.fund.ensures c.requires.fits
