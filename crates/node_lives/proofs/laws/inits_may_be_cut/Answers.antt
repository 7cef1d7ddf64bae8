use Rattle.node_lives.proofs.CutInits.{inits_may_be_cut}
use Rattle.node_lives.proofs.laws.inits_may_be_cut.Goals as goal

pub returns : goal.returns
returns c = inits_may_be_cut
