use Rattle.node_lives.proofs.CutInits.{ends_may_be_cut}
use Rattle.node_lives.proofs.laws.ends_may_be_cut.Goals as goal

pub returns : goal.returns
returns c = ends_may_be_cut
