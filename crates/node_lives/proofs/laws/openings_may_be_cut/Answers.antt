use Rattle.node_lives.proofs.CutOpenings.{openings_may_be_cut}
use Rattle.node_lives.proofs.laws.openings_may_be_cut.Goals as goal

pub returns : goal.returns
returns c = openings_may_be_cut
