use Rattle.node_lives.proofs.CutRuns.{sessions_may_be_cut}
use Rattle.node_lives.proofs.laws.sessions_may_be_cut.Goals as goal

pub returns : goal.returns
returns c = sessions_may_be_cut
