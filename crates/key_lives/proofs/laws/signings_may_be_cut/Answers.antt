use Rattle.key_lives.proofs.Moments.{signings_may_be_cut}
use Rattle.key_lives.proofs.laws.signings_may_be_cut.Goals as goal

pub returns : goal.returns
returns c = signings_may_be_cut
