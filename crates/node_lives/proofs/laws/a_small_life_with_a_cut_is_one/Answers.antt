use Rattle.node_lives.proofs.CutSample.{small_life_with_cut}
use Rattle.node_lives.proofs.laws.a_small_life_with_a_cut_is_one.Goals as goal

pub returns : goal.returns
returns c = small_life_with_cut
