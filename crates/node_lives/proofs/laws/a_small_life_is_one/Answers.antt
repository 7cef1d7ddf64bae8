use Rattle.node_lives.proofs.Samples.{small_life}
use Rattle.node_lives.proofs.laws.a_small_life_is_one.Goals as goal

pub returns : goal.returns
returns c = small_life
