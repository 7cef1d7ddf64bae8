use Rattle.world_rules.proofs.CutLaws.{down_nodes_stay}
use Rattle.world_rules.proofs.laws.down_nodes_stay.Goals as goal

pub returns : goal.returns
returns c = down_nodes_stay
