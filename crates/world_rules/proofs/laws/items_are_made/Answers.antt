use Rattle.world_rules.proofs.RunLaws.{items_are_made}
use Rattle.world_rules.proofs.laws.items_are_made.Goals as goal

pub returns : goal.returns
returns c = items_are_made
