use Rattle.world_rules.proofs.Lines.{acts_are_known}
use Rattle.world_rules.proofs.act_laws.acts_are_known.Goals as goal

pub returns : goal.returns
returns c = acts_are_known
