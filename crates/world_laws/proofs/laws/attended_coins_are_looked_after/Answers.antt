use Rattle.world_laws.proofs.Attended.{attended_are_looked_after}
use Rattle.world_laws.proofs.laws.attended_coins_are_looked_after.Goals as goal

pub returns : goal.returns
returns c = attended_are_looked_after
