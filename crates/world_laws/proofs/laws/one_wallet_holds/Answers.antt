use Rattle.world_laws.proofs.Promises.{one_holds}
use Rattle.world_laws.proofs.laws.one_wallet_holds.Goals as goal

pub returns : goal.returns
returns c = one_holds
