use Rattle.plasma_tx.proofs.Numbered.{clocks-are as law}
use Rattle.plasma_tx.proofs.laws.clocks_are_ticks.Goals as goal

pub returns : goal.returns
returns c = law
