use Rattle.plasma_tx.proofs.Numbered.{blocks-are as law}
use Rattle.plasma_tx.proofs.laws.blocks_are_calls.Goals as goal

pub returns : goal.returns
returns c = law
