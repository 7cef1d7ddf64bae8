use Rattle.chain_lives.proofs.SmallChain.{small_chain}
use Rattle.chain_lives.proofs.laws.a_small_chain_is_one.Goals as goal

pub returns : goal.returns
returns c = small_chain
