use Rattle.chain_lives.proofs.SmallCutChain.{small_chain_with_cut}
use Rattle.chain_lives.proofs.laws.a_small_chain_with_a_cut_is_one.Goals as goal

pub returns : goal.returns
returns c = small_chain_with_cut
