use Rattle.root_log.proofs.GrammarLaws.{chain_text-chain_in}
use Rattle.root_log.proofs.laws.a_chain_has_one_spelling.Goals as goal

pub returns : goal.returns
returns c = chain_text-chain_in
