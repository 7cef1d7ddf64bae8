use Rattle.root_log.proofs.GrammarLaws.{chain_in-chain_text}
use Rattle.root_log.proofs.laws.a_printed_chain_is_read_back.Goals as goal

pub returns : goal.returns
returns c = chain_in-chain_text
