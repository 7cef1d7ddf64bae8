use Rattle.std.proofs.Common.{subst, sym}
use Rattle.root_log.specs.Grammar.{IsLogChain}
use Rattle.root_log.proofs.GrammarLaws.{first_table}
use Rattle.root_log.proofs.text.read_chain.Goals as goal

pub returns-clause-grammar : goal.returns-clause-grammar
returns-clause-grammar c = subst IsLogChain (sym c.make.ensures) (c.in_ok-first.ensures.grammar first_table)
