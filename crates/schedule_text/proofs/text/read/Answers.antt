use Rattle.schedule_text.proofs.GrammarLaws.{line_table}
use Rattle.schedule_text.proofs.text.read.Goals as goal

pub returns-clause-grammar : goal.returns-clause-grammar
returns-clause-grammar c = c.read.ensures.grammar line_table
