use Rattle.schedule_text.proofs.GrammarLaws.{line_text-line_in}
use Rattle.schedule_text.proofs.laws.a_line_has_one_spelling.Goals as goal

pub returns : goal.returns
returns c = line_text-line_in
