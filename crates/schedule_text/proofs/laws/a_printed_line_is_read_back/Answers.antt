use Rattle.schedule_text.proofs.GrammarLaws.{line_in-line_text}
use Rattle.schedule_text.proofs.laws.a_printed_line_is_read_back.Goals as goal

pub returns : goal.returns
returns c = line_in-line_text
