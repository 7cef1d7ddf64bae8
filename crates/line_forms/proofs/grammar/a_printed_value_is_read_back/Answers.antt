use Rattle.line_forms.specs.Forms.{value_in, text_of}
use Rattle.line_forms.proofs.FormLaws.{whole-words}
use Rattle.line_forms.proofs.grammar.a_printed_value_is_read_back.Goals as goal

pub returns : goal.returns
unfolding value_in text_of
returns g c = whole-words g.G.Grammar.table g.G.Grammar.parts
