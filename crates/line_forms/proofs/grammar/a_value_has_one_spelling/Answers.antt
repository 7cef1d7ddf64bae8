use Rattle.line_forms.specs.Forms.{value_in, text_of}
use Rattle.line_forms.proofs.FormLaws.{words-whole}
use Rattle.line_forms.proofs.grammar.a_value_has_one_spelling.Goals as goal

pub returns : goal.returns
unfolding value_in text_of
returns g c = words-whole g.G.Grammar.table g.G.Grammar.parts
