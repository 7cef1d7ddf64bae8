use Rattle.line_forms.proofs.Basics.{◌≡◌, Some, rules, value_in}
use Rattle.line_forms.proofs.FormLaws.{words-whole}
use Rattle.line_forms.proofs.grammar.read.Goals as goal

pub returns-clause-grammar : goal.returns-clause-grammar
unfolding value_in
returns-clause-grammar g c law =
    let found : value_in g.G.Grammar.table c.args.line.now ≡ Some c.in_ok-value.value = search rules in
    (words-whole g.G.Grammar.table g.G.Grammar.parts law c.args.line.now c.in_ok-value.value found).1
