use Rattle.std.proofs.Common.{◌≡◌, Some, rules}
use Rattle.line_forms.specs.Forms.{value_in}
use Rattle.node_lines.specs.Grammar.{operator_line_in}
use Rattle.node_lines.proofs.GrammarLaws.{operator_line_text-in}
use Rattle.node_lines.proofs.operator_line.read_operator_line.Goals as goal

pub returns-clause-grammar : goal.returns-clause-grammar
unfolding operator_line_in value_in
returns-clause-grammar c =
    let found : operator_line_in c.args.line.now ≡ Some c.in_ok-command.command = search rules in
    (operator_line_text-in c.args.line.now c.in_ok-command.command found).1
