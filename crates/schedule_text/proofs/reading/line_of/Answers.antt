use Rattle.std.proofs.Common.{◌∙◌, ap}
use Rattle.schedule_text.specs.declared.line.Line.{Line}
use Rattle.line_forms.specs.Forms.{takes}
use Rattle.line_forms.proofs.FormLaws.{mapped-taken}
use Rattle.schedule_text.specs.Grammar.{line_form, command_form}
use Rattle.schedule_text.proofs.reading.line_of.Goals as goal

pub returns-in_ok-command_of-in-Command-clause-found : goal.returns-in_ok-command_of-in-Command-clause-found
returns-in_ok-command_of-in-Command-clause-found c =
    ap (λ name. takes (line_form name) c.args.words.now) c.in-Command.is
    ∙ mapped-taken Line.Command (command_form c.in-Command.name) c.args.words.now _ _
    c.in_ok-command_of-in-Command.ensures.found
