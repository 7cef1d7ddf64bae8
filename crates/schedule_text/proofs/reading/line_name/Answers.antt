use Rattle.std.proofs.Common.{sym, Some}
use Rattle.schedule_text.proofs.NamesOfLines.{command-line_name, own-line_name}
use Rattle.schedule_text.proofs.reading.line_name.Goals as goal

pub returns-in_ok-command_name-in-None : goal.returns-in_ok-command_name-in-None
returns-in_ok-command_name-in-None c =
    sym (command-line_name c.args.word.now (Some c.in_ok-command_name-in-None.field-0) (sym c.in-None.ensures)
    (sym c.in_ok-command_name-in-None.ensures))

pub returns-in-Some : goal.returns-in-Some
returns-in-Some c = sym (own-line_name c.args.word.now c.in-Some.name (sym c.in-Some.ensures))
