use Rattle.std.proofs.Common.{not, sym, ◌∙◌, ap}
use Rattle.gate_journal.proofs.Making.{five}
use Rattle.gate_journal.proofs.image.is_empty_journal.Goals as goal

pub returns-in-Some : goal.returns-in-Some
returns-in-Some c = ap not c.begins_open.ensures
    ∙ sym (five c.args.image.now c.in-Some.bytes.now c.requires (sym c.in-Some.ensures))
