use Rattle.gate_journal.proofs.Front.{read_is_spelled}
use Rattle.gate_journal.proofs.laws.read_is_spelled.Goals as goal

pub returns : goal.returns
returns c = read_is_spelled
