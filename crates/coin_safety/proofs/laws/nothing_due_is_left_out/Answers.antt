use Rattle.coin_safety.proofs.Advised.{nothing_due_is_left_out}
use Rattle.coin_safety.proofs.laws.nothing_due_is_left_out.Goals as goal

pub returns : goal.returns
returns c = nothing_due_is_left_out
