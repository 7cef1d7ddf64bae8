use Rattle.plasma_tx.proofs.InOrder.{exits_are_in_order as exits_rise, challenges_are_in_order as challenges_rise}
use Rattle.plasma_tx.proofs.laws.exits_are_in_order.Goals as goal

pub returns : goal.returns
returns c = record { exits = exits_rise; challenges = challenges_rise }
