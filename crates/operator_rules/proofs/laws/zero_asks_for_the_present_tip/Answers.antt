use Rattle.operator_rules.proofs.Made.{zero_asks_for_the_present_tip}
use Rattle.operator_rules.proofs.laws.zero_asks_for_the_present_tip.Goals as goal

pub returns : goal.returns
returns c = zero_asks_for_the_present_tip
