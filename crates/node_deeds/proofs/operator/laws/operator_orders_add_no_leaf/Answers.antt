use Rattle.node_deeds.proofs.OperatorOrderLaws.{orders_add_no_leaf}
use Rattle.node_deeds.proofs.operator.laws.operator_orders_add_no_leaf.Goals as goal

pub returns : goal.returns
returns c = orders_add_no_leaf
