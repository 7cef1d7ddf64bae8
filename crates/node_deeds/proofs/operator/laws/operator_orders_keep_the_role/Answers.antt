use Rattle.node_deeds.proofs.OperatorOrderLaws.{orders_keep_the_role}
use Rattle.node_deeds.proofs.operator.laws.operator_orders_keep_the_role.Goals as goal

pub returns : goal.returns
returns c = orders_keep_the_role
