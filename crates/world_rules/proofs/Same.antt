-- Who a node is stays, however an order of it ends.
use Rattle.world_rules.proofs.Basics.{◌≡◌, arith, common_steps}
use Rattle.world_rules.proofs.WorldWords.{Node, Deed, End, node_after}

pub record IsSame (node after : Node) : Type 0 where
  pub name : after.name ≡ node.name
  pub account : after.account ≡ node.account
  pub role : after.role ≡ node.role

-- however an order ends
pub same-after : (node : Node) (deed : Deed) (end : End) → IsSame node (node_after node deed end)
same-after node deed end = grind (arith, common_steps)
