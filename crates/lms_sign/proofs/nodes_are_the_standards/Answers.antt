use Rattle.lms_sign.proofs.Nodes.{tree_node-inner, tree_node-leaf}
use Rattle.lms_sign.proofs.nodes_are_the_standards.Goals as goal

pub returns : goal.returns
returns c = λ secret r. (tree_node-leaf secret r, tree_node-inner secret r)
