use Rattle.world_scene.proofs.Index.{no_nodes}
use Rattle.world_scene.proofs.node_list.Nodes.new.Goals as goal

pub invariant_of-result : goal.invariant_of-result
invariant_of-result g c =
    no_nodes c.new-2.result c.new-3.result.items c.new.result.items c.new-3.ensures.items c.new.ensures.items
