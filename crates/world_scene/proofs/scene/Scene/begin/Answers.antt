use Rattle.std.proofs.Common.{ap, ◌∙◌, [], reverse}
use Rattle.world_rules.specs.Steps.{new_chain}
use Rattle.world_nodes.specs.Nodes.{new_operator}
use Rattle.world_scene.proofs.Growth.{begins}
use Rattle.world_scene.proofs.scene.Scene.begin.Goals as goal

pub returns-clause-world : goal.returns-clause-world
returns-clause-world g c =
    begins (new_chain c.args.tag c.args.operator c.args.most) c.make.result c.in_ok-nodes.nodes
    c.in_ok-node.node c.new.result (reverse c.new-2.result.items) c.new-3.result.items
    (c.make.ensures ∙ ap (λ tag. record { tag = tag; operator = c.args.operator; most_blocks = c.args.most; log = [] })
    c.padded-tag.ensures)
    c.in_ok-nodes.ensures
    (c.in_ok-node.ensures.node ∙ ap (λ tag. new_operator tag c.args.operator) c.padded-tag.ensures)
    c.new.ensures (ap reverse c.new-2.ensures.items) c.new-3.ensures.items
