use Rattle.std.proofs.Common.{sym, ap, ◌∙◌, ◌-◌, ◌==◌, if◌then◌else◌, None}
use Rattle.std.specs.Prelude.{slice_get}
use Rattle.std.proofs.lemmas.Option.{get_or_from_slice_get}
use Rattle.world_rules.specs.Steps.{offer_numbered}
use Rattle.world_nodes.specs.Nodes.{NodeView}
use Rattle.world_scene.proofs.entering.offer_at.Goals as goal

pub returns : goal.returns
returns g c = λ view at.
    let number = c.args.number in
    let same = c.index-entries-n.is
    ∙ get_or_from_slice_get c.args.entries.now c.args.n view c.index-entries-n.result at in
    ap (λ (found : NodeView _). offer_numbered number found.node) (sym same)
    ∙ ap (λ offers. if number == 0 then None else slice_get offers (number - 1)) (sym c.offers.ensures)
    ∙ sym c.numbered.ensures
