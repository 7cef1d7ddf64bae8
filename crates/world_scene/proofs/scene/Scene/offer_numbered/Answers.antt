use Rattle.std.proofs.Common.{◌≡◌, sym, ap, ◌∙◌}
use Rattle.std.specs.Prelude.{slice_get}
use Rattle.std.specs.Option.{option_copied}
use Rattle.std.proofs.lemmas.Result.{IfOk-weaker}
use Rattle.world_scene.specs.Steps.{OfferAt}
use Rattle.world_scene.proofs.scene.Scene.offer_numbered.Goals as goal

pub returns : goal.returns
returns g c =
    IfOk-weaker c.copied.result (λ copy. copy ≡ option_copied c.offer_at.result)
    (λ offer. OfferAt c.args.self.now.nodes c.args.n c.args.number offer)
    (λ copy is view at. c.offer_at.ensures view
    (ap (λ entries. slice_get entries c.args.n) c.as_slice.ensures
    ∙ ap (λ scene. slice_get scene.nodes c.args.n) c.self.view_is ∙ at) ∙ sym is)
    c.copied.ensures
