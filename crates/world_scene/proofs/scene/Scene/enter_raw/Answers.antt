use Rattle.std.proofs.Common.{◌≡◌, IfOk, ap, ◌∙◌, subst, reverse}
use Rattle.std.proofs.lemmas.Result.{on_ok_weaker}
use Rattle.world_rules.specs.Steps.{called}
use Rattle.world_scene.specs.Events.{TellsEffect}
use Rattle.world_scene.specs.Scenes.{SceneState, world_of, shown_of}
use Rattle.world_scene.specs.Steps.{answered}
use Rattle.world_scene.proofs.Calls.{newest_first, with_caller}
use Rattle.world_scene.proofs.scene.Scene.enter_raw.Goals as goal

pub returns-clause-shows : goal.returns-clause-shows
returns-clause-shows g c =
    let dig = g.H.Hash32.digest_of in
    let pushed : SceneState g.row.H.Denot = record {
      hash = c.self.inside.hash;
      chain = c.self.inside.contract;
      nodes = c.self.inside.nodes;
      rogues = c.self.inside.rogues;
      raw_callers = reverse c.push.new.self.items;
      mail = c.self.inside.mail.items;
    } in
    subst (λ scene. IfOk c.enter_call.result (λ answer.
    shown_of (called (dig scene.hash) (world_of scene) c.args.call.now)
    ≡ answered answer (world_of c.enter_call.new.self)))
    (ap (λ callers. record pushed { raw_callers = callers })
    (newest_first c.push.new.self.items c.self.inside.raw_callers.items c.args.account c.in_ok-push.ensures.items)
    ∙ ap (with_caller c.args.account) c.self.view_is) c.enter_call.ensures.shows

pub returns-clause-tells : goal.returns-clause-tells
returns-clause-tells g c =
    let dig = g.H.Hash32.digest_of in
    let pushed : SceneState g.row.H.Denot = record {
      hash = c.self.inside.hash;
      chain = c.self.inside.contract;
      nodes = c.self.inside.nodes;
      rogues = c.self.inside.rogues;
      raw_callers = reverse c.push.new.self.items;
      mail = c.self.inside.mail.items;
    } in
    subst (λ scene. IfOk c.enter_call.result (λ answer. TellsEffect (dig scene.hash) (world_of scene) answer.event
    (called (dig scene.hash) (world_of scene) c.args.call.now)))
    (ap (λ callers. record pushed { raw_callers = callers })
    (newest_first c.push.new.self.items c.self.inside.raw_callers.items c.args.account c.in_ok-push.ensures.items)
    ∙ ap (with_caller c.args.account) c.self.view_is) c.enter_call.ensures.tells

pub returns-clause-nodes : goal.returns-clause-nodes
returns-clause-nodes g c =
    on_ok_weaker c.enter_call.result
    (λ stay. record {
      nodes = stay.nodes ∙ ap (λ scene. scene.nodes) c.self.view_is;
      hash = stay.hash ∙ ap (λ scene. scene.hash) c.self.view_is;
    }) c.enter_call.ensures.nodes
