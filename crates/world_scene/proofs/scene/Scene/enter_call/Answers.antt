use Rattle.std.proofs.Common.{◌≡◌, sym, ap, ◌∙◌, subst, reverse}
use Rattle.world_trace.specs.Asked.{IsAsked}
use Rattle.plasma_tx.specs.Shown.{tests_by, rules_of}
use Rattle.plasma_tx.specs.Table.{IsLegal}
use Rattle.world_rules.specs.Steps.{called}
use Rattle.world_scene.specs.Events.{TellsEffect}
use Rattle.world_scene.specs.Scenes.{SceneState, world_of, shown_of}
use Rattle.world_scene.specs.Steps.{answered}
use Rattle.world_scene.proofs.Calls.{call_shows, call_tells}
use Rattle.world_scene.proofs.scene.Scene.enter_call.Goals as goal

pub returns-clause-shows : goal.returns-clause-shows
returns-clause-shows g c =
    let dig = g.H.Hash32.digest_of in
    let before : SceneState g.row.H.Denot = record {
      hash = c.self.inside.hash;
      chain = c.self.inside.contract;
      nodes = c.self.inside.nodes;
      rogues = c.self.inside.rogues;
      raw_callers = reverse c.self.inside.raw_callers.items;
      mail = c.self.inside.mail.items;
    } in
    let after = record before { chain = c.call-answer.new.self } in
    subst (λ scene. shown_of (called (dig scene.hash) (world_of scene) c.args.call.now)
    ≡ answered c.says.result (world_of after)) c.self.view_is
    (call_shows (dig c.self.inside.hash) before c.args.call.now c.call-answer.result c.in_ok-reply.reply
    c.call-answer.new.self (c.call-answer.ensures.answer c.in_ok-reply.ensures.told) c.in_ok-reply.ensures.value
    (c.call-answer.ensures.log c.in_ok-reply.ensures.told)
    ∙ ap (λ answer. answered answer (world_of after)) (sym c.says.ensures))

pub returns-clause-tells : goal.returns-clause-tells
returns-clause-tells g c =
    let dig = g.H.Hash32.digest_of in
    let chain = c.self.inside.contract in
    let before : SceneState g.row.H.Denot = record {
      hash = c.self.inside.hash;
      chain = chain;
      nodes = c.self.inside.nodes;
      rogues = c.self.inside.rogues;
      raw_callers = reverse c.self.inside.raw_callers.items;
      mail = c.self.inside.mail.items;
    } in
    let tests = tests_by (dig before.hash) in
    let is = c.call-answer.ensures.answer c.in_ok-reply.ensures.told in
    let asked = subst (λ at. IsAsked at.log c.args.call.now c.in_ok-asked.asked) c.log.ensures.chain
    (c.in_ok-asked.ensures (rules_of chain)
    (subst (λ at. IsLegal (rules_of chain) at.log) (sym c.log.ensures.chain) c.log.ensures.legal)) in
    subst (λ scene. TellsEffect (dig scene.hash) (world_of scene) c.says.result.event
    (called (dig scene.hash) (world_of scene) c.args.call.now)) c.self.view_is
    (subst (λ event. TellsEffect (dig before.hash) (world_of before) event
    (called (dig before.hash) (world_of before) c.args.call.now))
    (sym (ap (λ answer. answer.event) c.says.ensures ∙ c.event_of_call-event.ensures))
    (call_tells (dig before.hash) (world_of before) c.args.call.now c.call-answer.result c.fact_told.result is
    (c.fact_told.ensures tests (rules_of chain) chain.log asked is)))
