use Rattle.std.proofs.Common.{◌<◌, length, Some, sym, ap, ◌∙◌, subst}
use Rattle.schedule_text.specs.declared.line.Line.{Line}
use Rattle.world_scene.specs.Scenes.{world_of}
use Rattle.world_scene.specs.Steps.{AllHash, AllSpell, FitsAt, answered, with_nodes}
use Rattle.world_scene.specs.Events.{Tells}
use Rattle.world_scene.proofs.Commands.{command_shows, command_tells, order_fits_at, ran_seen}
use Rattle.world_scene.proofs.scene.Scene.command.Goals as goal

pub run-requires-clause-inside : goal.run-requires-clause-inside
run-requires-clause-inside g c =
    subst (λ scene. c.in_ok-chosen.chosen.n < length scene.nodes) (sym c.self.view_is)
    c.in_ok-chosen.ensures.chosen.inside

pub run-requires-clause-fits : goal.run-requires-clause-fits
run-requires-clause-fits g c =
    let chosen = c.in_ok-chosen.ensures.chosen in
    subst (λ scene. FitsAt scene.nodes c.in_ok-chosen.chosen.n c.in_ok-chosen.chosen.order) (sym c.self.view_is)
    (order_fits_at c.args.self.now c.args.command.now c.in_ok-chosen.chosen.n chosen.found c.in_ok-chosen.chosen.order
    chosen.ordered)

pub run-requires-clause-spells : goal.run-requires-clause-spells
run-requires-clause-spells g c = subst AllSpell (sym c.self.view_is) c.requires.spells

pub invariant_of-self : goal.invariant_of-self
invariant_of-self g c = c.run.ensures.hash c.self.inside.hash c.self.invariant

pub invariant_of-self-in_err-event : goal.invariant_of-self-in_err-event
invariant_of-self-in_err-event g c = c.run.ensures.hash c.self.inside.hash c.self.invariant

pub invariant_of-self-2 : goal.invariant_of-self-2
invariant_of-self-2 g c = c.run.ensures.hash c.self.inside.hash c.self.invariant

pub returns-clause-shows : goal.returns-clause-shows
returns-clause-shows g c =
    let chosen = c.in_ok-chosen.ensures.chosen in
    let given = c.in_ok-given.given in
    let nodes = c.run.new.self in
    command_shows g.H.Hash32.digest_of c.args.self.now c.args.command.now c.in_ok-chosen.chosen.n
    c.in_ok-chosen.chosen.order given nodes chosen.found chosen.ordered
    (subst (λ scene. AllHash scene.hash scene.nodes) c.self.view_is c.self.invariant)
    (ran_seen g.H.Hash32.digest_of _ c.args.self.now c.log-log.result.now c.in_ok-chosen.chosen.n
    c.in_ok-chosen.chosen.order given nodes c.self.view_is c.log-log.ensures.chain c.in_ok-given.ensures.runs)
    ∙ ap (λ answer. Some (answered answer (world_of (with_nodes c.args.self.now nodes)))) (sym c.plain.ensures)
    ∙ ap (λ scene. Some (answered c.plain.result (world_of (with_nodes scene nodes)))) (sym c.self.view_is)

pub returns-clause-tells : goal.returns-clause-tells
returns-clause-tells g c =
    let chosen = c.in_ok-chosen.ensures.chosen in
    let given = c.in_ok-given.given in
    let nodes = c.run.new.self in
    subst (λ answer. Tells (g.H.Hash32.digest_of c.args.self.now.hash) (world_of c.args.self.now)
    (Line.Command c.args.command.now) answer.event) (sym c.plain.ensures)
    (command_tells g.H.Hash32.digest_of c.args.self.now c.args.command.now c.in_ok-chosen.chosen.n
    c.in_ok-chosen.chosen.order given nodes chosen.found chosen.ordered
    (subst (λ scene. AllHash scene.hash scene.nodes) c.self.view_is c.self.invariant)
    (ran_seen g.H.Hash32.digest_of _ c.args.self.now c.log-log.result.now c.in_ok-chosen.chosen.n
    c.in_ok-chosen.chosen.order given nodes c.self.view_is c.log-log.ensures.chain c.in_ok-given.ensures.runs)
    c.in_ok-event.event c.in_ok-event.ensures.done c.in_ok-event.ensures.down)

pub returns-clause-moves : goal.returns-clause-moves
returns-clause-moves g c = record {
  n = c.in_ok-chosen.chosen.n;
  order = c.in_ok-chosen.chosen.order;
  given = c.in_ok-given.given;
  chosen = c.in_ok-chosen.ensures.chosen;
  runs =
      ran_seen g.H.Hash32.digest_of _ c.args.self.now c.log-log.result.now c.in_ok-chosen.chosen.n
      c.in_ok-chosen.chosen.order c.in_ok-given.given c.run.new.self c.self.view_is c.log-log.ensures.chain
      c.in_ok-given.ensures.runs;
  hash = ap (λ scene. scene.hash) c.self.view_is;
}
