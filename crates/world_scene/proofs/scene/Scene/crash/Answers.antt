use Rattle.std.proofs.Common.{rules, [], Some, sym, ap, ◌∙◌, subst}
use Rattle.node_replies.specs.declared.reply.Reply.{Reply}
use Rattle.world_scene.specs.Scenes.{world_of}
use Rattle.world_scene.specs.Steps.{AllSpell, CrashesAt, with_nodes}
use Rattle.world_scene.specs.Events.{Tells}
use Rattle.schedule_text.specs.declared.line.Line.{Line}
use Rattle.world_scene.proofs.Commands.{shown_as, crash_shows, crash_tells}
use Rattle.world_scene.proofs.scene.Scene.crash.Goals as goal

pub crash-requires-clause-spells : goal.crash-requires-clause-spells
crash-requires-clause-spells g c = subst AllSpell (sym c.self.view_is) c.requires.spells

pub invariant_of-self : goal.invariant_of-self
invariant_of-self g c = c.crash.ensures.hash c.self.inside.hash c.self.invariant

pub invariant_of-self-2 : goal.invariant_of-self-2
invariant_of-self-2 g c = c.crash.ensures.hash c.self.inside.hash c.self.invariant

pub returns-clause-shows : goal.returns-clause-shows
returns-clause-shows g c =
    let scene = c.args.self.now in
    crash_shows (g.H.Hash32.digest_of scene.hash) scene c.args.node.now c.args.outcome.now c.in-Some.n
    c.in_ok-image.image c.crash.new.self (sym c.number_of.ensures ∙ c.in-Some.is)
    (subst (λ seen. CrashesAt c.in-Some.n c.in_ok-image.image seen.nodes c.crash.new.self) c.self.view_is
    c.in_ok-crash.ensures.crashes)
    ∙ ap (λ seen. Some (shown_as Reply.Crashed [] (world_of (with_nodes seen c.crash.new.self)))) (sym c.self.view_is)
    ∙ search rules

pub returns-clause-tells : goal.returns-clause-tells
returns-clause-tells g c =
    subst (λ answer. Tells (g.H.Hash32.digest_of c.args.self.now.hash) (world_of c.args.self.now)
    (Line.Crash c.args.node.now c.args.outcome.now) answer.event) (sym c.says.ensures)
    (crash_tells (g.H.Hash32.digest_of c.args.self.now.hash) c.args.self.now c.args.node.now c.args.outcome.now
    c.in-Some.n (sym c.number_of.ensures ∙ c.in-Some.is))

pub returns-clause-moves : goal.returns-clause-moves
returns-clause-moves g c = record {
  n = c.in-Some.n;
  found = sym c.number_of.ensures ∙ c.in-Some.is;
  crashes =
      subst (λ outcome. CrashesAt c.in-Some.n outcome c.args.self.now.nodes c.crash.new.self) c.in_ok-image.ensures
      (subst (λ seen. CrashesAt c.in-Some.n c.in_ok-image.image seen.nodes c.crash.new.self) c.self.view_is
      c.in_ok-crash.ensures.crashes);
  hash = ap (λ seen. seen.hash) c.self.view_is;
}
