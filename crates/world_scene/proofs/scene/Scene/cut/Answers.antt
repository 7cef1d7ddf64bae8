use Rattle.std.proofs.Common.{◌≡◌, ◌<◌, ◌&&◌, length, not, Bool, true, false, refl, rules, Some, sym, ap, ◌∙◌, subst}
use Rattle.std.specs.Str.{bytes_eq}
use Rattle.schedule_text.specs.Grammar.{node_of}
use Rattle.world_rules.specs.Declarations.{may_command}
use Rattle.world_scene.specs.Scenes.{world_of}
use Rattle.world_scene.specs.Steps.{answered, AllHash, AllSpell, FitsAt, with_nodes}
use Rattle.world_scene.proofs.Commands.{order_fits_at}
use Rattle.world_scene.proofs.Cuts.{cut_shows, cut_tells, cut_seen, cut_of_its_node, cut_tells_of_its_node}
use Rattle.world_scene.proofs.scene.Scene.cut.Goals as goal

not-false : (b : Bool) → not b ≡ false → b ≡ true
not-false true is = refl
not-false false is = absurd (cc is)

pub cut-requires-clause-inside : goal.cut-requires-clause-inside
cut-requires-clause-inside g c =
    subst (λ scene. c.in_ok-chosen.chosen.n < length scene.nodes) (sym c.self.view_is)
    c.in_ok-chosen.ensures.chosen.inside

pub cut-requires-clause-fits : goal.cut-requires-clause-fits
cut-requires-clause-fits g c =
    let chosen = c.in_ok-chosen.ensures.chosen in
    subst (λ scene. FitsAt scene.nodes c.in_ok-chosen.chosen.n c.in_ok-chosen.chosen.order) (sym c.self.view_is)
    (order_fits_at c.args.self.now c.args.command.now c.in_ok-chosen.chosen.n chosen.found c.in_ok-chosen.chosen.order
    chosen.ordered)

pub cut-requires-clause-spells : goal.cut-requires-clause-spells
cut-requires-clause-spells g c = subst AllSpell (sym c.self.view_is) c.requires.spells

pub invariant_of-self : goal.invariant_of-self
invariant_of-self g c = c.cut.ensures.hash c.self.inside.hash c.self.invariant

pub invariant_of-self-in_err-answer : goal.invariant_of-self-in_err-answer
invariant_of-self-in_err-answer g c = c.cut.ensures.hash c.self.inside.hash c.self.invariant

pub invariant_of-self-2 : goal.invariant_of-self-2
invariant_of-self-2 g c = c.cut.ensures.hash c.self.inside.hash c.self.invariant

pub returns-clause-keeps : goal.returns-clause-keeps
returns-clause-keeps g c =
    let same : bytes_eq (node_of c.args.command.now) c.args.node.now ≡ true =
    not-false (bytes_eq (node_of c.args.command.now) c.args.node.now) (search rules) in
    ap (λ (b : Bool). b && may_command (world_of c.args.self.now) c.args.command.now) same
    ∙ c.in_ok-chosen.ensures.keeps

pub returns-clause-shows : goal.returns-clause-shows
returns-clause-shows g c =
    let scene = c.args.self.now in
    let chosen = c.in_ok-chosen.ensures.chosen in
    let nodes = c.cut.new.self in
    let same : bytes_eq (node_of c.args.command.now) c.args.node.now ≡ true =
    not-false (bytes_eq (node_of c.args.command.now) c.args.node.now) (search rules) in
    cut_of_its_node (g.H.Hash32.digest_of scene.hash) (world_of scene) c.args.command.now c.args.node.now c.args.calls
    c.args.outcome.now _ same
    (cut_shows g.H.Hash32.digest_of scene c.args.command.now c.args.calls c.in_ok-chosen.chosen.n c.args.outcome.now
    c.in_ok-chosen.chosen.order c.in_ok-end.end nodes chosen.found chosen.ordered
    (subst (λ seen. AllHash seen.hash seen.nodes) c.self.view_is c.self.invariant)
    (cut_seen g.H.Hash32.digest_of _ c.args.self.now c.log-log.result.now c.in_ok-chosen.chosen.n c.args.calls
    c.in_ok-outcome.outcome _ c.in_ok-chosen.chosen.order c.in_ok-end.end c.cut.new.self c.self.view_is
    c.log-log.ensures.chain c.in_ok-outcome.ensures c.in_ok-end.ensures.cuts)
    ∙ ap Some (c.in_ok-answer.ensures.shows (world_of (with_nodes scene nodes)))
    ∙ ap (λ seen. Some (answered c.in_ok-answer.answer (world_of (with_nodes seen nodes)))) (sym c.self.view_is))

pub returns-clause-tells : goal.returns-clause-tells
returns-clause-tells g c =
    let scene = c.args.self.now in
    let chosen = c.in_ok-chosen.ensures.chosen in
    let same : bytes_eq (node_of c.args.command.now) c.args.node.now ≡ true =
    not-false (bytes_eq (node_of c.args.command.now) c.args.node.now) (search rules) in
    cut_tells_of_its_node (g.H.Hash32.digest_of scene.hash) (world_of scene) c.args.command.now c.args.node.now
    c.args.calls c.args.outcome.now c.in_ok-answer.answer.event same
    (cut_tells g.H.Hash32.digest_of scene c.args.command.now c.args.calls c.in_ok-chosen.chosen.n c.args.outcome.now
    c.in_ok-chosen.chosen.order c.in_ok-end.end c.cut.new.self chosen.found chosen.ordered
    (subst (λ seen. AllHash seen.hash seen.nodes) c.self.view_is c.self.invariant)
    (cut_seen g.H.Hash32.digest_of _ c.args.self.now c.log-log.result.now c.in_ok-chosen.chosen.n c.args.calls
    c.in_ok-outcome.outcome _ c.in_ok-chosen.chosen.order c.in_ok-end.end c.cut.new.self c.self.view_is
    c.log-log.ensures.chain c.in_ok-outcome.ensures c.in_ok-end.ensures.cuts)
    c.in_ok-answer.answer.event c.in_ok-answer.ensures.tells)

pub returns-clause-moves : goal.returns-clause-moves
returns-clause-moves g c = record {
  n = c.in_ok-chosen.chosen.n;
  order = c.in_ok-chosen.chosen.order;
  end = c.in_ok-end.end;
  chosen = c.in_ok-chosen.ensures.chosen;
  cuts =
      cut_seen g.H.Hash32.digest_of _ c.args.self.now c.log-log.result.now c.in_ok-chosen.chosen.n c.args.calls
      c.in_ok-outcome.outcome _ c.in_ok-chosen.chosen.order c.in_ok-end.end c.cut.new.self c.self.view_is
      c.log-log.ensures.chain c.in_ok-outcome.ensures c.in_ok-end.ensures.cuts;
  hash = ap (λ seen. seen.hash) c.self.view_is;
}
