use Rattle.std.proofs.Common.{◌≡◌, sym, subst, ap, ◌∙◌, None}
use Rattle.std.specs.List.{position}
use Rattle.std.specs.List.{All}
use Rattle.std.proofs.lemmas.List.Elements.{All-push}
use Rattle.world_nodes.specs.Nodes.{NodeView, Spells}
use Rattle.world_scene.specs.declared.names.Roles.{Roles}
use Rattle.world_scene.specs.Names.{is_named_view}
use Rattle.world_scene.specs.Steps.{AllHash, AllSpell}
use Rattle.world_scene.proofs.Growth.{grown_world, grown_nodes, not_declared}
use Rattle.world_scene.proofs.scene.Scene.add_node.Goals as goal

pub push-requires : goal.push-requires
push-requires g c =
    subst (λ scene. position (is_named_view Roles.Any c.args.entry.node.name) scene.nodes ≡ None) (sym c.self.view_is)
    (not_declared c.args.self.now c.args.entry.node.name c.requires.new)

pub invariant_of-self : goal.invariant_of-self
invariant_of-self g c =
    subst (AllHash c.self.inside.hash) (sym c.in_err-push.ensures.err) c.self.invariant

pub invariant_of-self-2 : goal.invariant_of-self-2
invariant_of-self-2 g c =
    subst (AllHash c.self.inside.hash) (sym c.in_ok-push.ensures.ok)
    (All-push (λ (view : NodeView _). view.hash ≡ c.self.inside.hash) c.self.inside.nodes c.args.entry
    c.self.invariant (c.requires.hash ∙ ap (λ scene. scene.hash) (sym c.self.view_is)))

pub returns-clause-spells : goal.returns-clause-spells
returns-clause-spells g c =
    subst (All Spells) (sym c.in_ok-push.ensures.ok)
    (All-push Spells c.self.inside.nodes c.args.entry
    (subst AllSpell (sym c.self.view_is) c.requires.spells) c.requires.spelled)

pub returns-clause-world : goal.returns-clause-world
returns-clause-world g c =
    grown_world c.args.self.now _ c.push.new.self c.args.entry c.self.view_is c.in_ok-push.ensures.ok

pub returns-clause-grow : goal.returns-clause-grow
returns-clause-grow g c =
    grown_nodes c.args.self.now _ c.push.new.self c.args.entry c.self.view_is c.in_ok-push.ensures.ok
