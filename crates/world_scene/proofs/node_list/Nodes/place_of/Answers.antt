use Rattle.std.proofs.Common.{◌<◌, sym, ap, ◌∙◌, subst, length}
use Rattle.std.specs.List.{position}
use Rattle.std.proofs.lemmas.Option.{slice_get_within}
use Rattle.world_scene.specs.Names.{is_named_view}
use Rattle.world_scene.proofs.Finding.{none_read, one_read}
use Rattle.world_scene.proofs.Index.{no_place, no_node, other_node, that_node}
use Rattle.world_scene.proofs.node_list.Nodes.place_of.Goals as goal

pub returns-in_err-n-clause-place : goal.returns-in_err-n-clause-place
returns-in_err-n-clause-place g c =
    let inside = c.self.inside in
    c.from_residual.ensures
    ∙ sym (no_place inside.places inside.entries.items c.self.invariant.names c.args.may c.args.name.now
    (sym c.place_of.ensures ∙ c.in_err-n.was))
    ∙ ap (position (is_named_view c.args.may c.args.name.now)) c.self.view_is

pub returns-in_err-entry-clause-place : goal.returns-in_err-entry-clause-place
returns-in_err-entry-clause-place g c =
    let inside = c.self.inside in
    c.from_residual-in_err-entry.ensures
    ∙ sym (no_node inside.places inside.entries.items c.self.invariant.names c.args.may c.args.name.now c.in_ok-n.n
    (sym c.place_of.ensures ∙ c.in_ok-n.was)
    (none_read c.deref.result.now inside.entries.items c.in_ok-n.n c.deref.ensures.value
    c.in_err-entry.ensures.lookup.0))
    ∙ ap (position (is_named_view c.args.may c.args.name.now)) c.self.view_is

pub returns-then-is_named-clause-place : goal.returns-then-is_named-clause-place
returns-then-is_named-clause-place g c =
    let inside = c.self.inside in
    sym (that_node inside.places inside.entries.items c.self.invariant.names c.args.may c.args.name.now c.in_ok-n.n
    (sym c.place_of.ensures ∙ c.in_ok-n.was) c.in_ok-entry.entry.now
    (one_read c.deref.result.now inside.entries.items c.in_ok-n.n c.in_ok-entry.entry.now c.deref.ensures.value
    c.in_ok-entry.ensures.lookup.0 c.in_ok-entry.ensures.lookup.1)
    (sym c.is_named.ensures ∙ c.if-is_named.true))
    ∙ ap (position (is_named_view c.args.may c.args.name.now)) c.self.view_is

pub returns-then-is_named-clause-within : goal.returns-then-is_named-clause-within
returns-then-is_named-clause-within g c =
    let inside = c.self.inside in
    subst (λ views. c.in_ok-n.n < length views) c.self.view_is
    (slice_get_within inside.entries.items c.in_ok-n.n c.in_ok-entry.entry.now
    (one_read c.deref.result.now inside.entries.items c.in_ok-n.n c.in_ok-entry.entry.now c.deref.ensures.value
    c.in_ok-entry.ensures.lookup.0 c.in_ok-entry.ensures.lookup.1))

pub returns-else-is_named-clause-place : goal.returns-else-is_named-clause-place
returns-else-is_named-clause-place g c =
    let inside = c.self.inside in
    sym (other_node inside.places inside.entries.items c.self.invariant.names c.args.may c.args.name.now c.in_ok-n.n
    (sym c.place_of.ensures ∙ c.in_ok-n.was) c.in_ok-entry.entry.now
    (one_read c.deref.result.now inside.entries.items c.in_ok-n.n c.in_ok-entry.entry.now c.deref.ensures.value
    c.in_ok-entry.ensures.lookup.0 c.in_ok-entry.ensures.lookup.1)
    (sym c.is_named.ensures ∙ c.if-is_named.false))
    ∙ ap (position (is_named_view c.args.may c.args.name.now)) c.self.view_is
