use Rattle.std.proofs.Common.{sym, ap, ◌∙◌, find}
use Rattle.std.specs.Option.{option_copied}
use Rattle.world_scene.specs.Names.{is_named_rogue}
use Rattle.world_scene.proofs.Finding.{none_read, one_read}
use Rattle.world_scene.proofs.Strangers.{no_place, no_rogue, other_rogue, that_rogue}
use Rattle.world_scene.proofs.rogues.Rogues.named.Goals as goal

pub returns-in_err-n : goal.returns-in_err-n
returns-in_err-n c =
    let inside = c.self.inside in
    ap option_copied c.from_residual.ensures
    ∙ sym (no_place inside.places inside.rogues.items c.self.invariant c.args.name.now
    (sym c.place_of.ensures ∙ c.in_err-n.was))
    ∙ ap (find (is_named_rogue c.args.name.now)) c.self.view_is

pub returns-in_err-rogue : goal.returns-in_err-rogue
returns-in_err-rogue c =
    let inside = c.self.inside in
    ap option_copied c.from_residual-in_err-rogue.ensures
    ∙ sym (no_rogue inside.places inside.rogues.items c.self.invariant c.args.name.now c.in_ok-n.n
    (sym c.place_of.ensures ∙ c.in_ok-n.was)
    (none_read c.deref.result.now inside.rogues.items c.in_ok-n.n c.deref.ensures.value
    c.in_err-rogue.ensures.lookup.0))
    ∙ ap (find (is_named_rogue c.args.name.now)) c.self.view_is

pub returns-then-is_named : goal.returns-then-is_named
returns-then-is_named c =
    let inside = c.self.inside in
    sym (that_rogue inside.places inside.rogues.items c.self.invariant c.args.name.now c.in_ok-n.n
    (sym c.place_of.ensures ∙ c.in_ok-n.was) c.in_ok-rogue.rogue.now
    (one_read c.deref.result.now inside.rogues.items c.in_ok-n.n c.in_ok-rogue.rogue.now c.deref.ensures.value
    c.in_ok-rogue.ensures.lookup.0 c.in_ok-rogue.ensures.lookup.1)
    (sym c.is_named.ensures ∙ c.if-is_named.true))
    ∙ ap (find (is_named_rogue c.args.name.now)) c.self.view_is

pub returns-else-is_named : goal.returns-else-is_named
returns-else-is_named c =
    let inside = c.self.inside in
    sym (other_rogue inside.places inside.rogues.items c.self.invariant c.args.name.now c.in_ok-n.n
    (sym c.place_of.ensures ∙ c.in_ok-n.was) c.in_ok-rogue.rogue.now
    (one_read c.deref.result.now inside.rogues.items c.in_ok-n.n c.in_ok-rogue.rogue.now c.deref.ensures.value
    c.in_ok-rogue.ensures.lookup.0 c.in_ok-rogue.ensures.lookup.1)
    (sym c.is_named.ensures ∙ c.if-is_named.false))
    ∙ ap (find (is_named_rogue c.args.name.now)) c.self.view_is
