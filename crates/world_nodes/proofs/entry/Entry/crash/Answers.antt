use Rattle.std.proofs.Common.{◌∙◌}
use Rattle.world_nodes.proofs.Places.{crash_at}
use Rattle.world_nodes.proofs.Roles.{lost-entry}
use Rattle.world_nodes.proofs.ReadyAt.{there-at, crash-ready}
use Rattle.world_nodes.proofs.entry.Entry.crash.Goals as goal

pub down_of-down-requires : goal.down_of-down-requires
down_of-down-requires g c = let e = c.self.inside in
    there-at g.H.Hash32.digest_of e.hash e.name e.account e.member e.offers.items c.args.self.now e.site
    c.take-site.result c.self.view_is c.self.invariant.0 c.requires.spells c.take-site.ensures.taken

pub invariant_of-self : goal.invariant_of-self
invariant_of-self g c = let e = c.self.inside in
    lost-entry g.H.Hash32.digest_of e.hash e.member e.site c.take-site.new.site c.self.invariant
    c.take-site.ensures.gone

pub invariant_of-self-in_err-kept : goal.invariant_of-self-in_err-kept
invariant_of-self-in_err-kept g c = let e = c.self.inside in
    lost-entry g.H.Hash32.digest_of e.hash e.member e.site c.take-site.new.site c.self.invariant
    c.take-site.ensures.gone

pub invariant_of-self-2 : goal.invariant_of-self-2
invariant_of-self-2 g c =
    let e = c.self.inside in
    let all = crash_at e.hash e.name e.account e.member e.offers.items c.offer_nothing.new.offers.items c.args.self.now
    e.site c.take-site.result c.put.new.site c.down_of-down.result c.in_ok-down.down c.args.outcome.now c.self.view_is
    c.self.invariant.0 c.requires.spells c.take-site.ensures.taken c.down_of-down.ensures c.in_ok-down.ensures
    c.offer_nothing.ensures (c.put.ensures ∙ c.in_ok-kept.ensures) in (
      all.2,
      crash-ready g.H.Hash32.digest_of e.hash e.name e.account e.member e.offers.items c.args.self.now e.site
          c.take-site.result c.self.view_is c.self.invariant.0 c.requires.spells c.take-site.ensures.taken
          c.put.new.site c.offer_nothing.new.offers.items c.down_of-down.result c.in_ok-down.down c.args.outcome.now
          (c.put.ensures ∙ c.in_ok-kept.ensures) c.in_ok-down.ensures c.is_of_role.ensures all.0,
    )

pub returns-clause-crashes : goal.returns-clause-crashes
returns-clause-crashes g c = let e = c.self.inside in
    (crash_at e.hash e.name e.account e.member e.offers.items c.offer_nothing.new.offers.items c.args.self.now e.site
    c.take-site.result c.put.new.site c.down_of-down.result c.in_ok-down.down c.args.outcome.now c.self.view_is
    c.self.invariant.0 c.requires.spells c.take-site.ensures.taken c.down_of-down.ensures c.in_ok-down.ensures
    c.offer_nothing.ensures (c.put.ensures ∙ c.in_ok-kept.ensures)).0

pub returns-clause-spells : goal.returns-clause-spells
returns-clause-spells g c = let e = c.self.inside in
    (crash_at e.hash e.name e.account e.member e.offers.items c.offer_nothing.new.offers.items c.args.self.now e.site
    c.take-site.result c.put.new.site c.down_of-down.result c.in_ok-down.down c.args.outcome.now c.self.view_is
    c.self.invariant.0 c.requires.spells c.take-site.ensures.taken c.down_of-down.ensures c.in_ok-down.ensures
    c.offer_nothing.ensures (c.put.ensures ∙ c.in_ok-kept.ensures)).1
