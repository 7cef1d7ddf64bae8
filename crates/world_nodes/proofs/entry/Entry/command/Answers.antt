use Rattle.world_nodes.proofs.Words.{◌∙◌, rules, node_does, bare_node, up_halves, up_hash, RunsOn}
use Rattle.world_nodes.proofs.Places.{command_at, up_fits}
use Rattle.world_nodes.proofs.Roles.{lost-entry}
use Rattle.world_nodes.proofs.ReadyAt.{open-at, runs-at, ran-ready}
use Rattle.world_nodes.proofs.entry.Entry.command.Goals as goal

pub invariant_of-self : goal.invariant_of-self
invariant_of-self g c = let e = c.self.inside in
    lost-entry g.H.Hash32.digest_of e.hash e.member e.site c.take-site.new.site c.self.invariant
    c.take-site.ensures.gone

pub invariant_of-self-in_err-offers : goal.invariant_of-self-in_err-offers
invariant_of-self-in_err-offers g c = let e = c.self.inside in
    lost-entry g.H.Hash32.digest_of e.hash e.member e.site c.take-site.new.site c.self.invariant
    c.take-site.ensures.gone

pub invariant_of-self-in_err-kept : goal.invariant_of-self-in_err-kept
invariant_of-self-in_err-kept g c = let e = c.self.inside in
    lost-entry g.H.Hash32.digest_of e.hash e.member e.site c.take-site.new.site c.self.invariant
    c.take-site.ensures.gone

pub invariant_of-self-2 : goal.invariant_of-self-2
invariant_of-self-2 g c = let e = c.self.inside in (
  (command_at g.H.Hash32.digest_of e.hash e.name e.account e.member e.offers.items c.put_offers.new.offers.items
      c.args.self.now e.site c.take-site.result c.put.new.site c.up_of-node.result c.run_up.new.node
      c.args.log.now.log
      c.args.order.now c.in-Ok.given c.self.view_is c.self.invariant.0 c.requires.spells
      c.take-site.ensures.taken
      c.up_of-node.ensures c.requires.fits c.requires.is_command c.in-Ok.ensures.did c.in-Ok.ensures.gives
      (c.put_offers.ensures ∙ (c.in_ok-offers.ensures ∙ c.deref.ensures.value)) (c.put.ensures ∙ c.in_ok-kept.ensures)).2,
  ran-ready g.H.Hash32.digest_of e.hash e.member e.site c.take-site.result c.self.invariant c.take-site.ensures.taken
      c.up_of-node.result c.run_up.new.node c.put.new.site
      (node_does (g.H.Hash32.digest_of (up_hash c.up_of-node.result)) c.args.log.now.log
      (bare_node (up_halves c.up_of-node.result)) c.args.order.now) c.up_of-node.ensures c.in-Ok.ensures.did
      (c.put.ensures ∙ c.in_ok-kept.ensures),
)

pub returns-clause-done : goal.returns-clause-done
returns-clause-done g c = let e = c.self.inside in
    (command_at g.H.Hash32.digest_of e.hash e.name e.account e.member e.offers.items c.put_offers.new.offers.items
    c.args.self.now e.site c.take-site.result c.put.new.site c.up_of-node.result c.run_up.new.node
    c.args.log.now.log
    c.args.order.now c.in-Ok.given c.self.view_is c.self.invariant.0 c.requires.spells c.take-site.ensures.taken
    c.up_of-node.ensures c.requires.fits c.requires.is_command c.in-Ok.ensures.did c.in-Ok.ensures.gives
    (c.put_offers.ensures ∙ (c.in_ok-offers.ensures ∙ c.deref.ensures.value)) (c.put.ensures ∙ c.in_ok-kept.ensures)).0

pub returns-clause-spells : goal.returns-clause-spells
returns-clause-spells g c = let e = c.self.inside in
    (command_at g.H.Hash32.digest_of e.hash e.name e.account e.member e.offers.items c.put_offers.new.offers.items
    c.args.self.now e.site c.take-site.result c.put.new.site c.up_of-node.result c.run_up.new.node
    c.args.log.now.log
    c.args.order.now c.in-Ok.given c.self.view_is c.self.invariant.0 c.requires.spells c.take-site.ensures.taken
    c.up_of-node.ensures c.requires.fits c.requires.is_command c.in-Ok.ensures.did c.in-Ok.ensures.gives
    (c.put_offers.ensures ∙ (c.in_ok-offers.ensures ∙ c.deref.ensures.value)) (c.put.ensures ∙ c.in_ok-kept.ensures)).1

pub run_up-requires-clause-fits : goal.run_up-requires-clause-fits
run_up-requires-clause-fits g c = let e = c.self.inside in
    up_fits e.hash e.name e.account e.member e.offers.items c.args.self.now e.site c.take-site.result
    c.up_of-node.result c.args.order.now c.self.view_is c.self.invariant.0 c.requires.fits
    c.take-site.ensures.taken c.up_of-node.ensures

pub run_up-requires-clause-is_open : goal.run_up-requires-clause-is_open
run_up-requires-clause-is_open g c = let e = c.self.inside in
    open-at g.H.Hash32.digest_of e.hash e.member e.site c.take-site.result c.self.invariant
    c.take-site.ensures.taken c.up_of-node.result c.up_of-node.ensures

pub unreachable-requires : goal.unreachable-requires
unreachable-requires g c = let e = c.self.inside in
    let runs : RunsOn c.up_of-node.result = runs-at g.H.Hash32.digest_of e.hash e.member e.site c.take-site.result
    c.self.invariant c.take-site.ensures.taken c.up_of-node.result c.up_of-node.ensures in
    search (rules, runs)
