use Rattle.world_nodes.proofs.Words.{◌∙◌, [], refl, sym, subst, Site, NodeOrder, IsDownOf}
use Rattle.world_nodes.proofs.Places.{cut_opening_at}
use Rattle.world_nodes.proofs.Roles.{lost-entry}
use Rattle.world_nodes.proofs.ReadyAt.{there-at, fused-opens-at, stops-at, cut-ready}
use Rattle.world_nodes.proofs.entry.Entry.cut_opening.Goals as goal

pub closed_of-down-requires-clause-there : goal.closed_of-down-requires-clause-there
closed_of-down-requires-clause-there g c = let e = c.self.inside in
    there-at g.H.Hash32.digest_of e.hash e.name e.account e.member e.offers.items c.args.self.now e.site
    c.take-site.result c.self.view_is c.self.invariant.0 c.requires.spells c.take-site.ensures.taken

pub open_cut-requires-clause-stops : goal.open_cut-requires-clause-stops
open_cut-requires-clause-stops g c = let e = c.self.inside in
    stops-at g.H.Hash32.digest_of e.hash e.name e.account e.member e.offers.items c.args.self.now e.site
    c.take-site.result c.self.view_is c.self.invariant.0 c.requires.spells c.take-site.ensures.taken
    c.closed_of-down.result
    (subst (λ (s : Site _). IsDownOf s c.closed_of-down.result) (sym c.closed_of-down.ensures) refl)
    c.args.calls c.fuse.result c.fuse.ensures

pub open_cut-requires-clause-opens : goal.open_cut-requires-clause-opens
open_cut-requires-clause-opens g c =
    let e = c.self.inside in
    λ least. fused-opens-at g.H.Hash32.digest_of e.hash e.name e.account e.member e.offers.items c.args.self.now e.site
    c.take-site.result c.self.view_is c.self.invariant.0 c.requires.spells c.take-site.ensures.taken
    c.closed_of-down.result
    (subst (λ (s : Site _). IsDownOf s c.closed_of-down.result) (sym c.closed_of-down.ensures) refl)
    c.args.calls c.fuse.result c.fuse.ensures least c.is_of_role.ensures

pub invariant_of-self : goal.invariant_of-self
invariant_of-self g c = let e = c.self.inside in
    lost-entry g.H.Hash32.digest_of e.hash e.member e.site c.take-site.new.site c.self.invariant
    c.take-site.ensures.gone

pub invariant_of-self-in_err-down : goal.invariant_of-self-in_err-down
invariant_of-self-in_err-down g c = let e = c.self.inside in
    lost-entry g.H.Hash32.digest_of e.hash e.member e.site c.take-site.new.site c.self.invariant
    c.take-site.ensures.gone

pub invariant_of-self-in_err-kept : goal.invariant_of-self-in_err-kept
invariant_of-self-in_err-kept g c = let e = c.self.inside in
    lost-entry g.H.Hash32.digest_of e.hash e.member e.site c.take-site.new.site c.self.invariant
    c.take-site.ensures.gone

pub invariant_of-self-2 : goal.invariant_of-self-2
invariant_of-self-2 g c =
    let e = c.self.inside in
    let all = cut_opening_at g.H.Hash32.digest_of e.hash e.name e.account e.member e.offers.items
    c.offer_nothing.new.offers.items c.args.self.now e.site c.take-site.result c.put.new.site c.closed_of-down.result
    c.fuse.result c.in_ok-opened.opened.down c.in_ok-down.down [] c.args.calls c.args.outcome.now
    c.in_ok-opened.opened.end c.self.view_is c.self.invariant.0 c.requires.spells c.take-site.ensures.taken
    c.closed_of-down.ensures c.fuse.ensures c.in_ok-opened.ensures c.in_ok-down.ensures c.offer_nothing.ensures
    (c.put.ensures ∙ c.in_ok-kept.ensures) in (
      all.2,
      cut-ready g.H.Hash32.digest_of e.hash e.name e.account e.member e.offers.items c.args.self.now e.site
          c.take-site.result c.self.view_is c.self.invariant.0 c.requires.spells c.take-site.ensures.taken
          c.put.new.site c.offer_nothing.new.offers.items c.in_ok-opened.opened.down c.in_ok-down.down
          c.args.outcome.now (c.put.ensures ∙ c.in_ok-kept.ensures) c.in_ok-down.ensures c.is_of_role.ensures []
          c.args.calls
          NodeOrder.Open c.in_ok-opened.opened.end all.0 c.is_of_role.ensures,
    )

pub returns-clause-cuts : goal.returns-clause-cuts
returns-clause-cuts g c = let e = c.self.inside in
    (cut_opening_at g.H.Hash32.digest_of e.hash e.name e.account e.member e.offers.items
    c.offer_nothing.new.offers.items c.args.self.now e.site c.take-site.result c.put.new.site c.closed_of-down.result
    c.fuse.result c.in_ok-opened.opened.down c.in_ok-down.down [] c.args.calls c.args.outcome.now
    c.in_ok-opened.opened.end c.self.view_is c.self.invariant.0 c.requires.spells c.take-site.ensures.taken
    c.closed_of-down.ensures c.fuse.ensures c.in_ok-opened.ensures c.in_ok-down.ensures c.offer_nothing.ensures
    (c.put.ensures ∙ c.in_ok-kept.ensures)).0

pub returns-clause-spells : goal.returns-clause-spells
returns-clause-spells g c = let e = c.self.inside in
    (cut_opening_at g.H.Hash32.digest_of e.hash e.name e.account e.member e.offers.items
    c.offer_nothing.new.offers.items c.args.self.now e.site c.take-site.result c.put.new.site c.closed_of-down.result
    c.fuse.result c.in_ok-opened.opened.down c.in_ok-down.down [] c.args.calls c.args.outcome.now
    c.in_ok-opened.opened.end c.self.view_is c.self.invariant.0 c.requires.spells c.take-site.ensures.taken
    c.closed_of-down.ensures c.fuse.ensures c.in_ok-opened.ensures c.in_ok-down.ensures c.offer_nothing.ensures
    (c.put.ensures ∙ c.in_ok-kept.ensures)).1
