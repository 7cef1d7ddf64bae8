use Rattle.world_nodes.proofs.Words.{◌∙◌, [], false, refl, subst, arith, Site, role_of, IsDownOf, member_kind, down_halves, end_in}
use Rattle.world_nodes.proofs.Runs.{view_keeps}
use Rattle.world_nodes.proofs.Entries.{cut_comes}
use Rattle.world_nodes.proofs.Places.{cut_at, cut_fits}
use Rattle.world_nodes.proofs.Ready.{keeps-journals}
use Rattle.world_nodes.proofs.Roles.{lost-entry, role-after}
use Rattle.world_nodes.proofs.ReadyAt.{there-at, down-keeps, fused-opens-at, words-at, cut-ready}
use Rattle.world_nodes.proofs.entry.Entry.cut_up.Goals as goal

pub down_of-down-requires : goal.down_of-down-requires
down_of-down-requires g c = let e = c.self.inside in
    there-at g.H.Hash32.digest_of e.hash e.name e.account e.member e.offers.items c.args.self.now e.site
    c.take-site.result c.self.view_is c.self.invariant.0 c.requires.spells c.take-site.ensures.taken

pub count_records-requires : goal.count_records-requires
count_records-requires g c = let e = c.self.inside in
    keeps-journals (down_halves c.down_of-down.result)
    (down-keeps g.H.Hash32.digest_of e.hash e.name e.account e.member e.offers.items c.args.self.now e.site
    c.take-site.result c.self.view_is c.self.invariant.0 c.requires.spells c.take-site.ensures.taken
    c.down_of-down.result c.down_of-down.ensures)

pub invariant_of-self : goal.invariant_of-self
invariant_of-self g c = let e = c.self.inside in
    lost-entry g.H.Hash32.digest_of e.hash e.member e.site c.take-site.new.site c.self.invariant
    c.take-site.ensures.gone

pub invariant_of-self-in_err-cut : goal.invariant_of-self-in_err-cut
invariant_of-self-in_err-cut g c = let e = c.self.inside in
    lost-entry g.H.Hash32.digest_of e.hash e.member e.site c.take-site.new.site c.self.invariant
    c.take-site.ensures.gone

pub invariant_of-self-in_err-down : goal.invariant_of-self-in_err-down
invariant_of-self-in_err-down g c = let e = c.self.inside in
    lost-entry g.H.Hash32.digest_of e.hash e.member e.site c.take-site.new.site c.self.invariant
    c.take-site.ensures.gone

pub invariant_of-self-in_err-end : goal.invariant_of-self-in_err-end
invariant_of-self-in_err-end g c = let e = c.self.inside in
    lost-entry g.H.Hash32.digest_of e.hash e.member e.site c.take-site.new.site c.self.invariant
    c.take-site.ensures.gone

pub end_of-requires : goal.end_of-requires
end_of-requires g c = let e = c.self.inside in
    keeps-journals (down_halves c.in_ok-down.down)
    (view_keeps e.hash e.name e.account (role_of (member_kind e.member)) false (down_halves c.in_ok-down.down) []
    (cut_comes g.H.Hash32.digest_of e.hash e.name e.account e.member e.offers.items [] c.args.self.now e.site
    c.down_of-down.result c.fuse.result c.in_ok-cut.cut.down c.in_ok-down.down c.args.log.now.log c.args.calls
    c.fuse_of.result c.args.outcome.now c.args.order.now c.in_ok-cut.cut.given c.in_ok-before.before
    (end_in c.in_ok-before.before (down_halves c.in_ok-down.down) c.in_ok-cut.cut.given) c.self.view_is
    c.self.invariant.0
    c.requires.spells
    c.requires.is_up c.requires.fits c.requires.is_command c.requires.pattern
    (subst (λ (s : Site _). IsDownOf s c.down_of-down.result) c.take-site.ensures.taken c.down_of-down.ensures)
    c.in_ok-before.ensures c.fuse_of.ensures.rest c.fuse.ensures c.in_ok-cut.ensures c.in_ok-down.ensures refl refl).1)

pub invariant_of-self-in_err-kept : goal.invariant_of-self-in_err-kept
invariant_of-self-in_err-kept g c = let e = c.self.inside in
    lost-entry g.H.Hash32.digest_of e.hash e.member e.site c.take-site.new.site c.self.invariant
    c.take-site.ensures.gone

pub invariant_of-self-2 : goal.invariant_of-self-2
invariant_of-self-2 g c =
    let e = c.self.inside in
    let all = cut_at g.H.Hash32.digest_of e.hash e.name e.account e.member e.offers.items
    c.offer_nothing.new.offers.items
    c.args.self.now e.site c.take-site.result c.put.new.site c.down_of-down.result c.fuse.result c.in_ok-cut.cut.down
    c.in_ok-down.down c.args.log.now.log c.args.calls c.fuse_of.result c.args.outcome.now c.args.order.now
    c.in_ok-cut.cut.given c.in_ok-before.before c.in_ok-end.end c.self.view_is c.self.invariant.0 c.requires.spells
    c.requires.is_up c.requires.fits c.requires.is_command c.requires.pattern c.take-site.ensures.taken
    c.down_of-down.ensures c.in_ok-before.ensures c.fuse_of.ensures.rest c.fuse.ensures c.in_ok-cut.ensures
    c.in_ok-down.ensures c.in_ok-end.ensures c.offer_nothing.ensures (c.put.ensures ∙ c.in_ok-kept.ensures) in
    let words = words-at g.H.Hash32.digest_of e.hash e.name e.account e.member e.offers.items c.args.self.now e.site
    c.take-site.result c.self.view_is c.self.invariant.0 c.requires.spells c.take-site.ensures.taken
    c.down_of-down.result c.down_of-down.ensures c.args.log.now.log c.are_bytes.ensures
    (omega (arith, c.blocks-2.ensures.is, c.blocks-2.ensures.limit)) in
    let added = role-after (g.H.Hash32.digest_of c.args.self.now.hash) c.args.log.now.log c.args.self.now.node
    c.args.self.now.node.role c.args.order.now c.is_of_role.ensures c.requires.fits c.is_fit.ensures words in (
      all.2,
      cut-ready g.H.Hash32.digest_of e.hash e.name e.account e.member e.offers.items c.args.self.now e.site
          c.take-site.result c.self.view_is c.self.invariant.0 c.requires.spells c.take-site.ensures.taken
          c.put.new.site c.offer_nothing.new.offers.items c.in_ok-cut.cut.down c.in_ok-down.down
          c.args.outcome.now (c.put.ensures ∙ c.in_ok-kept.ensures) c.in_ok-down.ensures c.is_of_role.ensures
          c.args.log.now.log c.args.calls
          c.args.order.now c.in_ok-end.end all.0 added,
    )

pub returns-clause-cuts : goal.returns-clause-cuts
returns-clause-cuts g c = let e = c.self.inside in
    (cut_at g.H.Hash32.digest_of e.hash e.name e.account e.member e.offers.items c.offer_nothing.new.offers.items
    c.args.self.now e.site c.take-site.result c.put.new.site c.down_of-down.result c.fuse.result c.in_ok-cut.cut.down
    c.in_ok-down.down c.args.log.now.log c.args.calls c.fuse_of.result c.args.outcome.now c.args.order.now
    c.in_ok-cut.cut.given c.in_ok-before.before c.in_ok-end.end c.self.view_is c.self.invariant.0 c.requires.spells
    c.requires.is_up c.requires.fits c.requires.is_command c.requires.pattern c.take-site.ensures.taken
    c.down_of-down.ensures c.in_ok-before.ensures c.fuse_of.ensures.rest c.fuse.ensures c.in_ok-cut.ensures
    c.in_ok-down.ensures c.in_ok-end.ensures c.offer_nothing.ensures (c.put.ensures ∙ c.in_ok-kept.ensures)).0

pub returns-clause-spells : goal.returns-clause-spells
returns-clause-spells g c = let e = c.self.inside in
    (cut_at g.H.Hash32.digest_of e.hash e.name e.account e.member e.offers.items c.offer_nothing.new.offers.items
    c.args.self.now e.site c.take-site.result c.put.new.site c.down_of-down.result c.fuse.result c.in_ok-cut.cut.down
    c.in_ok-down.down c.args.log.now.log c.args.calls c.fuse_of.result c.args.outcome.now c.args.order.now
    c.in_ok-cut.cut.given c.in_ok-before.before c.in_ok-end.end c.self.view_is c.self.invariant.0 c.requires.spells
    c.requires.is_up c.requires.fits c.requires.is_command c.requires.pattern c.take-site.ensures.taken
    c.down_of-down.ensures c.in_ok-before.ensures c.fuse_of.ensures.rest c.fuse.ensures c.in_ok-cut.ensures
    c.in_ok-down.ensures c.in_ok-end.ensures c.offer_nothing.ensures (c.put.ensures ∙ c.in_ok-kept.ensures)).1

pub run_cut-requires-clause-fits : goal.run_cut-requires-clause-fits
run_cut-requires-clause-fits g c = let e = c.self.inside in
    cut_fits e.hash e.name e.account e.member e.offers.items c.args.self.now e.site c.take-site.result
    c.down_of-down.result c.fuse.result c.fuse_of.result c.args.order.now c.self.view_is c.self.invariant.0
    c.requires.fits c.take-site.ensures.taken c.down_of-down.ensures c.fuse.ensures

pub run_cut-requires-clause-may_open : goal.run_cut-requires-clause-may_open
run_cut-requires-clause-may_open g c = let e = c.self.inside in
    fused-opens-at g.H.Hash32.digest_of e.hash e.name e.account e.member e.offers.items c.args.self.now e.site
    c.take-site.result c.self.view_is c.self.invariant.0 c.requires.spells c.take-site.ensures.taken
    c.down_of-down.result c.down_of-down.ensures c.fuse_of.result c.fuse.result c.fuse.ensures
    c.fuse_of.ensures.opening c.is_of_role.ensures
