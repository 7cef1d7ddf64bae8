use Rattle.world_nodes.proofs.Words.{[], ◌∙◌, refl, sym, subst, Reply, Site, IsDownOf}
use Rattle.world_nodes.proofs.Places.{opening_at}
use Rattle.world_nodes.proofs.Roles.{lost-entry}
use Rattle.world_nodes.proofs.ReadyAt.{there-at, opens-at, unfused-at, opened-ready}
use Rattle.world_nodes.proofs.entry.Entry.bring_up.Goals as goal

pub invariant_of-self : goal.invariant_of-self
invariant_of-self g c = let e = c.self.inside in
    lost-entry g.H.Hash32.digest_of e.hash e.member e.site c.take-site.new.site c.self.invariant
    c.take-site.ensures.gone

pub invariant_of-self-in_err-kept : goal.invariant_of-self-in_err-kept
invariant_of-self-in_err-kept g c = let e = c.self.inside in
    lost-entry g.H.Hash32.digest_of e.hash e.member e.site c.take-site.new.site c.self.invariant
    c.take-site.ensures.gone

pub invariant_of-self-2 : goal.invariant_of-self-2
invariant_of-self-2 g c = let e = c.self.inside in (
  (opening_at g.H.Hash32.digest_of e.hash e.name e.account e.member e.offers.items c.offer_nothing.new.offers.items
      c.args.self.now e.site c.take-site.result c.put.new.site c.closed_of-down.result c.in_ok-node.node []
      c.says.result
      c.self.view_is c.self.invariant.0 c.requires.spells c.take-site.ensures.taken c.closed_of-down.ensures
      c.in_ok-node.ensures.opens
      c.in_ok-node.ensures.hash (record {
        reply = c.says.ensures.reply
            ∙ (λ i. Reply.Opened (c.counts-notes.ensures.notes i) (c.counts-notes.ensures.leaves i));
        made = c.says.ensures.made;
        offers = c.says.ensures.offers;
      }) c.offer_nothing.ensures (c.put.ensures ∙ c.in_ok-kept.ensures)).2,
  opened-ready g.H.Hash32.digest_of e.hash e.member e.site c.take-site.result c.self.invariant
      c.take-site.ensures.taken c.closed_of-down.result c.in_ok-node.node c.put.new.site c.closed_of-down.ensures
      c.in_ok-node.ensures.opens (c.put.ensures ∙ c.in_ok-kept.ensures),
)

pub returns-clause-done : goal.returns-clause-done
returns-clause-done g c = let e = c.self.inside in
    (opening_at g.H.Hash32.digest_of e.hash e.name e.account e.member e.offers.items c.offer_nothing.new.offers.items
    c.args.self.now e.site c.take-site.result c.put.new.site c.closed_of-down.result c.in_ok-node.node [] c.says.result
    c.self.view_is c.self.invariant.0 c.requires.spells c.take-site.ensures.taken c.closed_of-down.ensures
    c.in_ok-node.ensures.opens
    c.in_ok-node.ensures.hash (record {
      reply = c.says.ensures.reply
          ∙ (λ i. Reply.Opened (c.counts-notes.ensures.notes i) (c.counts-notes.ensures.leaves i));
      made = c.says.ensures.made;
      offers = c.says.ensures.offers;
    }) c.offer_nothing.ensures (c.put.ensures ∙ c.in_ok-kept.ensures)).0

pub returns-clause-spells : goal.returns-clause-spells
returns-clause-spells g c = let e = c.self.inside in
    (opening_at g.H.Hash32.digest_of e.hash e.name e.account e.member e.offers.items c.offer_nothing.new.offers.items
    c.args.self.now e.site c.take-site.result c.put.new.site c.closed_of-down.result c.in_ok-node.node [] c.says.result
    c.self.view_is c.self.invariant.0 c.requires.spells c.take-site.ensures.taken c.closed_of-down.ensures
    c.in_ok-node.ensures.opens
    c.in_ok-node.ensures.hash (record {
      reply = c.says.ensures.reply
          ∙ (λ i. Reply.Opened (c.counts-notes.ensures.notes i) (c.counts-notes.ensures.leaves i));
      made = c.says.ensures.made;
      offers = c.says.ensures.offers;
    }) c.offer_nothing.ensures (c.put.ensures ∙ c.in_ok-kept.ensures)).1

pub closed_of-down-requires-clause-there : goal.closed_of-down-requires-clause-there
closed_of-down-requires-clause-there g c = let e = c.self.inside in
    there-at g.H.Hash32.digest_of e.hash e.name e.account e.member e.offers.items c.args.self.now e.site
    c.take-site.result c.self.view_is c.self.invariant.0 c.requires.spells c.take-site.ensures.taken

pub open_up-requires : goal.open_up-requires
open_up-requires g c = let e = c.self.inside in
    opens-at g.H.Hash32.digest_of e.hash e.name e.account e.member e.offers.items c.args.self.now e.site
    c.take-site.result c.self.view_is c.self.invariant.0 c.requires.spells c.take-site.ensures.taken
    c.closed_of-down.result (subst (λ (s : Site _). IsDownOf s c.closed_of-down.result) (sym c.closed_of-down.ensures)
    refl) c.is_of_role.ensures
    (unfused-at g.H.Hash32.digest_of e.hash e.member e.site c.take-site.result c.self.invariant
    c.take-site.ensures.taken c.closed_of-down.result c.closed_of-down.ensures)
