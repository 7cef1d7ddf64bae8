use Rattle.std.proofs.Common.{rules, ◌≡◌, [], ◌∷◌, ◌++◌, sym, ◌∙◌}
use Rattle.node_rules.proofs.ShownCoins.{shows-none, shows-more, shown-none}
use Rattle.node_rules.proofs.reading.shown_links.Goals as goal

pub returns-then-is_empty : goal.returns-then-is_empty
returns-then-is_empty g c =
    shown-none (g.H.Hash32.digest_of c.args.h.now) c.args.tag.now c.args.coin c.args.openings.now
    c.from_vec.result c.if-is_empty.ensures (c.from_vec.ensures ∙ c.new.ensures.items)

pub loop-opening-init : goal.loop-opening-init
loop-opening-init g c =
    shows-none (g.H.Hash32.digest_of c.args.h.now) c.args.tag.now c.args.coin _
    c.in_ok-spends.ensures.items

pub loop-opening-preserved : goal.loop-opening-preserved
loop-opening-preserved g c =
    let pushed : c.push.new.self.items ≡ c.loop-opening.spends.items ++ c.in-Some.link ∷ [] = search
    (rules, c.in_ok-push-in-Some.was, c.push.ensures.items) in
    shows-more (g.H.Hash32.digest_of c.args.h.now) c.args.tag.now c.args.coin c.args.openings.now
    c.loop-opening.opening-index c.opening-item.result c.loop-opening.spends.items c.push.new.self.items
    c.in-Some.link c.loop-opening-test.true c.opening-item.is (sym c.in-Some.is ∙ c.in_ok-link.ensures) pushed
    c.loop-opening.invariant
