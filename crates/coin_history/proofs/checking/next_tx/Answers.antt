use Rattle.coin_history.proofs.Words.{true, false, refl, sym, ap, ◌∙◌, eq-eqb, ne_eqb, tip_of, is_signed_by, tests_by, spends, tagged, links_with}
use Rattle.coin_history.proofs.CheckFacts.{absent-from}
use Rattle.coin_history.proofs.CheckLinks.{transfer-from, next-absent, next-apart, next-unsigned, next-link}
use Rattle.coin_history.proofs.checking.next_tx.Goals as goal

pub returns-then-is_empty : goal.returns-then-is_empty
returns-then-is_empty c dig given =
    sym (next-absent (tests_by dig) (tagged c.args.tag.now) c.args.bundle.now.tip
    (links_with c.args.bundle.now.coin c.args.made.now c.args.spends.now) c.args.opening.now
    (absent-from c.args.leaf.now c.args.opening.now true c.requires (sym c.is_empty.ensures ∙ c.if-is_empty.true))
    (ne_eqb c.args.opening.now.block c.args.bundle.now.tip c.if-n-bundle.false))

pub returns-then-tx-tip : goal.returns-then-tx-tip
returns-then-tx-tip c dig given =
    sym (next-apart
    (tests_by dig) (tagged c.args.tag.now) c.args.bundle.now.tip
    (links_with c.args.bundle.now.coin c.args.made.now c.args.spends.now) c.args.opening.now
    (absent-from c.args.leaf.now c.args.opening.now false c.requires (sym c.is_empty.ensures ∙ c.if-is_empty.false))
    (ap (spends (tip_of (links_with c.args.bundle.now.coin c.args.made.now c.args.spends.now)))
    (transfer-from (tagged c.args.tag.now) c.args.bundle.now.coin c.args.opening.now c.args.tag.now c.args.leaf.now
    c.in_ok-tx.field-0 c.in-Some.tx refl c.requires c.in_ok-tx.ensures c.in-Some.is)
    ∙ ne_eqb c.in-Some.tx.body.parent (tip_of (links_with c.args.bundle.now.coin c.args.made.now c.args.spends.now))
    (λ e. c.if-tx-tip.true (e ∙ sym (c.tip.ensures c.args.bundle.now.coin)))))

pub returns-then-not-signed_by : goal.returns-then-not-signed_by
returns-then-not-signed_by c dig given =
    sym (next-unsigned
    (tests_by dig) (tagged c.args.tag.now) c.args.bundle.now.tip
    (links_with c.args.bundle.now.coin c.args.made.now c.args.spends.now) c.args.opening.now c.in-Some.tx
    (absent-from c.args.leaf.now c.args.opening.now false c.requires (sym c.is_empty.ensures ∙ c.if-is_empty.false))
    (transfer-from (tagged c.args.tag.now) c.args.bundle.now.coin c.args.opening.now c.args.tag.now c.args.leaf.now
    c.in_ok-tx.field-0 c.in-Some.tx refl c.requires c.in_ok-tx.ensures c.in-Some.is)
    (eq-eqb c.in-Some.tx.body.parent (tip_of (links_with c.args.bundle.now.coin c.args.made.now c.args.spends.now))
    (c.if-tx-tip.false ∙ c.tip.ensures c.args.bundle.now.coin))
    (ap (is_signed_by c.in-Some.tx) (sym (c.last_owner.ensures c.args.bundle.now.coin)) ∙ sym c.signed_by.ensures
    ∙ c.if-not-signed_by.true))

pub returns : goal.returns
returns c dig given =
    sym (next-link
    (tests_by dig) (tagged c.args.tag.now) c.args.bundle.now.tip
    (links_with c.args.bundle.now.coin c.args.made.now c.args.spends.now) c.args.opening.now c.in-Some.tx
    (absent-from c.args.leaf.now c.args.opening.now false c.requires (sym c.is_empty.ensures ∙ c.if-is_empty.false))
    (transfer-from (tagged c.args.tag.now) c.args.bundle.now.coin c.args.opening.now c.args.tag.now c.args.leaf.now
    c.in_ok-tx.field-0 c.in-Some.tx refl c.requires c.in_ok-tx.ensures c.in-Some.is)
    (eq-eqb c.in-Some.tx.body.parent (tip_of (links_with c.args.bundle.now.coin c.args.made.now c.args.spends.now))
    (c.if-tx-tip.false ∙ c.tip.ensures c.args.bundle.now.coin))
    (ap (is_signed_by c.in-Some.tx) (sym (c.last_owner.ensures c.args.bundle.now.coin)) ∙ sym c.signed_by.ensures
    ∙ c.if-not-signed_by.false))
