use Rattle.proof_archive.proofs.Words.{true, false, sym, ap, ◌∙◌, Some, None, eq-eqb, ne_eqb, is_signed_by, tests_by, rules_of, tip_in}
use Rattle.coin_history.proofs.CheckFacts.{absent-from}
use Rattle.proof_archive.proofs.Moves.{transfer-read, move-absent, move-broken, move-none, move-apart, move-unsigned, move-link}
use Rattle.proof_archive.proofs.putting.move_of.Goals as goal

pub returns-then-is_empty : goal.returns-then-is_empty
returns-then-is_empty c dig =
    move-absent (tests_by dig) (rules_of c.args.log.now) c.args.coin c.args.made.now c.args.cell.now c.args.opening.now
    (absent-from c.args.leaf.now c.args.opening.now true c.requires (sym c.is_empty.ensures ∙ c.if-is_empty.true))

pub returns-then-is_broken : goal.returns-then-is_broken
returns-then-is_broken c dig =
    move-broken (tests_by dig) (rules_of c.args.log.now) c.args.coin c.args.made.now c.args.cell.now c.args.opening.now
    (sym c.is_broken.ensures ∙ c.if-is_broken.true)

pub returns-in_default : goal.returns-in_default
returns-in_default c dig =
    move-none (tests_by dig) (rules_of c.args.log.now) c.args.coin c.args.made.now c.args.cell.now c.args.opening.now
    (absent-from c.args.leaf.now c.args.opening.now false c.requires (sym c.is_empty.ensures ∙ c.if-is_empty.false))
    (sym c.is_broken.ensures ∙ c.if-is_broken.false)
    (transfer-read (rules_of c.args.log.now) c.args.coin c.args.opening.now c.tag.result c.args.leaf.now
    c.in_ok-tx.field-0 None c.tag.ensures c.requires c.in_ok-tx.ensures c.in_default.is)

pub returns-then-tx-tip : goal.returns-then-tx-tip
returns-then-tx-tip c dig =
    move-apart (tests_by dig) (rules_of c.args.log.now) c.args.coin c.args.made.now c.args.cell.now c.args.opening.now
    (absent-from c.args.leaf.now c.args.opening.now false c.requires (sym c.is_empty.ensures ∙ c.if-is_empty.false))
    (sym c.is_broken.ensures ∙ c.if-is_broken.false) c.in-Some.tx
    (transfer-read (rules_of c.args.log.now) c.args.coin c.args.opening.now c.tag.result c.args.leaf.now
    c.in_ok-tx.field-0 (Some c.in-Some.tx) c.tag.ensures c.requires c.in_ok-tx.ensures c.in-Some.is)
    (ne_eqb c.in-Some.tx.body.parent (tip_in c.args.made.now.deposit c.args.cell.now.ends)
    (λ e. c.if-tx-tip.true (e ∙ sym c.tip.ensures)))

pub returns-then-not-signed_by : goal.returns-then-not-signed_by
returns-then-not-signed_by c dig =
    move-unsigned (tests_by dig) (rules_of c.args.log.now) c.args.coin c.args.made.now c.args.cell.now
    c.args.opening.now
    (absent-from c.args.leaf.now c.args.opening.now false c.requires (sym c.is_empty.ensures ∙ c.if-is_empty.false))
    (sym c.is_broken.ensures ∙ c.if-is_broken.false) c.in-Some.tx
    (transfer-read (rules_of c.args.log.now) c.args.coin c.args.opening.now c.tag.result c.args.leaf.now
    c.in_ok-tx.field-0 (Some c.in-Some.tx) c.tag.ensures c.requires c.in_ok-tx.ensures c.in-Some.is)
    (ap (is_signed_by c.in-Some.tx) (sym c.owner.ensures) ∙ sym c.signed_by.ensures ∙ c.if-not-signed_by.true)

pub returns : goal.returns
returns c dig =
    move-link (tests_by dig) (rules_of c.args.log.now) c.args.coin c.args.made.now c.args.cell.now c.args.opening.now
    (absent-from c.args.leaf.now c.args.opening.now false c.requires (sym c.is_empty.ensures ∙ c.if-is_empty.false))
    (sym c.is_broken.ensures ∙ c.if-is_broken.false) c.in-Some.tx
    (transfer-read (rules_of c.args.log.now) c.args.coin c.args.opening.now c.tag.result c.args.leaf.now
    c.in_ok-tx.field-0 (Some c.in-Some.tx) c.tag.ensures c.requires c.in_ok-tx.ensures c.in-Some.is)
    (eq-eqb c.in-Some.tx.body.parent (tip_in c.args.made.now.deposit c.args.cell.now.ends)
    (c.if-tx-tip.false ∙ c.tip.ensures))
    (ap (is_signed_by c.in-Some.tx) (sym c.owner.ensures) ∙ sym c.signed_by.ensures ∙ c.if-not-signed_by.false)
