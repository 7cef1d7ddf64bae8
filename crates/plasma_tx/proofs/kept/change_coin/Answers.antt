use Rattle.plasma_tx.proofs.Words.{List, ℕ, ap, ◌∙◌, list_any, nat_cmp, is_at}
use Rattle.plasma_tx.proofs.States.{state-apart, exiting-changed}
use Rattle.plasma_tx.proofs.kept.change_coin.Goals as goal

pub returns-in_err-insert-clause-exiting : goal.returns-in_err-insert-clause-exiting
returns-in_err-insert-clause-exiting c =
    λ are n. ap (λ (keys : List ℕ). list_any (is_at (nat_cmp n)) keys) c.in_err-insert.ensures.err ∙ are n

pub returns-clause-exiting : goal.returns-clause-exiting
returns-clause-exiting c =
    exiting-changed c.args.states.now c.change-changed.new.self c.args.exiting.now c.keep_if.new.exiting
    c.args.coin (c.keep_if.ensures.coin c.in_ok-insert.ensures.updates.1 ∙ c.has_exits-stands.ensures)
    (λ n other. c.keep_if.ensures.others n other ∙ c.in_ok-insert.ensures.updates.2 n other)
    (state-apart c.args.states.now c.change-changed.new.self c.args.coin _ c.change-changed.result
    c.change-changed.ensures.ok c.change-changed.ensures.err)
