use Rattle.std.proofs.Common.{List, length, ◌∙◌, ap}
use Rattle.std.proofs.lemmas.Result.{err_from_is_err_and}
use Rattle.plasma_tx.specs.declared.links.Link.{Link}
use Rattle.wallet_node.proofs.SharedHistories.{coins-after, coins-more, places-more}
use Rattle.wallet_node.proofs.kept_coins.KeptCoins.add.Goals as goal

pub returns-in_err-history-clause-err : goal.returns-in_err-history-clause-err
returns-in_err-history-clause-err c =
    let p = err_from_is_err_and c.from_residual.result c.from_residual.ensures.1 in
    rw p.1 (coins-after c.self.inside.histories.items c.hold.new.histories.items c.hold.ensures.before
    c.self.inside.places.items c.self.invariant ∙ c.self.view_is)

pub returns-in_err-insert-clause-err : goal.returns-in_err-insert-clause-err
returns-in_err-insert-clause-err c =
    let p = err_from_is_err_and c.from_residual-in_err-insert.result c.from_residual-in_err-insert.ensures.1 in
    rw p.1 (coins-after c.self.inside.histories.items c.hold.new.histories.items c.hold.ensures.before
    c.self.inside.places.items c.self.invariant ∙ c.self.view_is)

pub returns-in_err-push-clause-err : goal.returns-in_err-push-clause-err
returns-in_err-push-clause-err c =
    let p = err_from_is_err_and c.from_residual-in_err-push.result c.from_residual-in_err-push.ensures.1 in
    rw (p.1, c.in_err-push.ensures.items)
    (coins-after c.self.inside.histories.items c.hold.new.histories.items c.hold.ensures.before
    c.self.inside.places.items c.self.invariant ∙ c.self.view_is)

pub invariant_of-self-2 : goal.invariant_of-self-2
invariant_of-self-2 c =
    rw c.in_ok-push.ensures.items (places-more c.self.inside.histories.items c.hold.new.histories.items
    c.hold.ensures.before c.self.inside.places.items c.self.invariant _ c.args.kept.spends
    (ap (λ (l : List Link). length l) c.as_slice-count.ensures)
    c.in_ok-history.ensures.held)

pub returns-clause-ok : goal.returns-clause-ok
returns-clause-ok c =
    rw (c.in_ok-push.ensures.items, ← c.self.view_is) (coins-more c.self.inside.histories.items
    c.hold.new.histories.items c.hold.ensures.before c.self.inside.places.items c.self.invariant _ c.args.kept
    (rw c.as_slice-count.ensures
    (ap (λ (l : List Link). record c.args.kept { spends = l }) c.in_ok-history.ensures.held)))
