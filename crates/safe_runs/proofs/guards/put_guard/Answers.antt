use Rattle.std.proofs.Common.{sym, ◌∙◌}
use Rattle.std.proofs.lemmas.Result.{on_ok_weaker}
use Rattle.watcher_node.proofs.Order.{asked-keyed, put-keyed, kept-keyed}
use Rattle.safe_runs.proofs.guards.put_guard.Goals as goal

pub returns-then-contains_key : goal.returns-then-contains_key
returns-then-contains_key c guards are =
    are ∙ kept-keyed c.args.watched guards
    (asked-keyed c.args.watched.coin c.args.watched.tip c.args.all.now.entries guards are
    ∙ sym c.contains_key.ensures ∙ c.if-contains_key.true)

pub returns : goal.returns
returns c =
    on_ok_weaker c.insert_guard.result
    (λ put guards are. put-keyed c.args.watched guards c.args.all.now.entries c.insert_guard.new.all.entries
    c.insert_guard.ensures.ordered
    (asked-keyed c.args.watched.coin c.args.watched.tip c.args.all.now.entries guards are
    ∙ sym c.contains_key.ensures ∙ c.if-contains_key.false)
    are put)
    c.insert_guard.ensures.ok
