use Rattle.node_rules.specs.Watcher.{guard_effect}
use Rattle.watcher_node.specs.State.{stop_in}
use Rattle.node_replies.specs.Causes.{watcher_cause}
use Rattle.node_replies.specs.Orders.{on_guarded}
use Rattle.node_deeds.proofs.WatcherOrders.{guard-refused}
use Rattle.node_deeds.proofs.OperatorOrders.{given-refused, did-refused}
use Rattle.node_deeds.proofs.watcher.running.guard.Goals as goal

pub returns-in-Err-clause-gives : goal.returns-in-Err-clause-gives
returns-in-Err-clause-gives g c =
    let node = c.args.node.now in
    let effect = guard_effect (g.H.Hash32.digest_of node.hash) node.notes.records c.args.log.now.log
    c.args.bundle.now in
    given-refused watcher_cause on_guarded effect.answer c.in-Err.why (stop_in c.in-Err.why)
    c.refusal.result c.in-Err.ensures.answer c.refusal.ensures.gives c.refusal.ensures.stop

pub returns-in-Err-clause-did : goal.returns-in-Err-clause-did
returns-in-Err-clause-did g c =
    let node = c.args.node.now in
    let dig = g.H.Hash32.digest_of node.hash in
    did-refused g.D.Disk.told g.D.Disk.plan g.D.Disk.faults
    (guard_effect dig node.notes.records c.args.log.now.log c.args.bundle.now).note node.notes _
    (stop_in c.in-Err.why) c.refusal.result c.in-Err.ensures.did
    (λ free. guard-refused dig node.notes.records c.args.log.now.log c.args.bundle.now c.in-Err.why
    (c.in-Err.ensures.answer free))
    c.refusal.ensures.stop c.refusal.ensures.memory
