use Rattle.node_replies.specs.Orders.{on_sent}
use Rattle.node_deeds.proofs.WalletOutcomes.{err-gives, unasked}
use Rattle.node_deeds.proofs.wallet.leaf_orders.again.Goals as goal

pub returns-in-Err-clause-gives : goal.returns-in-Err-clause-gives
returns-in-Err-clause-gives g c =
    err-gives on_sent _ c.in-Err.why _ c.in-Err.ensures.answer c.refuse.ensures

pub returns-in-Err-clause-did : goal.returns-in-Err-clause-did
returns-in-Err-clause-did g c =
    unasked g.D.Disk.told g.D.Disk.plan g.D.Disk.faults c.args.node.now c.in-Err.why _ c.requires
    c.in-Err.ensures.stops c.refuse.ensures
