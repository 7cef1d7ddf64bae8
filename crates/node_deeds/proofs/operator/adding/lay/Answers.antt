use Rattle.std.proofs.Common.{Err, sym}
use Rattle.operator_rules.specs.Commands.{lay_effect}
use Rattle.operator_core.specs.State.{lay_stop}
use Rattle.node_replies.specs.Causes.{lay_cause}
use Rattle.node_replies.specs.Orders.{on_laid}
use Rattle.node_deeds.proofs.OperatorOrders.{lay-refused, given-refused, did-refused}
use Rattle.node_deeds.proofs.operator.adding.lay.Goals as goal

pub returns-in-Err-clause-gives : goal.returns-in-Err-clause-gives
returns-in-Err-clause-gives g c =
    given-refused lay_cause (on_laid c.args.coin) (lay_effect c.args.coin c.args.leaf.now).answer c.in-Err.why
    (lay_stop (Err c.in-Err.why)) c.lay_refusal.result c.in-Err.ensures.answer c.lay_refusal.ensures.gives
    c.lay_refusal.ensures.stop

pub returns-in-Err-clause-did : goal.returns-in-Err-clause-did
returns-in-Err-clause-did g c =
    did-refused g.D.Disk.told g.D.Disk.plan g.D.Disk.faults (lay_effect c.args.coin c.args.leaf.now).note
    c.args.node.now.notes _ (lay_stop (Err c.in-Err.why)) c.lay_refusal.result c.in-Err.ensures.did
    (λ free. lay-refused c.args.coin c.args.leaf.now c.in-Err.why (sym (c.in-Err.ensures.answer free)))
    c.lay_refusal.ensures.stop c.lay_refusal.ensures.memory
