use Rattle.std.proofs.Common.{Err}
use Rattle.operator_rules.specs.Commands.{offer_effect}
use Rattle.operator_core.specs.State.{offer_stop}
use Rattle.operator_core.proofs.Offers.{refused_note}
use Rattle.node_replies.specs.Causes.{offer_cause}
use Rattle.node_replies.specs.Orders.{on_pooled}
use Rattle.node_deeds.proofs.OperatorOrders.{given-refused, did-refused}
use Rattle.node_deeds.proofs.operator.adding.offer.Goals as goal

pub returns-in-Err-clause-gives : goal.returns-in-Err-clause-gives
returns-in-Err-clause-gives g c =
    let node = c.args.node.now in
    let effect =
    offer_effect (g.H.Hash32.digest_of node.hash) node.notes.records c.args.log.now.log c.args.transfer.now in
    given-refused offer_cause on_pooled effect.answer c.in-Err.why (offer_stop (Err c.in-Err.why))
    c.offer_refusal.result c.in-Err.ensures.answer c.offer_refusal.ensures.gives c.offer_refusal.ensures.stop

pub returns-in-Err-clause-did : goal.returns-in-Err-clause-did
returns-in-Err-clause-did g c =
    let node = c.args.node.now in
    let dig = g.H.Hash32.digest_of node.hash in
    did-refused g.D.Disk.told g.D.Disk.plan g.D.Disk.faults
    (offer_effect dig node.notes.records c.args.log.now.log c.args.transfer.now).note node.notes _
    (offer_stop (Err c.in-Err.why)) c.offer_refusal.result c.in-Err.ensures.did
    (λ free. (refused_note dig node.notes.records c.args.log.now.log c.args.transfer.now c.in-Err.why
    (c.in-Err.ensures.answer free)).0)
    c.offer_refusal.ensures.stop c.offer_refusal.ensures.memory
