use Rattle.operator_rules.specs.Commands.{prove_answer}
use Rattle.node_replies.specs.Orders.{on_proved}
use Rattle.node_deeds.proofs.OperatorOrders.{given-unproved}
use Rattle.node_deeds.proofs.operator.showing.prove.Goals as goal

pub returns-in-Err-clause-gives : goal.returns-in-Err-clause-gives
returns-in-Err-clause-gives g c =
    let node = c.args.node.now in
    given-unproved on_proved
    (prove_answer (g.H.Hash32.digest_of node.hash) node.notes.records c.args.log.now.log c.args.coin c.args.block)
    c.in-Err.why c.refusal.result (λ other. c.in-Err.ensures.value (λ e. other (cc e))) c.refusal.ensures.gives
    c.refusal.ensures.memory
