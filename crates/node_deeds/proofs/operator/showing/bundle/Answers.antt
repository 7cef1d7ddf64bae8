use Rattle.std.proofs.Common.{◌≡◌}
use Rattle.operator_rules.specs.Commands.{bundle_answer}
use Rattle.node_replies.specs.Orders.{on_bundled}
use Rattle.node_deeds.proofs.OperatorOrders.{given-unproved}
use Rattle.node_deeds.proofs.operator.showing.bundle.Goals as goal
use Rattle.node_deeds.proofs.operator.showing.bundle.Goals.{then-tip-eq0, else-tip-eq0}

pub returns-in-Err-clause-gives : goal.returns-in-Err-clause-gives
returns-in-Err-clause-gives g c =
    let node = c.args.node.now in
    let walked : c.if-tip-eq0.node ≡ node = elim c.if-tip-eq0.branch [
      | then-tip-eq0 w ↦ cc
      | else-tip-eq0 w ↦ cc
    ] in
    given-unproved on_bundled
    (bundle_answer (g.H.Hash32.digest_of node.hash) node.notes.records c.args.log.now.log c.args.coin c.args.tip)
    c.in-Err.why c.refusal.result
    (λ other. rw walked at (c.in-Err.ensures.value (λ e. other (cc e)))) c.refusal.ensures.gives
    c.refusal.ensures.memory
