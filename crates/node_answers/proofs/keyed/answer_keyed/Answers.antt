use Rattle.std.proofs.Common.{sym, subst}
use Rattle.node_replies.specs.Orders.{operator_does}
use Rattle.node_deeds.proofs.OperatorOrderLaws.{orders_add_no_leaf}
use Rattle.node_answers.specs.Desks.{desk_outcome, desk_records}
use Rattle.node_answers.specs.Doing.{DidDesk}
use Rattle.node_answers.proofs.DeskDeeds.{notes-did}
use Rattle.node_answers.proofs.keyed.answer_keyed.Goals as goal

pub returns-in-Order-clause-did : goal.returns-in-Order-clause-did
unfolding desk_outcome
returns-in-Order-clause-did g c =
    let old = c.args.keyed.now in
    let dig = g.H.Hash32.digest_of old.node.hash in
    let log = c.args.log.now.log in
    let records = desk_records old.node.notes.records old.desk.notes.records in
    subst
    (λ line. DidDesk g.D.Disk.told g.D.Disk.plan g.D.Disk.faults (desk_outcome dig log records line).note
    (desk_outcome dig log records line).leaf old.node.notes old.desk.notes c.answer_order.result
    c.answer_order.new.node.notes old.desk.notes)
    (sym c.in-Order.is)
    (notes-did g.D.Disk.told g.D.Disk.plan g.D.Disk.faults
    (operator_does dig log old.node.notes.records c.in-Order.order).note
    (operator_does dig log old.node.notes.records c.in-Order.order).leaf old.node.notes old.desk.notes
    c.answer_order.new.node.notes c.answer_order.result
    (orders_add_no_leaf dig log old.node.notes.records c.in-Order.order)
    c.requires.desk_open c.answer_order.ensures.did)
