use Rattle.std.proofs.Common.{sym, ◌∙◌}
use Rattle.std.proofs.lemmas.Result.{IfOk-weaker}
use Rattle.world_trace.specs.Orders.{TellsGiven, TellsFinished}
use Rattle.world_trace.proofs.AnswerLaws.{offering_tells, finished_tells}
use Rattle.world_trace.proofs.given.event_of_finished.Goals as goal

pub returns-then-is_offering : goal.returns-then-is_offering
returns-then-is_offering c = offering_tells c.args.n c.args.order.now c.args.given.now
    (sym c.is_offering.ensures ∙ c.if-is_offering.true)

pub returns : goal.returns
returns c =
    let n = c.args.n in
    let order = c.args.order.now in
    let given = c.args.given.now in
    IfOk-weaker c.event_of_given.result (TellsGiven n order given) (TellsFinished n order given)
    (λ event. finished_tells n order given event (sym c.is_offering.ensures ∙ c.if-is_offering.false))
    c.event_of_given.ensures.done
