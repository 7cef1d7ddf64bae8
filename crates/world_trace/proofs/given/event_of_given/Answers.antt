use Rattle.std.proofs.lemmas.Result.{IfOk-weaker}
use Rattle.world_trace.specs.Orders.{TellsGiven}
use Rattle.world_trace.specs.Told.{IsTold}
use Rattle.world_trace.proofs.AnswerLaws.{told_tells, down_tells}
use Rattle.world_trace.proofs.given.event_of_given.Goals as goal

pub returns-in-Down-clause-done : goal.returns-in-Down-clause-done
returns-in-Down-clause-done c = down_tells c.args.n c.args.order.now c.args.given.now _ c.in-Down.is

pub returns-in_default : goal.returns-in_default
returns-in_default c =
    let n = c.args.n in
    let order = c.args.order.now in
    let given = c.args.given.now in
    record {
      done = IfOk-weaker c.event_told.result (IsTold n order given) (TellsGiven n order given)
          (told_tells n order given) c.event_told.ensures;
      down = λ down. absurd (c.in_default.not-Down down);
    }
