use Rattle.std.proofs.Common.{◌≡◌, List, ℕ, Option, Some, sym, subst}
use Rattle.std.specs.Prelude.{IfOk}
use Rattle.std.proofs.lemmas.Result.{IfOk-weaker}
use Rattle.world_trace.specs.Orders.{TellsStopped}
use Rattle.world_trace.specs.Told.{kept_told}
use Rattle.world_trace.proofs.StopLaws.{kept_tells}
use Rattle.world_trace.proofs.kept.event_of_stopped.Goals as goal

pub returns-in-Some : goal.returns-in-Some
returns-in-Some c =
    let n = c.args.n in
    let order = c.args.order.now in
    let bytes = c.as_slice.result.now in
    let kept : c.args.kept.now ≡ Some bytes = cc in
    subst (λ (k : Option (List ℕ)). IfOk c.event_of_kept.result (TellsStopped n order k)) (sym kept)
    (IfOk-weaker c.event_of_kept.result (λ event. event ≡ kept_told n order bytes)
    (TellsStopped n order (Some bytes))
    (λ event. kept_tells n order bytes event c.order_has_key.ensures) c.event_of_kept.ensures)
