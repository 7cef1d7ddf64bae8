-- What is told of a call that was accepted is its fact.
use Rattle.std.proofs.Common.{◌≡◌, ℕ, Bool, false, List, Option, Some, None, refl, ap, ◌∙◌}
use Rattle.plasma_tx.specs.declared.call.RootCall.{RootCall}
use Rattle.plasma_tx.specs.declared.answer.Answer.{Answer}
use Rattle.plasma_tx.specs.Views.{Exit, exit_at}
use Rattle.plasma_tx.specs.Shown.{Tests, Rules}
use Rattle.plasma_tx.specs.Table.{answer_to}
use Rattle.plasma_tx.specs.RuleLaws.{is_paid}
use Rattle.coin_verdicts.specs.declared.fact.Fact.{Fact}
use Rattle.coin_verdicts.specs.Facts.{ended, IsFactOfCall}
use Rattle.world_trace.specs.Asked.{IsAsked, told, with_paid}

paid-ended : (found : Option Exit) (coin block : ℕ) (paid : Bool)
    → with_paid paid (ended found coin block false) ≡ ended found coin block paid
paid-ended None coin block paid = refl
paid-ended (Some exit) coin block paid = refl

pub told_is : (tests : Tests) (rules : Rules) (log : List RootCall) (call : RootCall) (answer : Answer) (fact : Fact)
    → IsAsked log call fact → answer ≡ answer_to tests rules log call
    → IsFactOfCall tests rules log call (told (is_paid answer) call fact)
told_is tests rules log (RootCall.Finish account coin block) answer fact asked is =
    ap (with_paid (is_paid answer)) asked
    ∙ paid-ended (exit_at log coin block) coin block (is_paid answer)
    ∙ ap (λ a. ended (exit_at log coin block) coin block (is_paid a)) is
told_is tests rules log call answer fact asked is = asked tests rules
