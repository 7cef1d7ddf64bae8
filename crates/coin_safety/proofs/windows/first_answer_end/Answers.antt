use Rattle.coin_safety.proofs.Words.{◌∙◌, false, ChallengeView}
use Rattle.coin_safety.proofs.Numbers.{least-same}
use Rattle.coin_safety.proofs.Ends.{unanswered-more, answered-more}
use Rattle.coin_safety.proofs.windows.first_answer_end.Goals as goal
use Rattle.coin_safety.proofs.windows.first_answer_end.Goals.{then-not-challenge, else-not-challenge}

pub loop-challenge-init : goal.loop-challenge-init
loop-challenge-init c = least-same c.args.first

pub loop-challenge-preserved : goal.loop-challenge-preserved
loop-challenge-preserved c =
    let nothing : ChallengeView = record { block = 0; at = 0; by = 0; answered = false } in
    elim c.if-not-challenge.branch [
      | then-not-challenge w ↦ w.first-is ∙ unanswered-more c.args.first c.loop-challenge.first c.args.challenges.now
          c.loop-challenge.challenge-index nothing w.later.result w.lesser.result c.loop-challenge-test.true
          w.if-not-challenge.true w.later.ensures w.lesser.ensures c.loop-challenge.invariant
      | else-not-challenge w ↦ w.first-is ∙ answered-more c.args.first c.loop-challenge.first c.args.challenges.now
          c.loop-challenge.challenge-index nothing c.loop-challenge-test.true w.if-not-challenge.false
          c.loop-challenge.invariant
    ]
