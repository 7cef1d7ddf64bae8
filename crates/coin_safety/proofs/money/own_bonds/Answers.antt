use Rattle.coin_safety.proofs.Words.{◌∙◌, false, ChallengeView}
use Rattle.coin_safety.proofs.Viewed.{own-none, own-open, own-answered}
use Rattle.coin_safety.proofs.money.own_bonds.Goals as goal
use Rattle.coin_safety.proofs.money.own_bonds.Goals.{then-not-challenge+in_ok-money, else-not-challenge}

pub loop-challenge-init : goal.loop-challenge-init
loop-challenge-init c = own-none c.args.account

pub loop-challenge-preserved : goal.loop-challenge-preserved
loop-challenge-preserved c =
    let nothing : ChallengeView = record { block = 0; at = 0; by = 0; answered = false } in
    elim c.if-not-challenge.branch [
      | then-not-challenge+in_ok-money w ↦ w.money-is ∙ own-open c.args.account c.args.challenges.now
          c.loop-challenge.challenge-index nothing c.loop-challenge.money w.share.result _ c.loop-challenge-test.true
          w.if-not-challenge.true c.loop-challenge.invariant w.share.ensures w.in_ok-money.ensures
      | else-not-challenge w ↦ w.money-is ∙ own-answered c.args.account c.args.challenges.now
          c.loop-challenge.challenge-index nothing c.loop-challenge.money c.loop-challenge-test.true
          w.if-not-challenge.false c.loop-challenge.invariant
    ]
