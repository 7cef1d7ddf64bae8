use Rattle.coin_safety.proofs.Words.{◌≡◌, take, own_bonds}
use Rattle.coin_safety.proofs.money.own_bonds.Given as goal

abbrev pub invariant-loop-challenge : goal.invariant-loop-challenge
invariant-loop-challenge l = l.money ≡ own_bonds l.account (take l.challenge-index l.challenges)
