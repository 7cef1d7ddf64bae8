use Rattle.coin_safety.proofs.Words.{◌≡◌, take, reverse, balance_of, FollowsAll}
use Rattle.coin_safety.proofs.money.balance.Given as goal

abbrev pub invariant-loop-call : goal.invariant-loop-call
invariant-loop-call l = record {
  money : l.money ≡ balance_of (reverse (take l.call-index l.events)) l.account;
  beside : FollowsAll (reverse (take l.call-index l.events)) l.beside.log;
}
