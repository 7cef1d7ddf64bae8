use Rattle.coin_safety.proofs.Words.{◌≡◌, take, reverse, Follows, payment}
use Rattle.coin_safety.proofs.payment.payment_of.Given as goal

abbrev pub invariant-loop-place : goal.invariant-loop-place
invariant-loop-place l = record {
  found : l.found ≡ payment (reverse (take l.place l.events)) l.coin;
  beside : Follows (reverse (take l.place l.events)) l.beside.log l.coin;
}
