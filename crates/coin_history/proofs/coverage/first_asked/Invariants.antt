use Rattle.coin_history.proofs.Words.{is_asked, NoneIsAsked}
use Rattle.coin_history.proofs.coverage.first_asked.Given as goal

abbrev pub invariant-loop-n : goal.invariant-loop-n
invariant-loop-n l = NoneIsAsked (is_asked l.log.log l.span.low l.span.high) l.from l.n
