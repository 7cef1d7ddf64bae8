use Rattle.std.proofs.Common.{take}
use Rattle.coin_verdicts.specs.Quiet.{is_quiet_at}
use Rattle.coin_verdicts.specs.Books.{AreMet}
use Rattle.coin_verdicts.proofs.books.Books.meet_all.Given as goal

abbrev pub invariant-loop-coin : goal.invariant-loop-coin
invariant-loop-coin l = AreMet l.line l.wallets (is_quiet_at l.nodes) (take l.coin-index l.met) l.initial.self l.self
