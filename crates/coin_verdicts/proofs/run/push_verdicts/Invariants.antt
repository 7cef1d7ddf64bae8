use Rattle.std.proofs.Common.{◌≡◌, ◌++◌}
use Rattle.coin_verdicts.specs.Wallets.{verdicts_of_books}
use Rattle.coin_verdicts.proofs.run.push_verdicts.Given as goal

abbrev pub invariant-loop-i : goal.invariant-loop-i
invariant-loop-i l = l.found.items ≡ l.initial.found.items ++ verdicts_of_books l.books l.holder l.name l.i
