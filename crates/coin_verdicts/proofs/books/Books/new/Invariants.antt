use Rattle.std.proofs.Common.{◌≡◌, replicate}
use Rattle.coin_verdicts.specs.Books.{blank}
use Rattle.coin_verdicts.proofs.books.Books.new.Given as goal

abbrev pub invariant-loop : goal.invariant-loop
invariant-loop l = l.items.items ≡ replicate l.counter blank
