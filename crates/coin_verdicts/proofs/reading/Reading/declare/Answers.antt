use Rattle.std.proofs.Common.{refl}
use Rattle.coin_verdicts.specs.declared.fact.Fact.{Fact}
use Rattle.coin_verdicts.specs.Books.{book_at}
use Rattle.coin_verdicts.proofs.KeptReadings.{keeps-next, same-book}
use Rattle.coin_verdicts.proofs.reading.Reading.declare.Goals as goal

pub returns : goal.returns
returns c line me count facts is keeps =
    keeps-next count line facts c.args.self.now _ is keeps (Fact.Declares c.args.wallet me) refl
    c.in_ok-push.ensures.items (λ coin n. refl) refl (λ coin. same-book (book_at c.args.self.now.books coin))
