use Rattle.std.proofs.Common.{List, ℕ, ◌==◌, not, if◌then◌else◌, refl, ap, ◌∙◌}
use Rattle.coin_verdicts.specs.declared.fact.Fact.{Fact}
use Rattle.coin_verdicts.specs.Facts.{has}
use Rattle.coin_verdicts.specs.Quiet.{is_quiet_at}
use Rattle.coin_verdicts.specs.Books.{book_at}
use Rattle.coin_verdicts.proofs.KeptReadings.{keeps-next, same-book}
use Rattle.coin_verdicts.proofs.reading.Reading.watch.Goals as goal

pub returns : goal.returns
returns c line count facts is keeps =
    keeps-next count line facts c.args.self.now _ is keeps (Fact.Watches c.args.node c.args.coins.now) refl refl
    (λ coin n. c.in_ok-watch.ensures coin n
    ∙ ap (λ (coins : List ℕ). if c.args.node == n then not (has coins coin)
    else is_quiet_at c.args.self.now.nodes coin n) c.in_ok-copy.ensures)
    refl (λ coin. same-book (book_at c.args.self.now.books coin))
