use Rattle.std.proofs.Common.{refl}
use Rattle.coin_verdicts.specs.declared.fact.Fact.{Fact}
use Rattle.coin_verdicts.specs.declared.note.Change.{Change}
use Rattle.coin_verdicts.proofs.KeptReadings.{keeps-next, noted-books}
use Rattle.coin_verdicts.proofs.reading.Reading.end.Goals as goal

pub returns : goal.returns
returns c count facts is keeps =
    keeps-next count c.args.line facts c.args.self.now _ is keeps
    (Fact.Ends c.args.coin c.args.block c.args.account c.args.paid) refl refl c.clear.ensures refl
    (λ coin. noted-books c.args.line c.args.coin coin (Change.Ends c.args.block c.args.account c.args.paid)
    c.args.self.now.books c.note.new.self c.in_ok-note.ensures)
