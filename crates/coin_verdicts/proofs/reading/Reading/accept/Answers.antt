use Rattle.std.proofs.Common.{refl}
use Rattle.coin_verdicts.specs.declared.fact.Fact.{Fact}
use Rattle.coin_verdicts.specs.declared.note.Change.{Change}
use Rattle.coin_verdicts.proofs.KeptReadings.{keeps-next, noted-books}
use Rattle.coin_verdicts.proofs.reading.Reading.accept.Goals as goal

pub returns : goal.returns
returns c count facts is keeps =
    keeps-next count c.args.line facts c.args.self.now _ is keeps
    (Fact.Accepts c.args.wallet c.args.coin c.args.tip) refl refl c.remove.ensures refl
    (λ coin. noted-books c.args.line c.args.coin coin (Change.Accepts c.args.wallet c.args.tip)
    c.args.self.now.books c.note.new.self c.in_ok-note.ensures)
