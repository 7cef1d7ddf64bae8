use Rattle.std.proofs.Common.{refl}
use Rattle.coin_verdicts.specs.declared.fact.Fact.{Fact}
use Rattle.coin_verdicts.proofs.KeptReadings.{keeps-next, guarded-books}
use Rattle.coin_verdicts.proofs.reading.Reading.guard.Goals as goal

pub returns : goal.returns
returns c line count facts is keeps =
    keeps-next count line facts c.args.self.now _ is keeps
    (Fact.Guards c.args.watcher c.args.coin c.args.tip) refl refl c.remove.ensures refl
    (λ coin. guarded-books c.args.watcher c.args.coin c.args.tip coin c.args.self.now.books c.guard.new.self
    c.in_ok-guard.ensures)
