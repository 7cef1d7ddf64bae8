use Rattle.std.proofs.Common.{refl}
use Rattle.coin_verdicts.specs.declared.fact.Fact.{Fact}
use Rattle.coin_verdicts.proofs.KeptReadings.{keeps-next, released-books}
use Rattle.coin_verdicts.proofs.reading.Reading.release.Goals as goal

pub returns : goal.returns
returns c line count facts is keeps =
    keeps-next count line facts c.args.self.now _ is keeps
    (Fact.Releases c.args.watcher c.args.coin c.args.tip) refl refl c.remove.ensures refl
    (λ coin. released-books c.args.watcher c.args.coin c.args.tip coin c.args.self.now.books c.release.new.self
    c.release.ensures)
