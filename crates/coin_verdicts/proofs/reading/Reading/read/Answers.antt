use Rattle.std.proofs.Common.{refl}
use Rattle.coin_verdicts.specs.declared.fact.Fact.{Fact}
use Rattle.coin_verdicts.specs.Books.{book_at}
use Rattle.coin_verdicts.proofs.KeptReadings.{keeps-next, same-book}
use Rattle.coin_verdicts.proofs.reading.Reading.read.Goals as goal

pub returns-in-Declares : goal.returns-in-Declares
returns-in-Declares c = rw c.in-Declares.is (c.declare.ensures c.args.line _)

pub returns-in-Idle : goal.returns-in-Idle
returns-in-Idle c count facts is keeps =
    rw c.in-Idle.is (keeps-next count c.args.line facts c.args.self.now _ is keeps Fact.Idle refl refl
    (λ coin n. refl) refl
    (λ coin. same-book (book_at c.args.self.now.books coin)))

pub returns-in-Other : goal.returns-in-Other
returns-in-Other c count facts is keeps =
    rw c.in-Other.is (keeps-next count c.args.line facts c.args.self.now _ is keeps (Fact.Other _) refl refl
    c.remove.ensures refl (λ coin. same-book (book_at c.args.self.now.books coin)))

pub returns-in-Joins : goal.returns-in-Joins
returns-in-Joins c count facts is keeps =
    rw c.in-Joins.is (keeps-next count c.args.line facts c.args.self.now _ is keeps Fact.Joins refl refl
    c.clear.ensures refl (λ coin. same-book (book_at c.args.self.now.books coin)))

pub returns-in-Deposits : goal.returns-in-Deposits
returns-in-Deposits c = rw (c.in-Deposits.is, ← c.get.ensures) c.deposit.ensures

pub returns-in-Guards : goal.returns-in-Guards
returns-in-Guards c = rw c.in-Guards.is (c.guard.ensures c.args.line)

pub returns-in-Releases : goal.returns-in-Releases
returns-in-Releases c = rw c.in-Releases.is (c.release.ensures c.args.line)

pub returns-in-Ticks : goal.returns-in-Ticks
returns-in-Ticks c = rw c.in-Ticks.is c.tick.ensures

pub returns-in-Ends : goal.returns-in-Ends
returns-in-Ends c = rw c.in-Ends.is c.end.ensures

pub returns-in-Accepts : goal.returns-in-Accepts
returns-in-Accepts c = rw c.in-Accepts.is c.accept.ensures

pub returns-in-Binds : goal.returns-in-Binds
returns-in-Binds c = rw c.in-Binds.is c.bind.ensures

pub returns-in-TakesBack : goal.returns-in-TakesBack
returns-in-TakesBack c = rw c.in-TakesBack.is c.take_back.ensures

pub returns-in-Watches : goal.returns-in-Watches
returns-in-Watches c = rw c.in-Watches.is (c.watch.ensures c.args.line)
