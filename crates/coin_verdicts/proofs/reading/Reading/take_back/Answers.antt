use Rattle.std.proofs.Common.{refl, sym, ◌∙◌}
use Rattle.coin_verdicts.specs.Books.{book_at}
use Rattle.coin_verdicts.proofs.KeptReadings.{keeps-returns, found-same, unreturned-books, returned-books}
use Rattle.coin_verdicts.proofs.reading.Reading.take_back.Goals as goal

pub returns-in_default : goal.returns-in_default
returns-in_default c count facts is keeps =
    keeps-returns count c.args.line facts c.args.self.now _ is keeps c.args.wallet c.args.leaf
    refl c.remove.ensures c.in_ok-bound.ensures.signing
    (λ coin. unreturned-books facts c.args.line coin c.args.wallet c.args.leaf (book_at c.args.self.now.books coin)
    (sym c.in_default.is ∙ c.in_ok-bound.ensures.leaf
    ∙ found-same count facts c.args.self.now c.args.wallet c.args.leaf keeps))

pub returns : goal.returns
returns c count facts is keeps =
    keeps-returns count c.args.line facts c.args.self.now _ is keeps c.args.wallet c.args.leaf
    refl c.remove.ensures c.in_ok-bound.ensures.signing
    (λ coin. returned-books facts c.args.line coin c.args.wallet c.args.leaf c.in-Some.bound c.args.self.now.books
    c.note.new.self
    (sym c.in-Some.is ∙ c.in_ok-bound.ensures.leaf
    ∙ found-same count facts c.args.self.now c.args.wallet c.args.leaf keeps)
    c.in_ok-note.ensures)
