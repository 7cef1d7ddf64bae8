use Rattle.std.proofs.Common.{refl, ap, sym, ◌∙◌, not, length}
use Rattle.coin_verdicts.specs.declared.note.Change.{Change}
use Rattle.coin_verdicts.specs.Facts.{has}
use Rattle.coin_verdicts.specs.Notes.{bound_in, taken_in}
use Rattle.coin_verdicts.specs.Books.{book_at}
use Rattle.coin_verdicts.proofs.KeptReadings.{keeps-binds, next-taken, unsent-books, sent-books}
use Rattle.coin_verdicts.proofs.reading.Reading.bind.Goals as goal

pub returns-then-not-branch : goal.returns-then-not-branch
returns-then-not-branch c count facts is keeps =
    keeps-binds count c.args.line facts c.args.self.now _ is keeps c.args.wallet c.args.coin c.args.parent
    refl c.remove.ensures c.in_ok-bind.ensures.signing
    (λ coin. unsent-books c.args.line c.args.coin coin (Change.Sends c.args.wallet c.args.parent)
    (has (taken_in facts c.args.wallet) (length (bound_in facts c.args.wallet))) (book_at c.args.self.now.books coin)
    (sym c.if-not-branch.true ∙ c.in_ok-bind.ensures.stands
    ∙ ap not (next-taken count facts c.args.self.now c.args.wallet keeps)))

pub returns : goal.returns
returns c count facts is keeps =
    keeps-binds count c.args.line facts c.args.self.now _ is keeps c.args.wallet c.args.coin c.args.parent
    refl c.remove.ensures c.in_ok-bind.ensures.signing
    (λ coin. sent-books c.args.line c.args.coin coin (Change.Sends c.args.wallet c.args.parent)
    (has (taken_in facts c.args.wallet) (length (bound_in facts c.args.wallet))) c.args.self.now.books c.note.new.self
    (sym c.if-not-branch.false ∙ c.in_ok-bind.ensures.stands
    ∙ ap not (next-taken count facts c.args.self.now c.args.wallet keeps))
    c.in_ok-note.ensures)
