use Rattle.std.proofs.Common.{ap, ◌∙◌}
use Rattle.coin_verdicts.specs.Facts.{has}
use Rattle.coin_verdicts.specs.Notes.{wallets_in, bound_in, taken_in, quiet_in, guards_in, notes_in}
use Rattle.coin_verdicts.specs.Books.{book_at, Signing}
use Rattle.coin_verdicts.proofs.KeptReadings.{blank-books}
use Rattle.coin_verdicts.proofs.reading.Reading.new.Goals as goal

pub returns : goal.returns
unfolding wallets_in bound_in taken_in quiet_in guards_in notes_in
returns c = record {
  wallets_are = c.new.ensures.items;
  nodes_are = c.new-2.ensures;
  leaves_are = λ w. ap (λ (s : Signing). s.leaves) (c.new-3.ensures w);
  taken_are = λ w q. ap (λ (s : Signing). has s.taken q) (c.new-3.ensures w);
  books_are = λ coin. ap (λ books. book_at books coin) c.in_ok-new.ensures ∙ blank-books c.args.count coin;
}
