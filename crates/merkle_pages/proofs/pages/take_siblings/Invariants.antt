use Rattle.merkle_pages.proofs.Words.{◌*◌, TakesSiblings}
use Rattle.merkle_pages.proofs.pages.take_siblings.Given as goal

abbrev pub invariant-loop-level : goal.invariant-loop-level
invariant-loop-level l = TakesSiblings l.pages l.number l.coin (15 * l.number) l.level l.fn.siblings l.siblings
