use Rattle.merkle_pages.specs.Pages.{ReadsSame}
use Rattle.merkle_pages.proofs.way.sweep_way.Given as goal

abbrev pub invariant-loop-level : goal.invariant-loop-level
invariant-loop-level l = ReadsSame l.defaults l.fn.pages l.pages
