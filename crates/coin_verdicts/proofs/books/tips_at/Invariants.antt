use Rattle.std.proofs.Common.{◌≡◌, take}
use Rattle.coin_verdicts.specs.Notes.{tips_at}
use Rattle.coin_verdicts.specs.Quiet.{is_quiet_at}
use Rattle.coin_verdicts.proofs.books.tips_at.Given as goal

abbrev pub invariant-loop-guard : goal.invariant-loop-guard
invariant-loop-guard l = l.tips.items ≡ tips_at (is_quiet_at l.nodes l.coin) (take l.guard-index l.guards)
