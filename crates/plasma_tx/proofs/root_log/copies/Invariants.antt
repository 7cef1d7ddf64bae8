use Rattle.std.proofs.Common.{◌≡◌, take}
use Rattle.plasma_tx.proofs.root_log.copies.Given as goal

abbrev pub invariant-loop-exit : goal.invariant-loop-exit
invariant-loop-exit l = l.copied.items ≡ take l.exit-index l.exits
