use Rattle.coin_safety.proofs.Words.{take, AreLowest}
use Rattle.coin_safety.proofs.index.lowest_blocks.Given as goal

abbrev pub invariant-loop-exit : goal.invariant-loop-exit
invariant-loop-exit l = AreLowest (take l.exit-index l.exits) l.blocks
