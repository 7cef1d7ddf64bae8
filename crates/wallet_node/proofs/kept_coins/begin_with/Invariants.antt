use Rattle.std.proofs.Common.{◌≡◌, take}
use Rattle.wallet_node.proofs.kept_coins.begin_with.Given as goal

abbrev pub invariant-loop-i : goal.invariant-loop-i
invariant-loop-i l = take l.i l.links ≡ take l.i l.first
