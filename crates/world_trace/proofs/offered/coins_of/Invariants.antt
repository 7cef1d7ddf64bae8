use Rattle.std.proofs.Common.{◌==◌, take}
use Rattle.std.specs.List.{list_any}
use Rattle.world_rules.specs.Events.{coin_of_call}
use Rattle.coin_verdicts.specs.Facts.{AreThose}
use Rattle.world_trace.proofs.offered.coins_of.Given as goal

abbrev pub invariant-loop-call : goal.invariant-loop-call
invariant-loop-call l = AreThose (λ c. list_any (λ call. coin_of_call call == c) (take l.call-index l.calls)) l.coins.items
