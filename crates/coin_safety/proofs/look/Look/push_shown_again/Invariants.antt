use Rattle.coin_safety.proofs.Words.{◌≡◌, ◌++◌, take, flat_map, again_for}
use Rattle.coin_safety.proofs.look.Look.push_shown_again.Given as goal

abbrev pub invariant-loop-exit : goal.invariant-loop-exit
invariant-loop-exit l = l.calls.items ≡ l.initial.calls.items
    ++ flat_map (again_for l.self.log.now.log l.self.account l.self.kept.now) (take l.exit-index l.exits)
