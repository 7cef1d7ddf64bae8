use Rattle.coin_safety.proofs.Words.{◌≡◌, ◌++◌, map, filter, take, Finish, is_to_finish}
use Rattle.coin_safety.proofs.look.Look.push_finishes.Given as goal

abbrev pub invariant-loop-exit : goal.invariant-loop-exit
invariant-loop-exit l = l.calls.items ≡ l.initial.calls.items
    ++ map (λ exit. Finish l.self.account l.self.kept.now.links.coin exit.block)
    (filter (is_to_finish l.self.log.now.log l.self.account l.self.kept.now) (take l.exit-index l.exit-items))
