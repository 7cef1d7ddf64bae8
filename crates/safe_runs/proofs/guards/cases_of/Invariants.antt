use Rattle.std.proofs.Common.{◌≡◌, ◌++◌, map, None, true}
use Rattle.std.specs.BTreeMap.{values}
use Rattle.safe_runs.specs.Inside.{case_with}
use Rattle.safe_runs.proofs.guards.cases_of.Given as goal

abbrev pub invariant-loop-guard : goal.invariant-loop-guard
invariant-loop-guard l =
    l.cases.items ++ map (λ guard. case_with l.log.log l.hidden guard.coin guard.spends None true) l.guard-iterator
    ≡ map (λ guard. case_with l.log.log l.hidden guard.coin guard.spends None true) (values l.guards)
