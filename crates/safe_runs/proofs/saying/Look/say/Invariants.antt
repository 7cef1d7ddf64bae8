use Rattle.std.proofs.Common.{◌≡◌, ◌++◌, take}
use Rattle.std.specs.List.{flat_map, list_all}
use Rattle.safe_runs.specs.Answers.{case_text, is_case_good}
use Rattle.safe_runs.proofs.saying.Look.say.Given as goal

abbrev pub invariant-loop-case : goal.invariant-loop-case
invariant-loop-case l = record {
  text : l.out.items ≡ l.fn.out.items
      ++ flat_map (case_text l.self.log.now.log l.self.account l.self.clock) (take l.case-index l.cases);
  good : l.are_good
      ≡ list_all (is_case_good l.self.log.now.log l.self.account l.self.clock) (take l.case-index l.cases);
}
