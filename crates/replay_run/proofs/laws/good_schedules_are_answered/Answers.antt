use Rattle.replay_run.proofs.CompleteLaws.{good-are_answered, parts-wait}
use Rattle.replay_run.proofs.laws.good_schedules_are_answered.Goals as goal

pub returns-clause-whole : goal.returns-clause-whole
returns-clause-whole c = good-are_answered

pub returns-clause-part : goal.returns-clause-part
returns-clause-part c = parts-wait
