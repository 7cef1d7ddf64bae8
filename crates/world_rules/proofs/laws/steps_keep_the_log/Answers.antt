use Rattle.world_rules.proofs.StepLaws.{steps_keep_the_log}
use Rattle.world_rules.proofs.RunLaws.{logs_are_of_events}
use Rattle.world_rules.proofs.laws.steps_keep_the_log.Goals as goal

pub returns : goal.returns
returns c = record {
  step = steps_keep_the_log;
  run = logs_are_of_events;
}
