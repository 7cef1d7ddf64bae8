use Rattle.world_rules.proofs.Lines.{effects_are_of_acts, steps_are_of_acts}
use Rattle.world_rules.proofs.Lines.{acts_keep_the_rules}
use Rattle.world_rules.proofs.act_laws.acts_are_steps.Goals as goal

pub returns-clause-rules : goal.returns-clause-rules
returns-clause-rules c = acts_keep_the_rules

pub returns-clause-effect : goal.returns-clause-effect
returns-clause-effect c = effects_are_of_acts

pub returns-clause-step : goal.returns-clause-step
returns-clause-step c = steps_are_of_acts
