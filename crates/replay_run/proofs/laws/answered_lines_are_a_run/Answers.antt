use Rattle.replay_run.proofs.EndingLaws.{answered-are_a_run}
use Rattle.replay_run.proofs.laws.answered_lines_are_a_run.Goals as goal

pub returns : goal.returns
returns c = answered-are_a_run
