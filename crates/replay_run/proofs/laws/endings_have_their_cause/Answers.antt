use Rattle.replay_run.proofs.EndingLaws.{endings-have_causes}
use Rattle.replay_run.proofs.laws.endings_have_their_cause.Goals as goal

pub returns : goal.returns
returns c = endings-have_causes
