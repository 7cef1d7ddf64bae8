use Rattle.replay_run.proofs.Promises.{replays-keep}
use Rattle.replay_run.proofs.laws.replays_keep_the_promise.Goals as goal

pub returns : goal.returns
returns c = replays-keep
