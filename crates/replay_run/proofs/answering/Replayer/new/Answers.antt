use Rattle.std.proofs.Common.{ap}
use Rattle.world_core.specs.Worlds.{WorldState}
use Rattle.replay_run.proofs.AnswerLaws.{ran-none}
use Rattle.replay_run.proofs.answering.Replayer.new.Goals as goal

pub returns-clause-ran : goal.returns-clause-ran
returns-clause-ran g c =
    ran-none g.H.Hash32.digest_of c.args.hash c.new_with.result.running
    (ap (λ (s : WorldState _). s.running) c.new_with.ensures.state) c.new_with.ensures.after
