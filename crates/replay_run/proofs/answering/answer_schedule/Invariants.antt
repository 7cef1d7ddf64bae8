use Rattle.replay_run.specs.Replays.{begun}
use Rattle.replay_run.proofs.answering.answer_schedule.Given as goal

abbrev pub ghost-answer_lines : goal.ghost-answer_lines
ghost-answer_lines g a = begun (g.H.Hash32.digest_of a.answerer.now.world.running.hash)
