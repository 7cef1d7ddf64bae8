use Rattle.log_runs.specs.Following.{begun}
use Rattle.log_runs.proofs.run.answer_log.Given as goal

abbrev pub ghost-answer_lines : goal.ghost-answer_lines
ghost-answer_lines g a = begun
