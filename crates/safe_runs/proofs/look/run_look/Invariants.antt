use Rattle.node_sessions.specs.Sessions.{begun}
use Rattle.safe_runs.specs.Sessions.{untold}
use Rattle.safe_runs.proofs.look.run_look.Given as goal

abbrev pub ghost-answer_lines : goal.ghost-answer_lines
ghost-answer_lines g a = begun untold
