use Rattle.node_sessions.specs.Sessions.{begun}
use Rattle.node_runs.proofs.session.run_session.Given as goal

abbrev pub ghost-answer_lines : goal.ghost-answer_lines
ghost-answer_lines g a = begun g.found
