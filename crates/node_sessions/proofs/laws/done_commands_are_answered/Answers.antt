use Rattle.node_sessions.proofs.CompleteLaws.{done-are_answered}
use Rattle.node_sessions.proofs.laws.done_commands_are_answered.Goals as goal

pub returns : goal.returns
returns g c =
    λ node.
    done-are_answered (g.N.Commanded.tag node) (g.N.Commanded.command_in node) (g.N.Commanded.does node)
