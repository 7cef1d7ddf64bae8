use Rattle.operator_rules.proofs.Role.{commands_keep_the_role, commands_add_their_notes}
use Rattle.operator_rules.proofs.laws.commands_keep_the_role.Goals as goal

pub returns : goal.returns
returns c = record { kinds = commands_keep_the_role; notes = commands_add_their_notes }
