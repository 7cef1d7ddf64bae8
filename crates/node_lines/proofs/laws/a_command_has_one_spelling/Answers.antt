use Rattle.node_lines.proofs.GrammarLaws.{wallet_line_text-in, watcher_line_text-in, operator_line_text-in}
use Rattle.node_lines.proofs.laws.a_command_has_one_spelling.Goals as goal

pub returns-clause-wallet : goal.returns-clause-wallet
returns-clause-wallet c = wallet_line_text-in

pub returns-clause-watcher : goal.returns-clause-watcher
returns-clause-watcher c = watcher_line_text-in

pub returns-clause-operator : goal.returns-clause-operator
returns-clause-operator c = operator_line_text-in
