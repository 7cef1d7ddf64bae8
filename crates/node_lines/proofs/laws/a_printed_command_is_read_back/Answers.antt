use Rattle.node_lines.proofs.GrammarLaws.{wallet_line_in-text, watcher_line_in-text, operator_line_in-text}
use Rattle.node_lines.proofs.laws.a_printed_command_is_read_back.Goals as goal

pub returns-clause-wallet : goal.returns-clause-wallet
returns-clause-wallet c = wallet_line_in-text

pub returns-clause-watcher : goal.returns-clause-watcher
returns-clause-watcher c = watcher_line_in-text

pub returns-clause-operator : goal.returns-clause-operator
returns-clause-operator c = operator_line_in-text
