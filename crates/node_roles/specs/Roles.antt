-- How the nodes of each role are commanded, and what parts they have.
use Rattle.std.specs.Prelude.{ℕ, List, [], unwrap_or}
use Rattle.node_journal.specs.Notes.{NotesState}
use Rattle.operator_rules.specs.Records.{who_is as operator_is}
use Rattle.node_rules.specs.Watcher.{who_is as watcher_is}
use Rattle.node_rules.specs.Wallet.{WalletRecords}
use Rattle.node_rules.specs.WalletRecords.{who_is as wallet_is}
use Rattle.wallet_node.specs.State.{WalletState, notes_part, leaves_part}
use Rattle.node_replies.specs.declared.order.WatcherOrder.{WatcherOrder}
use Rattle.node_lines.specs.declared.operator_line.OperatorLine.{OperatorLine}
use Rattle.node_lines.specs.declared.wallet_line.WalletLine.{WalletLine}
use Rattle.node_lines.specs.Grammar.{watcher_line_in, operator_line_in, wallet_line_in}
use Rattle.node_answers.specs.Answers.{watcher_outcome, operator_outcome, wallet_outcome}
use Rattle.node_answers.specs.Desks.{DeskRecords, desk_records, desk_outcome}
use Rattle.node_journal.specs.Parts.{Parts, both}
use Rattle.node_roles.specs.Nodes.{Commands}

-- a wallet's parts; and the records of parts as those of a wallet, and of an operator and its desk
abbrev pub wallet_parts : {D H : Type 0} → WalletState D H → Parts (NotesState D)
wallet_parts wallet = both (notes_part wallet) (leaves_part wallet)

abbrev pub wallet_records : Parts (List (List ℕ)) → WalletRecords
wallet_records parts = record { notes = parts.notes; leaves = unwrap_or parts.leaves [] }

abbrev pub records_of_desk : Parts (List (List ℕ)) → DeskRecords
records_of_desk parts = desk_records parts.notes (unwrap_or parts.leaves [])

-- a watcher's commands
abbrev pub watcher_commands : Commands WatcherOrder
watcher_commands = record {
  tag = λ notes. (watcher_is notes).tag;
  command_in = watcher_line_in;
  comes_to = λ dig log parts order. watcher_outcome dig log parts.notes order;
}

-- an operator's, without a key and with one
abbrev pub operator_commands : Commands OperatorLine
operator_commands = record {
  tag = λ notes. (operator_is notes).tag;
  command_in = operator_line_in;
  comes_to = λ dig log parts line. operator_outcome dig log parts.notes line;
}

abbrev pub desk_commands : Commands OperatorLine
desk_commands = record {
  tag = λ notes. (operator_is notes).tag;
  command_in = operator_line_in;
  comes_to = λ dig log parts line. desk_outcome dig log (records_of_desk parts) line;
}

-- a wallet's
abbrev pub wallet_commands : Commands WalletLine
wallet_commands = record {
  tag = λ notes. (wallet_is notes).tag;
  command_in = wallet_line_in;
  comes_to = λ dig log parts line. wallet_outcome dig log (wallet_records parts) line;
}
