-- What is printed is read, and what is read is printed so.
use Rattle.std.proofs.Common.{◌≡◌, ℕ, false, List, Some, refl, rules}
use Rattle.line_forms.specs.Forms.{value_in, text_of}
use Rattle.line_forms.specs.Laws.{IsRow, IsMade, IsTable}
use Rattle.line_forms.proofs.FormLaws.{whole-words, words-whole}
use Rattle.line_forms.proofs.TokenLaws.{kinds}
use Rattle.node_replies.specs.declared.order.WalletOrder.{WalletOrder}
use Rattle.node_replies.specs.declared.order.WatcherOrder.{WatcherOrder}
use Rattle.node_replies.specs.declared.order.OperatorOrder.{OperatorOrder}
use Rattle.node_lines.specs.declared.wallet_line.WalletLine.{WalletLine}
use Rattle.node_lines.specs.declared.wallet_line.WalletLineName.{WalletLineName}
use Rattle.node_lines.specs.declared.watcher_line.WatcherLineName.{WatcherLineName}
use Rattle.node_lines.specs.declared.operator_line.OperatorLine.{OperatorLine}
use Rattle.node_lines.specs.declared.operator_line.OperatorLineName.{OperatorLineName}
use Rattle.node_lines.specs.Grammar.{wallet_lines, wallet_parts, IsWalletLine, wallet_line_text, wallet_line_in, watcher_lines, watcher_parts, IsWatcherLine, watcher_line_text, watcher_line_in, operator_lines, operator_parts, IsOperatorLine, operator_line_text, operator_line_in}
use Rattle.node_lines.proofs.Owners.{owner-is}

-- ---- commands of a wallet

ruleset wallet_kinds = (kinds, owner-is)

wallet-row : (name : WalletLineName) → IsRow false wallet_lines wallet_parts name
wallet-row WalletLineName.Accept = search wallet_kinds
wallet-row _ = search wallet_kinds

wallet-made : (line : WalletLine) → IsMade wallet_lines wallet_parts line
wallet-made (WalletLine.Order (WalletOrder.Accept bundle)) = refl
wallet-made _ = refl

pub wallet_table : IsTable false WalletLineName WalletLine wallet_lines wallet_parts
wallet_table = record { names = search rules; rows = wallet-row; made_of = wallet-made }

pub wallet_line_in-text : (line : WalletLine) → IsWalletLine line → wallet_line_in (wallet_line_text line) ≡ Some line
unfolding wallet_line_in wallet_line_text value_in text_of
wallet_line_in-text = whole-words wallet_lines wallet_parts wallet_table

pub wallet_line_text-in : (bytes : List ℕ) (line : WalletLine) → wallet_line_in bytes ≡ Some line
    → (bytes ≡ wallet_line_text line) × IsWalletLine line
unfolding wallet_line_in wallet_line_text value_in text_of
wallet_line_text-in = words-whole wallet_lines wallet_parts wallet_table

-- ---- commands of a watcher

watcher-row : (name : WatcherLineName) → IsRow false watcher_lines watcher_parts name
watcher-row WatcherLineName.Guard = search kinds
watcher-row _ = search kinds

watcher-made : (line : WatcherOrder) → IsMade watcher_lines watcher_parts line
watcher-made (WatcherOrder.Guard bundle) = refl
watcher-made _ = refl

pub watcher_table : IsTable false WatcherLineName WatcherOrder watcher_lines watcher_parts
watcher_table = record { names = search rules; rows = watcher-row; made_of = watcher-made }

pub watcher_line_in-text : (line : WatcherOrder) → IsWatcherLine line
    → watcher_line_in (watcher_line_text line) ≡ Some line
unfolding watcher_line_in watcher_line_text value_in text_of
watcher_line_in-text = whole-words watcher_lines watcher_parts watcher_table

pub watcher_line_text-in : (bytes : List ℕ) (line : WatcherOrder) → watcher_line_in bytes ≡ Some line
    → (bytes ≡ watcher_line_text line) × IsWatcherLine line
unfolding watcher_line_in watcher_line_text value_in text_of
watcher_line_text-in = words-whole watcher_lines watcher_parts watcher_table

-- ---- commands of the operator

operator-row : (name : OperatorLineName) → IsRow false operator_lines operator_parts name
operator-row OperatorLineName.Offer = search kinds
operator-row _ = search kinds

operator-made : (line : OperatorLine) → IsMade operator_lines operator_parts line
operator-made (OperatorLine.Order (OperatorOrder.Offer transfer)) = refl
operator-made _ = refl

pub operator_table : IsTable false OperatorLineName OperatorLine operator_lines operator_parts
operator_table = record { names = search rules; rows = operator-row; made_of = operator-made }

pub operator_line_in-text : (line : OperatorLine) → IsOperatorLine line
    → operator_line_in (operator_line_text line) ≡ Some line
unfolding operator_line_in operator_line_text value_in text_of
operator_line_in-text = whole-words operator_lines operator_parts operator_table

pub operator_line_text-in : (bytes : List ℕ) (line : OperatorLine) → operator_line_in bytes ≡ Some line
    → (bytes ≡ operator_line_text line) × IsOperatorLine line
unfolding operator_line_in operator_line_text value_in text_of
operator_line_text-in = words-whole operator_lines operator_parts operator_table
