-- The lines of a node's run: the commands of a wallet, of a watcher and of the operator, the one spelling of each, and
-- the command that bytes spell.
use Rattle.std.specs.Prelude.{ℕ, Bool, true, false, List, map, codes, Option, option_map}
use Rattle.line_forms.specs.Forms.{Kind, Form, named, Table, Parts, of, ends, ◌▸◌, AreParts, begins_as, text_of, value_in}
use Rattle.line_forms.specs.Words.{words_of}
use Rattle.line_forms.specs.Tokens.{AreBytes, number, hex, hex_of, optional_number}
use Rattle.line_forms.specs.declared.tokens.TheConstants.{OWNER_BYTES}
use Rattle.plasma_tx.specs.declared.owner.Owner.{Owner}
use Rattle.plasma_tx.specs.Spelling.{IsOwner, owner_text, owner_in}
use Rattle.node_replies.specs.declared.order.WalletOrder.{WalletOrder}
use Rattle.node_replies.specs.declared.order.WatcherOrder.{WatcherOrder}
use Rattle.node_replies.specs.declared.order.OperatorOrder.{OperatorOrder}
use Rattle.node_lines.specs.declared.wallet_line.WalletLine.{WalletLine}
use Rattle.node_lines.specs.declared.wallet_line.WalletLineName.{WalletLineName}
use Rattle.node_lines.specs.declared.wallet_line.TheConstants.{WALLET_LINE_NAMES}
use Rattle.node_lines.specs.declared.watcher_line.WatcherLineName.{WatcherLineName}
use Rattle.node_lines.specs.declared.watcher_line.TheConstants.{WATCHER_LINE_NAMES}
use Rattle.node_lines.specs.declared.operator_line.OperatorLine.{OperatorLine}
use Rattle.node_lines.specs.declared.operator_line.OperatorLineName.{OperatorLineName}
use Rattle.node_lines.specs.declared.operator_line.TheConstants.{OPERATOR_LINE_NAMES}

-- ---- owners

-- an owner of the type, whose key is bytes
abbrev pub IsOwnerOfBytes : Owner → Type 0
IsOwnerOfBytes owner = IsOwner owner × AreBytes owner.key

-- an owner as a hex of its 64 bytes
abbrev pub owner : Kind Owner
owner = record {
  Is = IsOwnerOfBytes;
  words = λ owner. (hex_of OWNER_BYTES).words (owner_text owner);
  take = λ words. option_map (λ taken. (owner_in taken.0, taken.1)) ((hex_of OWNER_BYTES).take words);
}

-- ---- commands of a wallet

-- each command: its first word, and the kinds of its tokens
abbrev pub wallet_form : WalletLineName → Form WalletLine
wallet_form WalletLineName.Accept =
    named (codes "accept") (hex ▸ ends) (λ bundle. WalletLine.Order (WalletOrder.Accept bundle))
wallet_form WalletLineName.Send =
    named (codes "send") (number ▸ owner ▸ optional_number ▸ ends)
    (λ coin to last. WalletLine.Order (WalletOrder.Send coin to last))
wallet_form WalletLineName.Again =
    named (codes "again") (number ▸ ends) (λ coin. WalletLine.Order (WalletOrder.Again coin))
wallet_form WalletLineName.Leave =
    named (codes "leave") (number ▸ ends) (λ coin. WalletLine.Order (WalletOrder.Leave coin))
wallet_form WalletLineName.Reclaim =
    named (codes "reclaim") (hex ▸ ends) (λ bundle. WalletLine.Order (WalletOrder.Reclaim bundle))
wallet_form WalletLineName.Migrate = named (codes "migrate") ends (WalletLine.Order WalletOrder.Migrate)
wallet_form WalletLineName.Watch = named (codes "watch") ends (WalletLine.Order WalletOrder.Watch)
wallet_form WalletLineName.State = named (codes "state") (number ▸ ends) WalletLine.State
wallet_form WalletLineName.Who = named (codes "who") ends WalletLine.Who

-- the table of the commands
abbrev pub wallet_lines : Table WalletLineName WalletLine
wallet_lines = record { names = map (λ row. (row.0.now, row.1)) WALLET_LINE_NAMES; row = wallet_form }

-- a command as a row of the table, and its tokens
abbrev pub wallet_parts : WalletLine → Parts WalletLineName WalletLine wallet_lines
wallet_parts (WalletLine.Order (WalletOrder.Accept bundle)) = of wallet_lines WalletLineName.Accept bundle
wallet_parts (WalletLine.Order (WalletOrder.Send coin to last)) = of wallet_lines WalletLineName.Send coin to last
wallet_parts (WalletLine.Order (WalletOrder.Again coin)) = of wallet_lines WalletLineName.Again coin
wallet_parts (WalletLine.Order (WalletOrder.Leave coin)) = of wallet_lines WalletLineName.Leave coin
wallet_parts (WalletLine.Order (WalletOrder.Reclaim bundle)) = of wallet_lines WalletLineName.Reclaim bundle
wallet_parts (WalletLine.Order WalletOrder.Migrate) = of wallet_lines WalletLineName.Migrate
wallet_parts (WalletLine.Order WalletOrder.Watch) = of wallet_lines WalletLineName.Watch
wallet_parts (WalletLine.State coin) = of wallet_lines WalletLineName.State coin
wallet_parts WalletLine.Who = of wallet_lines WalletLineName.Who

-- which commands are in the grammar
abbrev pub IsWalletLine : WalletLine → Type 0
IsWalletLine line = AreParts wallet_lines (wallet_parts line)

-- the one spelling of a command: its words with one blank between each two
unfoldable pub wallet_line_text : WalletLine → List ℕ
wallet_line_text line = text_of wallet_lines (wallet_parts line)

-- the command that bytes spell, if they spell one
unfoldable pub wallet_line_in : List ℕ → Option WalletLine
wallet_line_in bytes = value_in wallet_lines bytes

-- whether a command with this first word has bytes, which take memory
abbrev pub wallet_has_bytes : WalletLineName → Bool
wallet_has_bytes WalletLineName.Accept = true
wallet_has_bytes WalletLineName.Send = true
wallet_has_bytes WalletLineName.Reclaim = true
wallet_has_bytes _ = false

-- whether the first word of a line begins a command that has bytes
abbrev pub wallet_begins_with_bytes : List ℕ → Bool
wallet_begins_with_bytes bytes = begins_as wallet_lines wallet_has_bytes (words_of bytes)

-- ---- commands of a watcher

-- each command: its first word, and the kinds of its tokens
abbrev pub watcher_form : WatcherLineName → Form WatcherOrder
watcher_form WatcherLineName.Guard = named (codes "guard") (hex ▸ ends) WatcherOrder.Guard
watcher_form WatcherLineName.Release = named (codes "release") (number ▸ number ▸ ends) WatcherOrder.Release
watcher_form WatcherLineName.Watch = named (codes "watch") ends WatcherOrder.Watch

-- the table of the commands
abbrev pub watcher_lines : Table WatcherLineName WatcherOrder
watcher_lines = record { names = map (λ row. (row.0.now, row.1)) WATCHER_LINE_NAMES; row = watcher_form }

-- a command as a row of the table, and its tokens
abbrev pub watcher_parts : WatcherOrder → Parts WatcherLineName WatcherOrder watcher_lines
watcher_parts (WatcherOrder.Guard bundle) = of watcher_lines WatcherLineName.Guard bundle
watcher_parts (WatcherOrder.Release coin tip) = of watcher_lines WatcherLineName.Release coin tip
watcher_parts WatcherOrder.Watch = of watcher_lines WatcherLineName.Watch

-- which commands are in the grammar
abbrev pub IsWatcherLine : WatcherOrder → Type 0
IsWatcherLine line = AreParts watcher_lines (watcher_parts line)

-- the one spelling of a command: its words with one blank between each two
unfoldable pub watcher_line_text : WatcherOrder → List ℕ
watcher_line_text line = text_of watcher_lines (watcher_parts line)

-- the command that bytes spell, if they spell one
unfoldable pub watcher_line_in : List ℕ → Option WatcherOrder
watcher_line_in bytes = value_in watcher_lines bytes

-- whether a command with this first word has bytes, which take memory
abbrev pub watcher_has_bytes : WatcherLineName → Bool
watcher_has_bytes WatcherLineName.Guard = true
watcher_has_bytes _ = false

-- whether the first word of a line begins a command that has bytes
abbrev pub watcher_begins_with_bytes : List ℕ → Bool
watcher_begins_with_bytes bytes = begins_as watcher_lines watcher_has_bytes (words_of bytes)

-- ---- commands of the operator

-- each command: its first word, and the kinds of its tokens
abbrev pub operator_form : OperatorLineName → Form OperatorLine
operator_form OperatorLineName.Offer =
    named (codes "offer") (hex ▸ ends) (λ transfer. OperatorLine.Order (OperatorOrder.Offer transfer))
operator_form OperatorLineName.Lay =
    named (codes "lay") (number ▸ hex ▸ ends) (λ coin leaf. OperatorLine.Order (OperatorOrder.Lay coin leaf))
operator_form OperatorLineName.Seal = named (codes "seal") ends (OperatorLine.Order OperatorOrder.Seal)
operator_form OperatorLineName.Bundle =
    named (codes "bundle") (number ▸ number ▸ ends) (λ coin tip. OperatorLine.Order (OperatorOrder.Bundle coin tip))
operator_form OperatorLineName.Prove =
    named (codes "prove") (number ▸ number ▸ ends) (λ coin block. OperatorLine.Order (OperatorOrder.Prove coin block))
operator_form OperatorLineName.Absences =
    named (codes "absences") (number ▸ number ▸ number ▸ ends)
    (λ coin after last. OperatorLine.Order (OperatorOrder.Absences coin after last))
operator_form OperatorLineName.Receipt = named (codes "receipt") (hex ▸ number ▸ ends) OperatorLine.Receipt
operator_form OperatorLineName.Migrate = named (codes "migrate") ends OperatorLine.Migrate

-- the table of the commands
abbrev pub operator_lines : Table OperatorLineName OperatorLine
operator_lines = record { names = map (λ row. (row.0.now, row.1)) OPERATOR_LINE_NAMES; row = operator_form }

-- a command as a row of the table, and its tokens
abbrev pub operator_parts : OperatorLine → Parts OperatorLineName OperatorLine operator_lines
operator_parts (OperatorLine.Order (OperatorOrder.Offer transfer)) = of operator_lines OperatorLineName.Offer transfer
operator_parts (OperatorLine.Order (OperatorOrder.Lay coin leaf)) = of operator_lines OperatorLineName.Lay coin leaf
operator_parts (OperatorLine.Order OperatorOrder.Seal) = of operator_lines OperatorLineName.Seal
operator_parts (OperatorLine.Order (OperatorOrder.Bundle coin tip)) =
    of operator_lines OperatorLineName.Bundle coin tip
operator_parts (OperatorLine.Order (OperatorOrder.Prove coin block)) =
    of operator_lines OperatorLineName.Prove coin block
operator_parts (OperatorLine.Order (OperatorOrder.Absences coin after last)) =
    of operator_lines OperatorLineName.Absences coin after last
operator_parts (OperatorLine.Receipt transfer due) = of operator_lines OperatorLineName.Receipt transfer due
operator_parts OperatorLine.Migrate = of operator_lines OperatorLineName.Migrate

-- which commands are in the grammar
abbrev pub IsOperatorLine : OperatorLine → Type 0
IsOperatorLine line = AreParts operator_lines (operator_parts line)

-- the one spelling of a command: its words with one blank between each two
unfoldable pub operator_line_text : OperatorLine → List ℕ
operator_line_text line = text_of operator_lines (operator_parts line)

-- the command that bytes spell, if they spell one
unfoldable pub operator_line_in : List ℕ → Option OperatorLine
operator_line_in bytes = value_in operator_lines bytes

-- whether a command with this first word has bytes, which take memory
abbrev pub operator_has_bytes : OperatorLineName → Bool
operator_has_bytes OperatorLineName.Offer = true
operator_has_bytes OperatorLineName.Lay = true
operator_has_bytes OperatorLineName.Receipt = true
operator_has_bytes _ = false

-- whether the first word of a line begins a command that has bytes
abbrev pub operator_begins_with_bytes : List ℕ → Bool
operator_begins_with_bytes bytes = begins_as operator_lines operator_has_bytes (words_of bytes)
