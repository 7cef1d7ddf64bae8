-- The lines of a schedule: which there are, the one spelling of each, and the line that bytes spell.
use Rattle.std.specs.Prelude.{ℕ, Bool, true, false, List, ◌++◌, map, codes, Option}
use Rattle.lms_sign.specs.declared.types.LmsTypes.{LmsTypes}
use Rattle.line_forms.specs.Forms.{Kind, Form, named, Table, Parts, these, of, ends, ◌▸◌, run_of, optional, form_of, mapped_form, mapped_values, AreParts, begins_as, text_of, value_in}
use Rattle.line_forms.specs.Words.{words_of}
use Rattle.line_forms.specs.Tokens.{number, number_within, name, declared_name, hex_of, key, to, bytes, shown, outcome, optional_number}
use Rattle.schedule_text.specs.declared.line.Line.{Line}
use Rattle.schedule_text.specs.declared.line.TheConstants.{MOST_BLOCKS, LAST_LEAF}
use Rattle.schedule_text.specs.declared.call_form.CallForm.{CallForm}
use Rattle.schedule_text.specs.declared.call_form.TheConstants.{ROOT_BYTES}
use Rattle.schedule_text.specs.declared.command.Command.{Command}
use Rattle.schedule_text.specs.declared.command.WalletCommand.{WalletCommand}
use Rattle.schedule_text.specs.declared.command.WatcherCommand.{WatcherCommand}
use Rattle.schedule_text.specs.declared.command.OperatorCommand.{OperatorCommand}
use Rattle.schedule_text.specs.declared.names.LineName.{LineName}
use Rattle.schedule_text.specs.declared.names.DeclarationName.{DeclarationName}
use Rattle.schedule_text.specs.declared.names.DeedName.{DeedName}
use Rattle.schedule_text.specs.declared.call_names.CallName.{CallName}
use Rattle.schedule_text.specs.declared.call_names.ChallengeName.{ChallengeName}
use Rattle.schedule_text.specs.declared.command_names.CommandName.{CommandName}
use Rattle.schedule_text.specs.declared.command_names.WalletCommandName.{WalletCommandName}
use Rattle.schedule_text.specs.declared.command_names.WatcherCommandName.{WatcherCommandName}
use Rattle.schedule_text.specs.declared.command_names.OperatorCommandName.{OperatorCommandName}
use Rattle.schedule_text.specs.declared.names.TheConstants.{LINE_NAMES}
use Rattle.schedule_text.specs.declared.call_names.TheConstants.{CALL_NAMES}
use Rattle.schedule_text.specs.declared.command_names.TheConstants.{COMMAND_NAMES}

-- ---- the types of a key

-- `<lms> <ots>`: the LMS type 5 or 6, and the one-time type 3 or 4
abbrev pub types : Kind LmsTypes
types =
    run_of (number_within 5 6 ▸ number_within 3 4 ▸ ends) (λ lms ots. record { lms = lms; ots = ots })
    (λ types. (types.lms, (types.ots, tt)))

-- `[<lms> <ots>]`: the types of a key, which may be missing at the end of a line
abbrev pub optional_types : Kind (Option LmsTypes)
optional_types = optional types

-- ---- the forms of a call, after `call <account>`

-- each form: its first word, and the kinds of its tokens
abbrev pub call_form : CallName → Form CallForm
call_form CallName.Deposit = named (codes "deposit") (number ▸ key ▸ ends) CallForm.Deposit
call_form CallName.Commit = named (codes "commit") (hex_of ROOT_BYTES ▸ ends) CallForm.Commit
call_form CallName.Start = named (codes "start") (number ▸ number ▸ ends) CallForm.Start
call_form CallName.Exit = named (codes "exit") (number ▸ number ▸ shown ▸ number ▸ bytes ▸ ends) CallForm.Exit
call_form (CallName.Challenge ChallengeName.After) =
    named (codes "after") (number ▸ number ▸ number ▸ bytes ▸ ends) CallForm.After
call_form (CallName.Challenge ChallengeName.Between) =
    named (codes "between") (number ▸ number ▸ number ▸ bytes ▸ ends) CallForm.Between
call_form (CallName.Challenge ChallengeName.Before) =
    named (codes "before") (number ▸ number ▸ number ▸ shown ▸ ends) CallForm.Before
call_form (CallName.Challenge ChallengeName.Respond) =
    named (codes "respond") (number ▸ number ▸ number ▸ number ▸ bytes ▸ ends) CallForm.Respond
call_form CallName.Finish = named (codes "finish") (number ▸ number ▸ ends) CallForm.Finish

-- the table of the forms
abbrev pub calls : Table CallName CallForm
calls = record { names = map (λ row. (row.0.now, row.1)) CALL_NAMES; row = call_form }

-- a form of a call as a row of the table, and its tokens
abbrev pub call_parts : CallForm → Parts CallName CallForm calls
call_parts (CallForm.Deposit amount key) = of calls CallName.Deposit amount key
call_parts (CallForm.Commit root) = of calls CallName.Commit root
call_parts (CallForm.Start coin block) = of calls CallName.Start coin block
call_parts (CallForm.Exit coin parent shown exit opening) = of calls CallName.Exit coin parent shown exit opening
call_parts (CallForm.After coin exit block opening) =
    of calls (CallName.Challenge ChallengeName.After) coin exit block opening
call_parts (CallForm.Between coin exit block opening) =
    of calls (CallName.Challenge ChallengeName.Between) coin exit block opening
call_parts (CallForm.Before coin exit block shown) =
    of calls (CallName.Challenge ChallengeName.Before) coin exit block shown
call_parts (CallForm.Respond coin exit challenged block opening) =
    of calls (CallName.Challenge ChallengeName.Respond) coin exit challenged block opening
call_parts (CallForm.Finish coin exit) = of calls CallName.Finish coin exit

-- which forms of a call are in the grammar
abbrev pub IsCallForm : CallForm → Type 0
IsCallForm form = AreParts calls (call_parts form)

-- whether a form challenges an exit or answers a challenge
abbrev pub is_challenge : CallForm → Bool
is_challenge (CallForm.After _ _ _ _) = true
is_challenge (CallForm.Between _ _ _ _) = true
is_challenge (CallForm.Before _ _ _ _) = true
is_challenge (CallForm.Respond _ _ _ _ _) = true
is_challenge _ = false

-- `<form>`: a form of a call
abbrev pub call : Kind CallForm
call = form_of calls call_parts

-- ---- commands

-- each command of a wallet: its first word, the wallet's name, and the kinds of the other tokens
abbrev pub wallet_form : WalletCommandName → Form Command
wallet_form WalletCommandName.Accept =
    named (codes "accept") (name ▸ bytes ▸ ends) (λ wallet bundle. Command.Wallet wallet (WalletCommand.Accept bundle))
wallet_form WalletCommandName.Send =
    named (codes "send") (name ▸ number ▸ to ▸ optional_number ▸ ends)
    (λ wallet coin to last. Command.Wallet wallet (WalletCommand.Send coin to last))
wallet_form WalletCommandName.Again =
    named (codes "again") (name ▸ number ▸ ends) (λ wallet coin. Command.Wallet wallet (WalletCommand.Again coin))
wallet_form WalletCommandName.Leave =
    named (codes "leave") (name ▸ number ▸ ends) (λ wallet coin. Command.Wallet wallet (WalletCommand.Leave coin))
wallet_form WalletCommandName.Reclaim =
    named (codes "reclaim") (name ▸ bytes ▸ ends)
    (λ wallet bundle. Command.Wallet wallet (WalletCommand.Reclaim bundle))
wallet_form WalletCommandName.Migrate =
    named (codes "migrate") (name ▸ ends) (λ wallet. Command.Wallet wallet WalletCommand.Migrate)

-- each command of a watcher: its first word, the watcher's name, and the kinds of the other tokens
abbrev pub watcher_form : WatcherCommandName → Form Command
watcher_form WatcherCommandName.Guard =
    named (codes "guard") (name ▸ bytes ▸ ends)
    (λ watcher bundle. Command.Watcher watcher (WatcherCommand.Guard bundle))
watcher_form WatcherCommandName.Release =
    named (codes "release") (name ▸ number ▸ number ▸ ends)
    (λ watcher coin tip. Command.Watcher watcher (WatcherCommand.Release coin tip))

-- each command of the operator: its first word, and the kinds of its tokens
abbrev pub operator_form : OperatorCommandName → Form Command
operator_form OperatorCommandName.Offer =
    named (codes "offer") (bytes ▸ ends) (λ transfer. Command.Operator (OperatorCommand.Offer transfer))
operator_form OperatorCommandName.Lay =
    named (codes "lay") (number ▸ bytes ▸ ends) (λ coin leaf. Command.Operator (OperatorCommand.Lay coin leaf))
operator_form OperatorCommandName.Seal = named (codes "seal") ends (Command.Operator OperatorCommand.Seal)
operator_form OperatorCommandName.Bundle =
    named (codes "bundle") (number ▸ number ▸ ends) (λ coin tip. Command.Operator (OperatorCommand.Bundle coin tip))
operator_form OperatorCommandName.Prove =
    named (codes "prove") (number ▸ number ▸ ends) (λ coin block. Command.Operator (OperatorCommand.Prove coin block))
operator_form OperatorCommandName.Absences =
    named (codes "absences") (number ▸ number ▸ number ▸ ends)
    (λ coin after last. Command.Operator (OperatorCommand.Absences coin after last))

-- each command
abbrev pub command_form : CommandName → Form Command
command_form (CommandName.Wallet own) = wallet_form own
command_form (CommandName.Watcher own) = watcher_form own
command_form (CommandName.Operator own) = operator_form own
command_form CommandName.Watch = named (codes "watch") (name ▸ ends) Command.Watch
command_form CommandName.Open = named (codes "open") (name ▸ ends) Command.Open

-- the table of the commands
abbrev pub commands : Table CommandName Command
commands = record { names = map (λ row. (row.0.now, row.1)) COMMAND_NAMES; row = command_form }

-- a command as a row of the table, and its tokens
abbrev pub command_parts : Command → Parts CommandName Command commands
command_parts (Command.Wallet wallet (WalletCommand.Accept bundle)) =
    of commands (CommandName.Wallet WalletCommandName.Accept) wallet bundle
command_parts (Command.Wallet wallet (WalletCommand.Send coin to last)) =
    of commands (CommandName.Wallet WalletCommandName.Send) wallet coin to last
command_parts (Command.Wallet wallet (WalletCommand.Again coin)) =
    of commands (CommandName.Wallet WalletCommandName.Again) wallet coin
command_parts (Command.Wallet wallet (WalletCommand.Leave coin)) =
    of commands (CommandName.Wallet WalletCommandName.Leave) wallet coin
command_parts (Command.Wallet wallet (WalletCommand.Reclaim bundle)) =
    of commands (CommandName.Wallet WalletCommandName.Reclaim) wallet bundle
command_parts (Command.Wallet wallet WalletCommand.Migrate) =
    of commands (CommandName.Wallet WalletCommandName.Migrate) wallet
command_parts (Command.Watcher watcher (WatcherCommand.Guard bundle)) =
    of commands (CommandName.Watcher WatcherCommandName.Guard) watcher bundle
command_parts (Command.Watcher watcher (WatcherCommand.Release coin tip)) =
    of commands (CommandName.Watcher WatcherCommandName.Release) watcher coin tip
command_parts (Command.Operator (OperatorCommand.Offer transfer)) =
    of commands (CommandName.Operator OperatorCommandName.Offer) transfer
command_parts (Command.Operator (OperatorCommand.Lay coin leaf)) =
    of commands (CommandName.Operator OperatorCommandName.Lay) coin leaf
command_parts (Command.Operator OperatorCommand.Seal) = of commands (CommandName.Operator OperatorCommandName.Seal)
command_parts (Command.Operator (OperatorCommand.Bundle coin tip)) =
    of commands (CommandName.Operator OperatorCommandName.Bundle) coin tip
command_parts (Command.Operator (OperatorCommand.Prove coin block)) =
    of commands (CommandName.Operator OperatorCommandName.Prove) coin block
command_parts (Command.Operator (OperatorCommand.Absences coin after last)) =
    of commands (CommandName.Operator OperatorCommandName.Absences) coin after last
command_parts (Command.Watch node) = of commands CommandName.Watch node
command_parts (Command.Open node) = of commands CommandName.Open node

-- `<command>`: a command of a node
abbrev pub command : Kind Command
command = form_of commands command_parts

-- the name of the node whose command it is; that of the operator is `op`
abbrev pub node_of : Command → List ℕ
node_of (Command.Wallet wallet own) = wallet
node_of (Command.Watcher watcher own) = watcher
node_of (Command.Operator own) = codes "op"
node_of (Command.Watch node) = node
node_of (Command.Open node) = node

-- ---- the lines

-- each line that declares a name: its first word, and the kinds of its tokens
abbrev pub declaration_form : DeclarationName → Form Line
declaration_form DeclarationName.Wallet =
    named (codes "wallet") (declared_name ▸ number ▸ number ▸ optional_types ▸ ends) Line.Wallet
declaration_form DeclarationName.Watcher = named (codes "watcher") (declared_name ▸ number ▸ ends) Line.Watcher
declaration_form DeclarationName.Rogue =
    named (codes "rogue") (declared_name ▸ number ▸ number ▸ optional_types ▸ ends) Line.Rogue

-- each line of what is done with a declared name, but for commands: its first word, and the kinds of its tokens
abbrev pub deed_form : DeedName → Form Line
deed_form DeedName.Deposit = named (codes "deposit") (name ▸ number ▸ ends) Line.Deposit
deed_form DeedName.Enter = named (codes "enter") (name ▸ number ▸ ends) Line.Enter
deed_form DeedName.Sign =
    named (codes "sign") (name ▸ number_within 0 LAST_LEAF ▸ number ▸ number ▸ to ▸ optional_number ▸ ends) Line.Sign
deed_form DeedName.Crash = named (codes "crash") (name ▸ outcome ▸ ends) Line.Crash
deed_form DeedName.Cut = named (codes "cut") (name ▸ number ▸ outcome ▸ command ▸ ends) Line.Cut

-- each line
abbrev pub line_form : LineName → Form Line
line_form LineName.Chain = named (codes "chain") (number ▸ number ▸ number_within 1 MOST_BLOCKS ▸ ends) Line.Chain
line_form LineName.Fund = named (codes "fund") (number ▸ number ▸ ends) Line.Fund
line_form LineName.Tick = named (codes "tick") (number ▸ ends) Line.Tick
line_form LineName.Money = named (codes "money") (number ▸ ends) Line.Money
line_form LineName.Call = named (codes "call") (number ▸ call ▸ ends) Line.Call
line_form (LineName.Declaration own) = declaration_form own
line_form (LineName.Deed own) = deed_form own
line_form (LineName.Command own) = mapped_form Line.Command (command_form own)

-- the first words of lines: a line's own, and those of commands
abbrev pub line_names : List (List ℕ × LineName)
line_names =
    map (λ row. (row.0.now, row.1)) LINE_NAMES
    ++ map (λ (row : List ℕ × CommandName). (row.0, LineName.Command row.1)) commands.names

-- the table of the lines
abbrev pub lines : Table LineName Line
lines = record { names = line_names; row = line_form }

-- a command's row and tokens as those of a line
abbrev pub command_line : Parts CommandName Command commands → Parts LineName Line lines
command_line (these own values) = these (LineName.Command own) (mapped_values Line.Command (command_form own) values)

-- a line as a row of the table, and its tokens
abbrev pub line_parts : Line → Parts LineName Line lines
line_parts (Line.Chain tag operator most) = of lines LineName.Chain tag operator most
line_parts (Line.Wallet name account seed types) =
    of lines (LineName.Declaration DeclarationName.Wallet) name account seed types
line_parts (Line.Watcher name account) = of lines (LineName.Declaration DeclarationName.Watcher) name account
line_parts (Line.Rogue name account seed types) =
    of lines (LineName.Declaration DeclarationName.Rogue) name account seed types
line_parts (Line.Fund account amount) = of lines LineName.Fund account amount
line_parts (Line.Tick time) = of lines LineName.Tick time
line_parts (Line.Money account) = of lines LineName.Money account
line_parts (Line.Deposit wallet amount) = of lines (LineName.Deed DeedName.Deposit) wallet amount
line_parts (Line.Call account form) = of lines LineName.Call account form
line_parts (Line.Enter node number) = of lines (LineName.Deed DeedName.Enter) node number
line_parts (Line.Command own) = command_line (command_parts own)
line_parts (Line.Sign rogue leaf coin parent to last) =
    of lines (LineName.Deed DeedName.Sign) rogue leaf coin parent to last
line_parts (Line.Crash node outcome) = of lines (LineName.Deed DeedName.Crash) node outcome
line_parts (Line.Cut node calls outcome own) = of lines (LineName.Deed DeedName.Cut) node calls outcome own

-- whether a line declares a name, or is of what a named one does; the others are of the contract alone
abbrev pub is_of_nodes : Line → Bool
is_of_nodes (Line.Chain _ _ _) = false
is_of_nodes (Line.Fund _ _) = false
is_of_nodes (Line.Tick _) = false
is_of_nodes (Line.Money _) = false
is_of_nodes (Line.Call _ _) = false
is_of_nodes _ = true

-- ---- bytes

-- whether a command with this first word has a name or bytes, which take memory
abbrev pub command_has_bytes : CommandName → Bool
command_has_bytes (CommandName.Operator OperatorCommandName.Seal) = false
command_has_bytes (CommandName.Operator OperatorCommandName.Bundle) = false
command_has_bytes (CommandName.Operator OperatorCommandName.Prove) = false
command_has_bytes (CommandName.Operator OperatorCommandName.Absences) = false
command_has_bytes _ = true

-- whether a line with this first word may have a name or bytes
abbrev pub has_bytes : LineName → Bool
has_bytes LineName.Chain = false
has_bytes LineName.Fund = false
has_bytes LineName.Tick = false
has_bytes LineName.Money = false
has_bytes (LineName.Command own) = command_has_bytes own
has_bytes _ = true

-- whether the first word of a line begins a form that may have a name or bytes
abbrev pub begins_with_bytes : List ℕ → Bool
begins_with_bytes bytes = begins_as lines has_bytes (words_of bytes)

-- which lines are in the grammar
abbrev pub IsLine : Line → Type 0
IsLine line = AreParts lines (line_parts line)

-- the one spelling of a line: its words with one blank between each two
unfoldable pub line_text : Line → List ℕ
line_text line = text_of lines (line_parts line)

-- the line that bytes spell, if they spell one
unfoldable pub line_in : List ℕ → Option Line
line_in bytes = value_in lines bytes
