-- What is printed is read, and what is read is printed so.
use Rattle.std.proofs.Common.{◌≡◌, ℕ, Bool, true, false, List, Option, Some, refl, rules}
use Rattle.lms_sign.specs.declared.types.LmsTypes.{LmsTypes}
use Rattle.line_forms.specs.Forms.{ends, ◌▸◌, value_in, text_of}
use Rattle.line_forms.specs.Tokens.{number_within}
use Rattle.line_forms.specs.Laws.{IsKind, IsRow, IsMade, IsTable}
use Rattle.line_forms.proofs.FormLaws.{form_of-is, run_of-is, optional-is, whole-words, words-whole}
use Rattle.line_forms.proofs.TokenLaws.{kinds, number_within-is}
use Rattle.schedule_text.specs.declared.line.Line.{Line}
use Rattle.schedule_text.specs.declared.call_form.CallForm.{CallForm}
use Rattle.schedule_text.specs.declared.command.Command.{Command}
use Rattle.schedule_text.specs.declared.command.WalletCommand.{WalletCommand}
use Rattle.schedule_text.specs.declared.command.WatcherCommand.{WatcherCommand}
use Rattle.schedule_text.specs.declared.command.OperatorCommand.{OperatorCommand}
use Rattle.schedule_text.specs.declared.names.LineName.{LineName}
use Rattle.schedule_text.specs.declared.names.DeclarationName.{DeclarationName}
use Rattle.schedule_text.specs.declared.names.DeedName.{DeedName}
use Rattle.schedule_text.specs.declared.call_names.CallName.{CallName}
use Rattle.schedule_text.specs.declared.call_names.ChallengeName.{ChallengeName}
use Rattle.schedule_text.specs.declared.command_names.CommandName.{CommandName}
use Rattle.schedule_text.specs.declared.command_names.WalletCommandName.{WalletCommandName}
use Rattle.schedule_text.specs.declared.command_names.WatcherCommandName.{WatcherCommandName}
use Rattle.schedule_text.specs.declared.command_names.OperatorCommandName.{OperatorCommandName}
use Rattle.schedule_text.specs.Grammar.{types, optional_types, calls, call_parts, call, commands, command_parts, command, lines, line_parts, line_text, line_in, IsLine}

-- ---- the types of a key

types-is : (closed : Bool) → IsKind LmsTypes types closed
types-is closed =
    run_of-is closed (number_within 5 6 ▸ number_within 3 4 ▸ ends) (λ lms ots. record { lms = lms; ots = ots })
    (λ types. (types.lms, (types.ots, tt)))
    (number_within-is 5 6 true, (number_within-is 3 4 closed, tt)) (λ types. refl) (λ values. refl)

optional_types-is : IsKind (Option LmsTypes) optional_types false
optional_types-is = optional-is types (types-is false) (λ types. refl)

-- ---- calls

call-row : (name : CallName) → IsRow false calls call_parts name
call-row (CallName.Challenge ChallengeName.After) = search kinds
call-row _ = search kinds

call-made : (form : CallForm) → IsMade calls call_parts form
call-made (CallForm.Deposit amount key) = refl
call-made _ = refl

call_table : IsTable false CallName CallForm calls call_parts
call_table = record { names = search rules; rows = call-row; made_of = call-made }

call-is : IsKind CallForm call false
call-is = form_of-is false calls call_parts call_table

-- ---- commands

command-row : (name : CommandName) → IsRow false commands command_parts name
command-row (CommandName.Wallet WalletCommandName.Accept) = search kinds
command-row (CommandName.Watcher WatcherCommandName.Guard) = search kinds
command-row (CommandName.Operator OperatorCommandName.Offer) = search kinds
command-row _ = search kinds

command-made : (own : Command) → IsMade commands command_parts own
command-made (Command.Wallet wallet (WalletCommand.Accept bundle)) = refl
command-made (Command.Watcher watcher (WatcherCommand.Guard bundle)) = refl
command-made (Command.Operator (OperatorCommand.Offer transfer)) = refl
command-made _ = refl

command_table : IsTable false CommandName Command commands command_parts
command_table = record { names = search rules; rows = command-row; made_of = command-made }

command-is : IsKind Command command false
command-is = form_of-is false commands command_parts command_table

-- ---- lines

ruleset line_kinds = (kinds, optional_types-is, call-is, command-is)

line-row : (name : LineName) → IsRow false lines line_parts name
line-row (LineName.Declaration DeclarationName.Wallet) = search line_kinds
line-row (LineName.Deed DeedName.Cut) = search line_kinds
line-row (LineName.Command (CommandName.Wallet WalletCommandName.Accept)) = search line_kinds
line-row (LineName.Command (CommandName.Watcher WatcherCommandName.Guard)) = search line_kinds
line-row (LineName.Command (CommandName.Operator OperatorCommandName.Offer)) = search line_kinds
line-row _ = search line_kinds

line-made : (line : Line) → IsMade lines line_parts line
line-made (Line.Command (Command.Wallet wallet (WalletCommand.Accept bundle))) = refl
line-made (Line.Command (Command.Watcher watcher (WatcherCommand.Guard bundle))) = refl
line-made (Line.Command (Command.Operator (OperatorCommand.Offer transfer))) = refl
line-made _ = refl

pub line_table : IsTable false LineName Line lines line_parts
line_table = record { names = search rules; rows = line-row; made_of = line-made }

-- ---- bytes

pub line_in-line_text : (line : Line) → IsLine line → line_in (line_text line) ≡ Some line
unfolding line_in line_text value_in text_of
line_in-line_text = whole-words lines line_parts line_table

pub line_text-line_in : (bytes : List ℕ) (line : Line) → line_in bytes ≡ Some line
    → (bytes ≡ line_text line) × IsLine line
unfolding line_in line_text value_in text_of
line_text-line_in = words-whole lines line_parts line_table
