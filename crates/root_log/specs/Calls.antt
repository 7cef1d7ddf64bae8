-- The calls that lines of a schedule make, and the line of a call.
use Rattle.std.specs.Prelude.{ℕ, Option, Some, None, option_map, option_and_then}
use Rattle.plasma_tx.specs.declared.opening.RawOpening.{RawOpening}
use Rattle.plasma_tx.specs.declared.call.Shown.{Shown}
use Rattle.plasma_tx.specs.declared.call.RootCall.{RootCall}
use Rattle.plasma_tx.specs.Views.{block_of}
use Rattle.schedule_text.specs.declared.line.Line.{Line}
use Rattle.schedule_text.specs.declared.call_form.CallForm.{CallForm}
use Rattle.line_forms.specs.declared.tokens.HexOrName.{HexOrName}
use Rattle.line_forms.specs.declared.tokens.HexOrItem.{HexOrItem}
use Rattle.line_forms.specs.declared.tokens.ShownToken.{ShownToken}

-- ---- the call of a line

-- the opening of a block that a bytes token spells; a mail item is none
abbrev pub opening_of : ℕ → HexOrItem → Option RawOpening
opening_of block (HexOrItem.Hex bytes) = Some (record { block = block; bytes = bytes })
opening_of block (HexOrItem.Item line) = None

-- what a shown token shows of a coin at a block
abbrev pub shown_of : ℕ → ShownToken → Option Shown
shown_of block ShownToken.Deposit = Some (Shown.Deposit block)
shown_of block (ShownToken.Bytes bytes) = option_map Shown.Spend (opening_of block bytes)

-- the call of an account that a form spells; a name is no key
abbrev pub call_of : ℕ → CallForm → Option RootCall
call_of account (CallForm.Deposit amount (HexOrName.Hex key)) = Some (RootCall.Deposit account amount key)
call_of account (CallForm.Deposit amount (HexOrName.Name who)) = None
call_of account (CallForm.Commit root) = Some (RootCall.Commit account root)
call_of account (CallForm.Start coin block) = Some (RootCall.StartDeposit account coin block)
call_of account (CallForm.Exit coin parent shown exit bytes) =
    option_and_then (λ from. option_map (RootCall.StartSpend account coin from) (opening_of exit bytes))
    (shown_of parent shown)
call_of account (CallForm.After coin exit block bytes) =
    option_map (RootCall.After account coin exit) (opening_of block bytes)
call_of account (CallForm.Between coin exit block bytes) =
    option_map (RootCall.Between account coin exit) (opening_of block bytes)
call_of account (CallForm.Before coin exit block shown) =
    option_map (RootCall.Before account coin exit) (shown_of block shown)
call_of account (CallForm.Respond coin exit challenged block bytes) =
    option_map (RootCall.Respond account coin exit challenged) (opening_of block bytes)
call_of account (CallForm.Finish coin exit) = Some (RootCall.Finish account coin exit)

-- the call of a line; a line of another kind has none
abbrev pub call_of_line : Line → Option RootCall
call_of_line (Line.Fund account amount) = Some (RootCall.Fund account amount)
call_of_line (Line.Tick time) = Some (RootCall.Tick time)
call_of_line (Line.Call account form) = call_of account form
call_of_line _ = None

-- ---- the line of a call

-- what is shown as a token; the block stands in the line for itself
abbrev pub shown_token : Shown → ShownToken
shown_token (Shown.Deposit block) = ShownToken.Deposit
shown_token (Shown.Spend opening) = ShownToken.Bytes (HexOrItem.Hex opening.bytes)

-- the line of a call
abbrev pub line_of : RootCall → Line
line_of (RootCall.Fund account amount) = Line.Fund account amount
line_of (RootCall.Tick time) = Line.Tick time
line_of (RootCall.Deposit account amount key) = Line.Call account (CallForm.Deposit amount (HexOrName.Hex key))
line_of (RootCall.Commit account root) = Line.Call account (CallForm.Commit root)
line_of (RootCall.StartDeposit account coin block) = Line.Call account (CallForm.Start coin block)
line_of (RootCall.StartSpend account coin parent exit) =
    Line.Call account (CallForm.Exit coin (block_of parent) (shown_token parent) exit.block (HexOrItem.Hex exit.bytes))
line_of (RootCall.After account coin exit spend) =
    Line.Call account (CallForm.After coin exit spend.block (HexOrItem.Hex spend.bytes))
line_of (RootCall.Between account coin exit spend) =
    Line.Call account (CallForm.Between coin exit spend.block (HexOrItem.Hex spend.bytes))
line_of (RootCall.Before account coin exit shown) =
    Line.Call account (CallForm.Before coin exit (block_of shown) (shown_token shown))
line_of (RootCall.Respond account coin exit challenged spend) =
    Line.Call account (CallForm.Respond coin exit challenged spend.block (HexOrItem.Hex spend.bytes))
line_of (RootCall.Finish account coin exit) = Line.Call account (CallForm.Finish coin exit)
