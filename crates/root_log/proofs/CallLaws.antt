-- Calls and their lines: each is made of the other.
use Rattle.std.proofs.Common.{◌≡◌, Some, refl, subst}
use Rattle.plasma_tx.specs.declared.call.Shown.{Shown}
use Rattle.plasma_tx.specs.declared.call.RootCall.{RootCall}
use Rattle.schedule_text.specs.declared.line.Line.{Line}
use Rattle.schedule_text.specs.declared.call_form.CallForm.{CallForm}
use Rattle.line_forms.specs.declared.tokens.HexOrName.{HexOrName}
use Rattle.line_forms.specs.declared.tokens.HexOrItem.{HexOrItem}
use Rattle.line_forms.specs.declared.tokens.ShownToken.{ShownToken}
use Rattle.root_log.specs.Calls.{call_of_line, line_of}

-- the line of a call is that call
pub call_of_line-line_of : (call : RootCall) → call_of_line (line_of call) ≡ Some call
call_of_line-line_of (RootCall.StartSpend account coin (Shown.Deposit block) exit) = refl
call_of_line-line_of (RootCall.StartSpend account coin (Shown.Spend opening) exit) = refl
call_of_line-line_of (RootCall.Before account coin exit (Shown.Deposit block)) = refl
call_of_line-line_of (RootCall.Before account coin exit (Shown.Spend opening)) = refl
call_of_line-line_of _ = refl

-- a line that makes a call is the line of the call that it makes
is_line_of : (line : Line) (made call : RootCall) → line ≡ line_of made → Some made ≡ Some call → line ≡ line_of call
is_line_of line made call e h =
    let same : made ≡ call = cc h in
    subst (λ (call : RootCall). line ≡ line_of call) same e

-- a line that is a call is the line of that call
pub line_of-call_of_line : (line : Line) (call : RootCall) → call_of_line line ≡ Some call → line ≡ line_of call
line_of-call_of_line (Line.Fund account amount) call h = is_line_of _ _ call refl h
line_of-call_of_line (Line.Tick time) call h = is_line_of _ _ call refl h
line_of-call_of_line (Line.Call account (CallForm.Deposit amount (HexOrName.Hex key))) call h =
    is_line_of _ _ call refl h
line_of-call_of_line (Line.Call account (CallForm.Commit root)) call h = is_line_of _ _ call refl h
line_of-call_of_line (Line.Call account (CallForm.Start coin block)) call h = is_line_of _ _ call refl h
line_of-call_of_line
    (Line.Call account (CallForm.Exit coin parent ShownToken.Deposit exit (HexOrItem.Hex bytes))) call h =
    is_line_of _ _ call refl h
line_of-call_of_line
    (Line.Call account (CallForm.Exit coin parent (ShownToken.Bytes (HexOrItem.Hex shown)) exit (HexOrItem.Hex bytes)))
    call h =
    is_line_of _ _ call refl h
line_of-call_of_line (Line.Call account (CallForm.After coin exit block (HexOrItem.Hex bytes))) call h =
    is_line_of _ _ call refl h
line_of-call_of_line (Line.Call account (CallForm.Between coin exit block (HexOrItem.Hex bytes))) call h =
    is_line_of _ _ call refl h
line_of-call_of_line (Line.Call account (CallForm.Before coin exit block ShownToken.Deposit)) call h =
    is_line_of _ _ call refl h
line_of-call_of_line
    (Line.Call account (CallForm.Before coin exit block (ShownToken.Bytes (HexOrItem.Hex bytes)))) call h =
    is_line_of _ _ call refl h
line_of-call_of_line (Line.Call account (CallForm.Respond coin exit challenged block (HexOrItem.Hex bytes))) call h =
    is_line_of _ _ call refl h
line_of-call_of_line (Line.Call account (CallForm.Finish coin exit)) call h = is_line_of _ _ call refl h
line_of-call_of_line _ call h = cc h
