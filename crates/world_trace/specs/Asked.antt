-- What a call that is entered would be to verdicts, before its answer is known.
use Rattle.std.specs.Prelude.{◌≡◌, Bool, true, false, List, Option, Some, None}
use Rattle.plasma_tx.specs.{declared.call.RootCall.{RootCall}, declared.answer.Answer.{Answer}, Views.{exit_at}, Shown.{Tests, Rules}, Table.{is_accepted}}
use Rattle.coin_verdicts.specs.{declared.fact.Fact.{Fact}, Facts.{ended, IsFactOfCall}}

-- the fact is that of the call, where it is accepted behind these; a `finish` is taken as one that pays nothing
abbrev pub IsAsked : List RootCall → RootCall → Fact → Type 0
IsAsked log (RootCall.Finish account coin block) fact = fact ≡ ended (exit_at log coin block) coin block false
IsAsked log call fact = (tests : Tests) (rules : Rules) → IsFactOfCall tests rules log call fact

-- what verdicts need to know of a call that was answered so, behind these; nothing of one that was refused
abbrev pub IsTold : Tests → Rules → List RootCall → RootCall → Answer → Option Fact → Type 0
IsTold tests rules log call answer None = is_accepted answer ≡ false
IsTold tests rules log call answer (Some fact) =
    (is_accepted answer ≡ true) × IsFactOfCall tests rules log call fact

-- the fact of an exit that ended, which was paid or not; another fact stays
abbrev pub with_paid : Bool → Fact → Fact
with_paid is_paid (Fact.Ends coin block account paid) = Fact.Ends coin block account is_paid
with_paid is_paid fact = fact

-- the fact of a call that was accepted, with whether it was paid where it is a `finish`
abbrev pub told : Bool → RootCall → Fact → Fact
told is_paid (RootCall.Finish account coin block) fact = with_paid is_paid fact
told is_paid call fact = fact
