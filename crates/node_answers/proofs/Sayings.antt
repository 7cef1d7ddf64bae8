-- What an answer that is no refusal says, and what stopped a command without one.
use Rattle.std.proofs.Common.{◌≡◌, List, ℕ, Some, Result, Ok, Err, inr, refl, sym, ap}
use Rattle.std.specs.Prelude.{IsErrAnd}
use Rattle.node_journal.specs.declared.stop.Stop.{Stop}
use Rattle.node_journal.specs.declared.stop.Stop.TheVariants.{Closed, NoMemory, DeviceFault}
use Rattle.node_replies.specs.declared.reply.Reply.{Reply}
use Rattle.node_sessions.specs.declared.said.Said.{Said}
use Rattle.node_answers.specs.Answers.{said_by, StopsIn}

-- its text
pub no-refusal : (reply : Reply) (text : List ℕ) → ((cause : List ℕ) → reply ≡ Reply.Refused cause → ⊥)
    → said_by reply text ≡ Ok text
no-refusal (Reply.Refused cause) text none = absurd (none cause refl)
no-refusal reply text none = refl

-- a stop that is handed on
pub stops-in : (result : Result Said Stop) (why : Stop) → IsErrAnd result (λ stop. stop ≡ why)
    → StopsIn result (Some why)
stops-in (Ok told) why never = absurd never
stops-in (Err NoMemory) why is = inr (ap Some (sym is))
stops-in (Err Closed) why is = ap Some (sym is)
stops-in (Err DeviceFault) why is = ap Some (sym is)
