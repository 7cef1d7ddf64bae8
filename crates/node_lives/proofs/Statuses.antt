-- The status of a run by the output that it ends as.
use Rattle.std.proofs.Common.{◌≡◌, ◌⊎◌, ℕ, List, Option, Result, Ok, arith}
use Rattle.std.proofs.lemmas.Grind.{common_steps}
use Rattle.gate_journal.specs.declared.refusal.JournalRefusal.{JournalRefusal}
use Rattle.gate_journal.specs.declared.refusal.JournalRefusal.TheVariants.{NotJournal as PlaceRefusal}
use Rattle.gate_journal.specs.declared.refusal.InitRefusal.{InitRefusal}
use Rattle.streamed_lines.specs.declared.ending.Ending.{Ending}
use Rattle.run_endings.specs.declared.status.Status.{Status}
use Rattle.run_endings.specs.declared.status.Status.TheVariants.{Done, WriteFault, NoMemory, NotJournal}
use Rattle.run_endings.specs.Outputs.{Output, EndsAs}
use Rattle.plasma_tx.specs.declared.call.RootCall.{RootCall}
use Rattle.streamed_lines.specs.Streams.{Rules}
use Rattle.node_sessions.specs.Sessions.{SessionState}
use Rattle.run_endings.specs.Endings.{status_of}
use Rattle.node_runs.specs.Endings.{refused_output, init_output}
use Rattle.node_runs.specs.Sessions.{Outside, RunsSession}
use Rattle.node_runs.specs.Runs.{RefusedRun}

-- it is the output's, or the text was stopped
pub ends-by : (output : Output) (status : Status) (before after : Option (List ℕ)) (failed : Type 0)
    → EndsAs output status before after failed
    → (output.status ≡ status) ⊎ (status ≡ WriteFault) ⊎ (status ≡ NoMemory)
ends-by output status before after failed ends = grind (arith, common_steps) steps 20000

-- it isn't one that the output hasn't and no stop gives
pub ends-other : (output : Output) (status wanted : Status) (before after : Option (List ℕ)) (failed : Type 0)
    → EndsAs output status before after failed → (output.status ≡ wanted → ⊥) → (WriteFault ≡ wanted → ⊥)
    → (NoMemory ≡ wanted → ⊥) → status ≡ wanted → ⊥
ends-other output status wanted before after failed ends other sink memory is =
    grind (arith, common_steps, ends-by) steps 20000

session-other : (ending : Ending (List ℕ)) → status_of ending ≡ NotJournal → ⊥
session-other ending is = grind (arith, common_steps) steps 20000

-- an opening that isn't refused for a place
pub refused-other : (why : JournalRefusal) → ((place : ℕ) → why ≡ PlaceRefusal place → ⊥)
    → (refused_output why).status ≡ NotJournal → ⊥
refused-other why never is = grind (arith, common_steps) steps 20000

-- an init that is refused isn't done
pub init-done : (answer : Result Unit InitRefusal) → (init_output answer).status ≡ Done → answer ≡ Ok tt
init-done answer is = grind (arith, common_steps) steps 20000

-- no session ends as one of disks that are no journal
module _ {A L : Type 0} {rules : Rules (SessionState A) (List ℕ)} {command_in : List ℕ → Option L} {found : A}
    {Left : A → Type 0} {Faulted Unanswered : List RootCall → A → L → Type 0} {outside : Outside} {failed : Type 0}
    {status : Status} where
  pub session-runs : RunsSession rules command_in found Left Faulted Unanswered outside failed status
      → status ≡ NotJournal → ⊥
  session-runs ran = grind (arith, common_steps, ends-other, session-other) steps 20000

-- nor does a refusal that isn't for a place
pub refusal-runs : (why : JournalRefusal) (outside : Outside) (status : Status) → RefusedRun why outside status
    → ((place : ℕ) → why ≡ PlaceRefusal place → ⊥) → status ≡ NotJournal → ⊥
refusal-runs why outside status refused never =
    ends-other (refused_output why) status NotJournal outside.taken outside.after ⊥ refused.ends
    (refused-other why never) (λ wrong. cc) (λ wrong. cc)
