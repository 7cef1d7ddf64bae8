-- How a run ends whose text was written whole, or was stopped.
use Rattle.run_endings.proofs.Words.{◌≡◌, ℕ, List, [], ◌++◌, Option, refl, arith, ◌≢◌, common_steps, Wrote, WroteFront, Status, ReadFault, WriteFault, NoMemory, status_of_refusal, IsDoneUnlessFailed, Output, Stops, EndsAs}
use Rattle.std.proofs.lemmas.List.{append-nil}
use Rattle.plasma_outside.specs.declared.sink.SinkRefusal.{SinkRefusal}
use Rattle.plasma_outside.specs.declared.sink.SinkRefusal.TheVariants.{Failed, NoMemory as WantsMemory}

-- a text that was written whole ends a run with any status but one that stopped it
pub ends-whole :
    (output : Output) (before after : Option (List ℕ)) (failed : Type 0)
    → (output.status ≡ ReadFault → failed) → Wrote before after (output.answers ++ output.last)
    → EndsAs output output.status before after failed
ends-whole output before after failed why wrote = by-status output.answers output.last output.status why wrote
  where
    stops : (answers last : List ℕ) (status : Status) → status ≢ ReadFault
        → Wrote before after (answers ++ last)
        → Stops (record { status = status; answers = answers; last = last }) before after failed
    stops answers last status no_fault wrote = grind (arith, common_steps, append-nil) steps 20000

    by-status : (answers last : List ℕ) (status : Status) → (status ≡ ReadFault → failed)
        → Wrote before after (answers ++ last)
        → EndsAs (record { status = status; answers = answers; last = last }) status before after failed
    by-status answers last ReadFault why wrote = ((refl, wrote), why refl)
    by-status answers last WriteFault why wrote = stops answers last WriteFault (λ wrong. absurd (cc)) wrote
    by-status answers last NoMemory why wrote = stops answers last NoMemory (λ wrong. absurd (cc)) wrote
    by-status answers last status why wrote = (refl, wrote)

-- a run that was stopped
pub ends-stopped :
    (refusal : SinkRefusal) (output : Output) (before after : Option (List ℕ)) (failed : Type 0)
    → Stops output before after failed → EndsAs output (status_of_refusal refusal) before after failed
ends-stopped Failed output before after failed stops = stops
ends-stopped WantsMemory output before after failed stops = stops

-- a run that was stopped in its only line
pub stops-line :
    (status : Status) (line : List ℕ) (before after : Option (List ℕ))
    → status ≢ ReadFault → WroteFront before after line
    → Stops (record { status = status; answers = []; last = line }) before after ⊥
stops-line status line before after no_fault front = record { front = front; fault = λ is. absurd (no_fault is) }

-- a run whose output says that it was done, or what failed
pub ends-done : (output : Output) (status : Status) (before after : Option (List ℕ)) (failed : Type 0)
    → IsDoneUnlessFailed output.status → EndsAs output status before after failed → IsDoneUnlessFailed status
ends-done output status before after failed is ends = grind (arith, common_steps) steps 20000
