-- What a step of the world answers.
use Rattle.std.specs.Prelude.{◌≡◌, ◌+◌, ◌∷◌, ℕ, Bool, true, false, List, [], length, Option, Some, None, Result, Ok, Err}
use Rattle.std.specs.Option.{option_map_or}
use Rattle.schedule_text.specs.declared.line.Line.{Line}
use Rattle.world_rules.specs.declared.trace.TraceLine.{TraceLine}
use Rattle.world_rules.specs.Steps.{is_mail_full, TraceEntry, Run, run_of}
use Rattle.world_scene.specs.declared.refusal.StepRefusal.{StepRefusal}
use Rattle.world_scene.specs.declared.refusal.StepRefusal.TheVariants.{BadLine}
use Rattle.world_scene.specs.Scenes.{SceneState}
use Rattle.world_scene.specs.Moves.{Moves}
use Rattle.world_core.specs.Worlds.{RunningState, IsAfter}

-- the name of the wallet that a line declares; empty for another line
abbrev pub name_in : Line → List ℕ
name_in (Line.Wallet name account seed types) = name
name_in line = []

-- an entry of a run, which has so many before it, as a line of the trace
abbrev pub told_of : ℕ → TraceEntry → TraceLine
told_of before entry =
    record { line = before + 1; done = entry.done; answer = entry.reply; made = entry.made }

-- the mail of the world that a run leaves is full
abbrev pub is_full : Run → Bool
is_full run = option_map_or is_mail_full run.world false

-- the world is what these lines and one more leave, whose line of the trace is this one; its mail isn't full
pub record IsStep {H : Type 0} (dig : List ℕ → List ℕ) (lines : List Line) (line : Line) (told : TraceLine)
    (state : RunningState H) : Type 0 where
  pub after : IsAfter dig (line ∷ lines) state
  pub entry : TraceEntry
  pub earlier : List TraceEntry
  pub entries : after.run.entries ≡ entry ∷ earlier
  pub is : told ≡ told_of (length earlier) entry
  pub fits : is_full after.run ≡ false

-- one more line would leave a run whose mail is full
abbrev pub WouldFill : (List ℕ → List ℕ) → List Line → Line → Type 0
WouldFill dig lines line = (run : Run) × (run_of dig (line ∷ lines) ≡ Some run) × (is_full run ≡ true)

-- a step that gave this ends the world: a line that breaks a rule doesn't
abbrev pub is_ending : Result TraceLine StepRefusal → Bool
is_ending (Ok told) = false
is_ending (Err BadLine) = false
is_ending (Err why) = true

-- what a line did to the nodes' disks, once the chain has begun; it stays begun
abbrev pub MovesIn : {H : Type 0} → (H → List ℕ → List ℕ) → Option (SceneState H) → Line → Option (SceneState H)
    → Type 0
MovesIn digest None line new = Unit {0}
MovesIn digest (Some old) line None = ⊥
MovesIn digest (Some old) line (Some new) = Moves digest old line new
