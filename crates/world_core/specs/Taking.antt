-- What a line does to the world in memory, but for its mail item; and what its mail item does.
use Rattle.std.specs.Prelude.{◌≡◌, ◌+◌, ℕ, true, List, [], ◌∷◌, ◌++◌, length, Option, Some, None, option_map}
use Rattle.schedule_text.specs.declared.line.Line.{Line}
use Rattle.world_rules.specs.World.{World}
use Rattle.world_rules.specs.Declarations.{keeps_rules}
use Rattle.world_rules.specs.Steps.{effect_of}
use Rattle.world_trace.specs.declared.event.LineEvent.{LineEvent}
use Rattle.world_scene.specs.declared.answer.LineAnswer.{LineAnswer}
use Rattle.world_scene.specs.Scenes.{SceneState, Shown, shown_of, world_of}
use Rattle.world_scene.specs.Steps.{answered}
use Rattle.world_scene.specs.Events.{TellsInRuns}
use Rattle.world_core.specs.Worlds.{RunningState, world_in}

-- what a line shows, where the definitions say that it does anything; the first begins the chain
abbrev pub shows_in : (List ℕ → List ℕ) → Option World → Line → Option Shown
shows_in dig world line = option_map shown_of (effect_of dig world line)

-- the event in memory is that of what a line does; the first line's is none
abbrev pub TellsLine : (List ℕ → List ℕ) → Option World → Line → LineEvent → Type 0
TellsLine dig None line event = event ≡ LineEvent.Idle
TellsLine dig (Some world) line event = TellsInRuns dig world line event

-- a line that keeps the rules did what it does, and was answered so
pub record Takes {H : Type 0} (dig : List ℕ → List ℕ) (old : RunningState H) (line : Line) (answer : LineAnswer)
    (new : RunningState H) : Type 0 where
  pub scene : SceneState H
  pub is : new ≡ record old { scene = Some scene }
  pub hash : scene.hash ≡ old.hash
  pub keeps : keeps_rules (world_in old) line ≡ true
  pub shows : shows_in dig (world_in old) line ≡ Some (answered answer (world_of scene))
  pub tells : TellsLine dig (world_in old) line answer.event

-- the world with one more mail item
abbrev pub scene_with : {H : Type 0} → List ℕ → SceneState H → SceneState H
scene_with item scene = record scene { mail = scene.mail ++ item ∷ [] }

abbrev pub with_item : {H : Type 0} → RunningState H → List ℕ → RunningState H
with_item state item =
    record state { scene = option_map (scene_with item) state.scene; mail_size = state.mail_size + length item }
