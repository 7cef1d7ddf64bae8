-- The world that lines leave, and what was read of an input.
use Rattle.std.specs.Prelude.{◌≡◌, ℕ, Bool, List, ◌++◌, Option, Some, None}
use Rattle.schedule_text.specs.{declared.line.Line.{Line}, Grammar.{line_in}}
use Rattle.world_rules.specs.{Steps.{Run, run_of}, Texts.{entries_text}}
use Rattle.world_core.specs.Worlds.{RunningState, IsAfter}
use Rattle.streamed_lines.specs.{declared.ending.Ending.{Ending}, declared.ending.Ending.TheVariants.{Complete}, declared.ending.Stop.TheVariants.{BadLine}, declared.ending.Halt.{Halt}}
use Rattle.streamed_lines.specs.{declared.ending.Halt.TheVariants.{Stops, Failed, NoMemory}, Bounds.{TakesFew}, Outside.{Gave, Wrote, WroteFront}}
use Rattle.replay_run.specs.{declared.ending.NoCause.{NoCause}, Replays.{JudgedRun, replay_of}, Text.{answers_text}}

-- ---- one line

-- why bytes aren't read as a line: they spell none, or memory ran out
abbrev pub SpellsNone : List ℕ → Halt NoCause → Type 0
SpellsNone text (Stops BadLine) = line_in text ≡ None
SpellsNone text NoMemory = Unit {0}
SpellsNone text halt = ⊥

-- no line of a replay fails: it is answered, or it stops the run for its text or for want of memory
abbrev pub NeverFails : Halt NoCause → Type 0
NeverFails Failed = ⊥
NeverFails halt = Unit {0}

-- the world is what lines leave that ran so, and judges by this digest
pub record Ran {H : Type 0} (digest_of : H → List ℕ → List ℕ) (world : RunningState H) (judged : JudgedRun) : Type 0
  where
    pub lines : List Line
    pub digest : judged.digest ≡ digest_of world.hash
    pub after : IsAfter (digest_of world.hash) lines world
    pub is : run_of (digest_of world.hash) lines ≡ Some judged.run

-- ---- an input

-- where these are told: what the source gave was answered to its end, and the sink has taken the text but for what is
-- gathered; a world whose lines were all answered is what they left
pub record Answers {H : Type 0} (left later taken after : Option (List ℕ)) (digest_of : H → List ℕ → List ℕ)
    (dig : List ℕ → List ℕ) (text : List ℕ) (ending : Ending NoCause) (world : RunningState H) : Type 0 where
  pub bytes : List ℕ
  pub ended : Bool
  pub put : List ℕ
  pub run : Run
  pub gave : Gave left later bytes ended
  pub wrote : Wrote taken after put
  pub replays : replay_of dig bytes ended ≡ record { run = run; ending = ending }
  pub told : put ++ text ≡ entries_text run.entries
  pub few : TakesFew bytes ending
  pub ran : ending ≡ Complete → Ran digest_of world (record { digest = dig; run = run })

-- a replay that was stopped by the sink or for want of memory wrote a beginning of the answers
pub record StopsEarly (left later taken after : Option (List ℕ)) (dig : List ℕ → List ℕ) : Type 0 where
  pub bytes : List ℕ
  pub ended : Bool
  pub gave : Gave left later bytes ended
  pub front : WroteFront taken after (answers_text (replay_of dig bytes ended))
