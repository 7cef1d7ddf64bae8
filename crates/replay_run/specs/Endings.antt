-- Why a replay ends, by its lines: the limits, the grammar, and whether the lines so far have a run with one more.
use Rattle.std.specs.Prelude.{◌≡◌, ℕ, zero, suc, ◌+◌, ◌||◌, ◌⊎◌, Bool, true, false, if◌then◌else◌, List, [], ◌∷◌, length, Some, None}
use Rattle.schedule_text.specs.{declared.line.Line.{Line}, Grammar.{line_in}}
use Rattle.world_rules.specs.Steps.{Run, run_of}
use Rattle.world_core.specs.Lines.{is_full, WouldFill}
use Rattle.streamed_lines.specs.{declared.ending.Ending.{Ending}, declared.ending.Ending.TheVariants.{Complete, BadLine, ReadFault, TooLong, Ended}, Lines.{lines_in, is_whole, text_of, is_too_long}}
use Rattle.replay_run.specs.{declared.ending.NoCause.{NoCause}, Replays.{replay_of}}

-- line n, which begins after so many bytes, may be answered: it passes no limit, and its line feed was seen, or the
-- end of the input
pub record MayBeAnswered (ended : Bool) (n start : ℕ) (line : List ℕ) : Type 0 where
  pub fits : is_too_long n start line ≡ false
  pub seen : (ended || is_whole line) ≡ true

-- under a digest, behind earlier lines, the newest first
module _ (dig : List ℕ → List ℕ) (earlier : List Line) where
  -- a line spells this one, with which the lines have a run, whose mail isn't full
  pub record IsAnswered (line : List ℕ) (spelled : Line) : Type 0 where
    pub spells : line_in (text_of line) ≡ Some spelled
    pub run : Run
    pub ran : run_of dig (spelled ∷ earlier) ≡ Some run
    pub fits : is_full run ≡ false

  -- a line is bad: it spells none, or one that breaks a rule of declarations
  abbrev pub IsBad : List ℕ → Type 0
  IsBad line =
      (line_in (text_of line) ≡ None)
      ⊎ ((spelled : Line) × (line_in (text_of line) ≡ Some spelled) × (run_of dig (spelled ∷ earlier) ≡ None))

  -- a line would fill the mail
  abbrev pub Fills : List ℕ → Type 0
  Fills line = (spelled : Line) × (line_in (text_of line) ≡ Some spelled) × WouldFill dig earlier spelled

  -- line n, which begins after so many bytes, ends the replay so
  abbrev pub EndsAt : Bool → ℕ → ℕ → List ℕ → Ending NoCause → Type 0
  EndsAt ended n start line Complete = ⊥
  EndsAt ended n start line (TooLong m) =
      (m ≡ n) × ((is_too_long n start line ≡ true) ⊎ (MayBeAnswered ended n start line × Fills line))
  EndsAt ended n start line ReadFault =
      (is_too_long n start line ≡ false) × (ended ≡ false) × (is_whole line ≡ false)
  EndsAt ended n start line (BadLine m) = (m ≡ n) × MayBeAnswered ended n start line × IsBad line
  EndsAt ended n start line (Ended m cause) = ⊥

-- The lines from line n on end so after so many answered ones: each of these is answered, and the next one says how,
-- or where there is none the end of the input does.
unfoldable pub EndsBy : (List ℕ → List ℕ) → Bool → List Line → ℕ → ℕ → List (List ℕ) → ℕ → Ending NoCause → Type 0
EndsBy dig ended earlier n start [] zero ending = ending ≡ (if ended then Complete else ReadFault)
EndsBy dig ended earlier n start [] (suc more) ending = ⊥
EndsBy dig ended earlier n start (line ∷ lines) zero ending = EndsAt dig earlier ended n start line ending
EndsBy dig ended earlier n start (line ∷ lines) (suc more) ending =
    MayBeAnswered ended n start line
    × ((spelled : Line) × IsAnswered dig earlier line spelled
    × EndsBy dig ended (spelled ∷ earlier) (n + 1) (start + length line) lines more ending)

-- A replay ends for the first cause that its lines have, and it has an answer to each line before.
abbrev pub EndingsHaveTheirCause : Type 0
EndingsHaveTheirCause = (dig : List ℕ → List ℕ) (bytes : List ℕ) (ended : Bool)
    → let replay = replay_of dig bytes ended in
    EndsBy dig ended [] 1 0 (lines_in bytes) (length replay.run.entries) replay.ending

-- Lines from line n on keep the rules behind earlier ones and so many bytes: each passes no limit, and spells a line
-- with which those before it have a run whose mail isn't full.
unfoldable pub KeepTheRules : (List ℕ → List ℕ) → List Line → ℕ → ℕ → List (List ℕ) → Type 0
KeepTheRules dig earlier n start [] = Unit {0}
KeepTheRules dig earlier n start (line ∷ lines) =
    (is_too_long n start line ≡ false)
    × ((spelled : Line) × IsAnswered dig earlier line spelled
    × KeepTheRules dig (spelled ∷ earlier) (n + 1) (start + length line) lines)

-- A replay of a whole input whose lines keep the rules is complete.
abbrev pub LinesThatKeepTheRulesAreAnswered : Type 0
LinesThatKeepTheRulesAreAnswered = (dig : List ℕ → List ℕ) (bytes : List ℕ)
    → KeepTheRules dig [] 1 0 (lines_in bytes) → (replay_of dig bytes true).ending ≡ Complete
