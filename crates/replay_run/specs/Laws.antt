-- What holds of the lines of an input, and of the answers of a replay, in words of their own.
use Rattle.std.specs.Prelude.{◌≡◌, ◌≢◌, ◌⊎◌, ℕ, Bool, List, [], ◌∷◌, length, take, reverse, Some}
use Rattle.std.specs.List.{concat, filter_map}
use Rattle.schedule_text.specs.{declared.line.Line.{Line}, Grammar.{line_in}}
use Rattle.world_rules.specs.Steps.{run_of}
use Rattle.streamed_lines.specs.Lines.{lines_in, text_of, HasNoFeed, EndsWithItsFeed}
use Rattle.replay_run.specs.Replays.{replay_of}

-- the last line, where no line feed ends it: it isn't empty
abbrev pub IsUnfinished : List ℕ → List (List ℕ) → Type 0
IsUnfinished line later = (later ≡ []) × (line ≢ []) × HasNoFeed line

-- each of these lines ends with its only line feed, or is an unfinished last one
unfoldable pub AreLines : List (List ℕ) → Type 0
AreLines [] = Unit {0}
AreLines (line ∷ lines) = (EndsWithItsFeed line ⊎ IsUnfinished line lines) × AreLines lines

-- the lines of an input are its bytes, cut behind each line feed
abbrev pub LinesAreTheBytes : Type 0
LinesAreTheBytes = (bytes : List ℕ) → (concat (lines_in bytes) ≡ bytes) × AreLines (lines_in bytes)

-- and there is no other way to cut them so
abbrev pub LinesAreOneCut : Type 0
LinesAreOneCut = (lines : List (List ℕ)) → AreLines lines → lines_in (concat lines) ≡ lines

-- the lines of a schedule that the first n lines of an input spell, the newest first
abbrev pub lines_spelled : List ℕ → ℕ → List Line
lines_spelled bytes n = reverse (filter_map (λ line. line_in (text_of line)) (take n (lines_in bytes)))

-- The answers of a replay are the trace of a run: that of the first lines of its input, as many as there are answers.
-- A run has one entry a line, so each of these spells a line.
abbrev pub AnsweredLinesAreARun : Type 0
AnsweredLinesAreARun = (dig : List ℕ → List ℕ) (bytes : List ℕ) (ended : Bool)
    → let run = (replay_of dig bytes ended).run in
    run_of dig (lines_spelled bytes (length run.entries)) ≡ Some run
