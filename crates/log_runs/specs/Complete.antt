-- Inputs that a run over a log answers to their end: a log, a line `--`, and lines behind it that are answered.
use Rattle.std.specs.Prelude.{◌≡◌, ◌⊎◌, ℕ, ◌+◌, true, false, List, [], ◌∷◌, length, Option, Some, Ok}
use Rattle.plasma_tx.specs.declared.call.RootCall.{RootCall}
use Rattle.plasma_tx.specs.Chain.{Chain}
use Rattle.root_log.specs.Grammar.{chain_in, call_in}
use Rattle.root_log.specs.EndOfLog.{is_end_of_log}
use Rattle.streamed_lines.specs.declared.ending.Ending.TheVariants.{Complete}
use Rattle.streamed_lines.specs.Lines.{lines_in, text_of, is_too_long}
use Rattle.run_endings.specs.declared.status.Status.{Status}
use Rattle.run_endings.specs.Statuses.{IsDoneUnlessFailed}
use Rattle.log_runs.specs.Following.{Following}
use Rattle.log_runs.specs.Runs.{lines_of}

-- by what follows the log
module _ {A : Type 0} (following : Following A) where
  -- Line n, which begins after so many bytes, and those behind it pass no limit and are answered, each where the one
  -- before left what follows the log; and behind the last one the input may end.
  unfoldable pub AreAnswered : A → ℕ → ℕ → List (List ℕ) → Type 0
  AreAnswered at n start [] = following.may_end at ≡ true
  AreAnswered at n start (line ∷ lines) =
      (is_too_long n start line ≡ false)
      × ((left : A) × (answer : List ℕ) × (following.command at (text_of line) ≡ Ok (left, answer))
      × AreAnswered left (n + 1) (start + length line) lines)

  -- Such lines are the other calls of a log, the line `--`, and lines behind it that are answered.
  unfoldable pub EndLogAndAreAnswered : A → ℕ → ℕ → List (List ℕ) → Type 0
  EndLogAndAreAnswered at n start [] = ⊥
  EndLogAndAreAnswered at n start (line ∷ lines) =
      (is_too_long n start line ≡ false)
      × (((is_end_of_log (text_of line) ≡ true) × AreAnswered at (n + 1) (start + length line) lines)
      ⊎ ((is_end_of_log (text_of line) ≡ false) × ((call : RootCall) × (call_in (text_of line) ≡ Some call)
      × EndLogAndAreAnswered (following.follow call at) (n + 1) (start + length line) lines)))

  -- These lines are a log, the line `--`, and lines behind it that are answered.
  unfoldable pub KeepTheRules : List (List ℕ) → Type 0
  KeepTheRules [] = ⊥
  KeepTheRules (line ∷ lines) =
      (is_too_long 1 0 line ≡ false)
      × ((chain : Chain) × (chain_in (text_of line) ≡ Some chain)
      × EndLogAndAreAnswered (following.begin chain) 2 (length line) lines)

  -- the lines of a whole input that keep the rules are all answered
  abbrev pub LinesThatKeepTheRulesAreAnswered : Type 0
  LinesThatKeepTheRulesAreAnswered = (bytes : List ℕ) → KeepTheRules (lines_in bytes)
      → (lines_of following bytes true).ending ≡ Complete

  -- Where a run's source had an input left whose lines keep the rules, the run is done, unless something fails.
  abbrev pub LogComplete : Option (List ℕ) → Status → Type 0
  LogComplete left status =
      (input : List ℕ) → left ≡ Some input → KeepTheRules (lines_in input) → IsDoneUnlessFailed status
