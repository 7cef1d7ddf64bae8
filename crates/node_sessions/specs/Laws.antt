-- Inputs that a session answers to their end: a log of the node's chain, a line `--`, and commands that are done.
use Rattle.std.specs.Prelude.{◌≡◌, ◌⊎◌, ℕ, ◌+◌, true, false, List, [], ◌∷◌, length, Option, Some, Result, Ok}
use Rattle.plasma_tx.specs.declared.call.RootCall.{RootCall}
use Rattle.plasma_tx.specs.Chain.{Chain}
use Rattle.root_log.specs.Grammar.{chain_in, appended}
use Rattle.root_log.specs.EndOfLog.{is_end_of_log}
use Rattle.streamed_lines.specs.declared.ending.Ending.TheVariants.{Complete}
use Rattle.streamed_lines.specs.Lines.{lines_in, text_of, is_too_long}
use Rattle.streamed_lines.specs.Streams.{stream_of}
use Rattle.node_sessions.specs.Sessions.{begun, session_rules}

-- of a node of the chain with this tag, whose commands are read and done so
module _ {A L : Type 0} (tag : List ℕ) (command_in : List ℕ → Option L)
    (does : List RootCall → A → L → Result (A × List ℕ) (List ℕ)) where
  -- Line n, which begins after so many bytes, and those behind it pass no limit, and spell commands that are done
  -- behind this log, each where the one before left the node.
  unfoldable pub AreDone : List RootCall → A → ℕ → ℕ → List (List ℕ) → Type 0
  AreDone log at n start [] = Unit {0}
  AreDone log at n start (line ∷ lines) =
      (is_too_long n start line ≡ false)
      × ((command : L) × (left : A) × (answer : List ℕ) × (command_in (text_of line) ≡ Some command)
      × (does log at command ≡ Ok (left, answer)) × AreDone log left (n + 1) (start + length line) lines)

  -- Such lines are the other calls of a log, the line `--`, and such commands behind it.
  unfoldable pub EndLogAndAreDone : Chain → A → ℕ → ℕ → List (List ℕ) → Type 0
  EndLogAndAreDone chain at n start [] = ⊥
  EndLogAndAreDone chain at n start (line ∷ lines) =
      (is_too_long n start line ≡ false)
      × (((is_end_of_log (text_of line) ≡ true) × AreDone chain.log at (n + 1) (start + length line) lines)
      ⊎ ((is_end_of_log (text_of line) ≡ false) × ((longer : Chain) × (appended chain (text_of line) ≡ Some longer)
      × EndLogAndAreDone longer at (n + 1) (start + length line) lines)))

  -- These lines are a log of the node's chain, the line `--`, and commands that are done by a node that is here.
  unfoldable pub KeepTheRules : A → List (List ℕ) → Type 0
  KeepTheRules found [] = ⊥
  KeepTheRules found (line ∷ lines) =
      (is_too_long 1 0 line ≡ false)
      × ((chain : Chain) × (chain_in (text_of line) ≡ Some chain) × (chain.tag ≡ tag)
      × EndLogAndAreDone chain found 2 (length line) lines)

  -- A session of a whole input whose lines are so is complete.
  abbrev pub DoneCommandsAreAnswered : Type 0
  DoneCommandsAreAnswered = (found : A) (bytes : List ℕ) → KeepTheRules found (lines_in bytes)
      → (stream_of (session_rules tag command_in does) (begun found) bytes true).ending ≡ Complete
