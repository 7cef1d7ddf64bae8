-- A log without a node: the lines of a root contract's log are followed, and behind the line `--` others are answered.
use Rattle.std.specs.Prelude.{ℕ, ◌&&◌, Bool, true, false, if◌then◌else◌, List, [], Option, Some, None, Result, Ok, Err}
use Rattle.std.specs.Option.{option_map_or}
use Rattle.plasma_tx.specs.declared.call.RootCall.{RootCall}
use Rattle.plasma_tx.specs.Chain.{Chain}
use Rattle.root_log.specs.Grammar.{chain_in, call_in}
use Rattle.root_log.specs.EndOfLog.{is_end_of_log}
use Rattle.streamed_lines.specs.declared.ending.Stop.{Stop}
use Rattle.streamed_lines.specs.declared.ending.Stop.TheVariants.{BadLine}
use Rattle.streamed_lines.specs.Streams.{Rules}

-- what something comes to, or why it ends the run: by the text of the cause where it is a refusal
abbrev pub OrStop : Type 0 → Type 0
OrStop T = Result T (Stop (List ℕ))

-- What follows a log: what it begins with, at the chain that the log's first line names; what it comes to with a call
-- of the log; what it comes to with a line behind the log, and the text of its answer; and whether the input may end
-- there.
pub record Following (A : Type 0) : Type 0 where
  pub begin : Chain → A
  pub follow : RootCall → A → A
  pub command : A → List ℕ → OrStop (A × List ℕ)
  pub may_end : A → Bool

-- what lines come to, of which there may be none yet; and whether the log has ended
pub record LogRun (A : Type 0) : Type 0 where
  pub at : Option A
  pub is_over : Bool

-- before the first line
abbrev pub begun : {A : Type 0} → LogRun A
begun = record { at = None; is_over = false }

-- what a line comes to: the run with it, and the text of its answer
abbrev pub Next : Type 0 → Type 0
Next A = OrStop (LogRun A × List ℕ)

-- the run where its line leaves it here; a line of a log has no answer
abbrev pub comes_to : {A : Type 0} → LogRun A → A → Next A
comes_to run at = Ok (record run { at = Some at }, [])

-- the run with what a line behind the log comes to
abbrev pub leaves : {A : Type 0} → LogRun A → OrStop (A × List ℕ) → Next A
leaves run (Err stop) = Err stop
leaves run (Ok left) = Ok (record run { at = Some left.0 }, left.1)

module _ {A : Type 0} (following : Following A) where
  -- the first line, by the chain that it names
  abbrev pub first_line : LogRun A → Option Chain → Next A
  first_line run None = Err BadLine
  first_line run (Some chain) = comes_to run (following.begin chain)

  -- a further line of the log, by the call that it spells
  abbrev pub call_line : LogRun A → A → Option RootCall → Next A
  call_line run at None = Err BadLine
  call_line run at (Some call) = comes_to run (following.follow call at)

  -- a line behind the first one: the log's next call, or its end
  abbrev pub log_line : LogRun A → A → List ℕ → Next A
  log_line run at line =
      if is_end_of_log line then Ok (record run { is_over = true }, []) else call_line run at (call_in line)

  abbrev pub later_line : LogRun A → A → List ℕ → Next A
  later_line run at line =
      if run.is_over then leaves run (following.command at line) else log_line run at line

  abbrev pub line_at : LogRun A → Option A → List ℕ → Next A
  line_at run None line = first_line run (chain_in line)
  line_at run (Some at) line = later_line run at line

  unfoldable pub next_line : LogRun A → List ℕ → Next A
  next_line run line = line_at run run.at line

  -- the rules of all lines: the input may end behind the line `--` alone, and there as what follows the log says
  abbrev pub log_rules : Rules (LogRun A) (List ℕ)
  log_rules = record {
    next = next_line;
    may_end = λ run. run.is_over && option_map_or following.may_end run.at false;
  }
