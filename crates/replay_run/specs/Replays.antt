-- A replay: the lines of an input are run, up to what ends it.
use Rattle.std.specs.Prelude.{ℕ, ◌+◌, Bool, true, if◌then◌else◌, List, [], ◌∷◌, length, Option, Some, None, Result, Ok, Err, option_and_then}
use Rattle.schedule_text.specs.Grammar.{line_in}
use Rattle.world_rules.specs.{Steps.{TraceEntry, Run, no_lines, step_run}, Texts.{trace_line_text}}
use Rattle.world_core.specs.Lines.{is_full}
use Rattle.streamed_lines.specs.{declared.ending.Ending.{Ending}, declared.ending.Stop.{Stop}, declared.ending.Stop.TheVariants.{BadLine, TooLong}, Streams.{Rules, Streamed, stream_of}}
use Rattle.replay_run.specs.declared.ending.NoCause.{NoCause}

-- what lines come to: their run, and the digest that judges it, which no line changes
pub record JudgedRun : Type 0 where
  pub digest : List ℕ → List ℕ
  pub run : Run

-- before the first line
abbrev pub begun : (List ℕ → List ℕ) → JudgedRun
begun dig = record { digest = dig; run = no_lines }

-- the text of the newest line of a trace
abbrev pub newest_text : List TraceEntry → List ℕ
newest_text [] = []
newest_text (entry ∷ earlier) = trace_line_text (length earlier + 1) entry.done entry.reply

-- what a line comes to: the run with it, and the text of its answer, or why it ends the replay
abbrev pub Next : Type 0
Next = Result (JudgedRun × List ℕ) (Stop NoCause)

-- the run with a line, unless it has no step; a line that fills the mail passes a limit
abbrev pub fitting : JudgedRun → Next
fitting judged = if is_full judged.run then Err TooLong else Ok (judged, newest_text judged.run.entries)

abbrev pub run_or : (List ℕ → List ℕ) → Option Run → Next
run_or dig None = Err BadLine
run_or dig (Some run) = fitting (record { digest = dig; run = run })

-- under a digest, the run with the line that these bytes spell, if they spell one that keeps the rules
abbrev pub text_run : (List ℕ → List ℕ) → Run → List ℕ → Option Run
text_run dig run text = option_and_then (λ line. step_run dig line run) (line_in text)

-- the rules of a replay: each line takes its step, and an input may end behind any
abbrev pub replay_rules : Rules JudgedRun NoCause
replay_rules = record {
  next = λ judged text. run_or judged.digest (text_run judged.digest judged.run text);
  may_end = λ judged. true;
}

-- the run of the answered lines, and what ended the replay
pub record Replay : Type 0 where
  pub run : Run
  pub ending : Ending NoCause

-- the replay that a stream of lines is
abbrev pub replay_in : Streamed JudgedRun NoCause → Replay
replay_in streamed = record { run = streamed.stream.run.run; ending = streamed.ending }

-- the replay of an input under a digest
unfoldable pub replay_of : (List ℕ → List ℕ) → List ℕ → Bool → Replay
replay_of dig bytes ended = replay_in (stream_of replay_rules (begun dig) bytes ended)
