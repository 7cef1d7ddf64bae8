-- A stream: the lines of an input are answered one after another, up to what ends them.
use Rattle.std.specs.Prelude.{ℕ, ◌+◌, ◌&&◌, not, Bool, if◌then◌else◌, List, [], ◌∷◌, ◌++◌, length, Result, Ok, Err}
use Rattle.streamed_lines.specs.declared.ending.Ending.{Ending}
use Rattle.streamed_lines.specs.declared.ending.Ending.TheVariants.{Complete, BadLine, ReadFault, TooLong, Ended}
use Rattle.streamed_lines.specs.declared.ending.Stop.{Stop}
use Rattle.streamed_lines.specs.declared.ending.Stop.TheVariants.{BadLine as BadLineStop, TooLong as TooLongStop, Ends}
use Rattle.streamed_lines.specs.Lines.{lines_in, is_whole, text_of, is_too_long}

-- What lines come to: what a line does behind others, which is what they come to with it, and its answer's text, or why
-- it ends the stream; and whether the input may end there.
pub record Rules (R C : Type 0) : Type 0 where
  pub next : R → List ℕ → Result (R × List ℕ) (Stop C)
  pub may_end : R → Bool

-- lines that were answered: what they come to, how many they are, and the text of their answers
pub record Stream (R : Type 0) : Type 0 where
  pub run : R
  pub count : ℕ
  pub text : List ℕ

-- no lines
abbrev pub no_lines : {R : Type 0} → R → Stream R
no_lines first = record { run = first; count = 0; text = [] }

-- the number of the line behind them
abbrev pub next_number : {R : Type 0} → Stream R → ℕ
next_number stream = stream.count + 1

-- with one more line, which comes to this and has this answer
abbrev pub with_answer : {R : Type 0} → Stream R → R × List ℕ → Stream R
with_answer stream answered =
    record { run = answered.0; count = stream.count + 1; text = stream.text ++ answered.1 }

-- what ends a stream that line n stops
abbrev pub ending_at : {C : Type 0} → ℕ → Stop C → Ending C
ending_at n BadLineStop = BadLine n
ending_at n TooLongStop = TooLong n
ending_at n (Ends cause) = Ended n cause

-- the stream with the next line, or what ends it
abbrev pub stream_or : {R C : Type 0} → Stream R → Result (R × List ℕ) (Stop C) → Result (Stream R) (Ending C)
stream_or stream (Ok answered) = Ok (with_answer stream answered)
stream_or stream (Err stop) = Err (ending_at (next_number stream) stop)

-- a stream, and what ended it
pub record Streamed (R C : Type 0) : Type 0 where
  pub stream : Stream R
  pub ending : Ending C

-- a stream that ends so before a line, or goes on behind it
abbrev pub goes_on : {R C : Type 0} → Stream R → Result (Stream R) (Ending C) → (Stream R → Streamed R C) → Streamed R C
goes_on stream (Err ending) after = record { stream = stream; ending = ending }
goes_on stream (Ok next) after = after next

-- by these rules
module _ {R C : Type 0} (rules : Rules R C) where
  -- What the next line does, which begins after so many bytes: it is answered, or it ends the stream. `ended` says that
  -- the input was read to its end; where it wasn't, a line without its line feed isn't answered.
  unfoldable pub line_stream : Bool → ℕ → Stream R → List ℕ → Result (Stream R) (Ending C)
  line_stream ended start stream line =
      if is_too_long (next_number stream) start line then Err (TooLong (next_number stream))
      else if not ended && not (is_whole line) then Err ReadFault
      else stream_or stream (rules.next stream.run (text_of line))

  -- what ends a stream whose input has no more lines: an input that may not end there lacks its next line
  abbrev pub end_of_input : Bool → Stream R → Ending C
  end_of_input ended stream =
      if ended then (if rules.may_end stream.run then Complete else BadLine (next_number stream)) else ReadFault

  -- the stream of these lines, behind one that read so many bytes
  unfoldable pub stream_from : Bool → ℕ → Stream R → List (List ℕ) → Streamed R C
  stream_from ended start stream [] = record { stream = stream; ending = end_of_input ended stream }
  stream_from ended start stream (line ∷ lines) =
      goes_on stream (line_stream ended start stream line)
      (λ next. stream_from ended (start + length line) next lines)

  -- the stream of an input, where nothing was answered yet at the first run
  unfoldable pub stream_of : R → List ℕ → Bool → Streamed R C
  stream_of first bytes ended = stream_from ended 0 (no_lines first) (lines_in bytes)
