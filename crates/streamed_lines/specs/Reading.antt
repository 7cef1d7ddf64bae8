-- How far a stream has read: what was taken of its input, and what the lines in it left.
use Rattle.std.specs.Prelude.{◌≡◌, ◌≢◌, ◌⊎◌, ℕ, ◌+◌, ◌≤◌, ◌<◌, ◌||◌, Bool, true, false, List, [], ◌++◌, length, sum_by, Option, Result, Ok, Err}
use Rattle.streamed_lines.specs.declared.TheConstants.{MOST_LINES, MOST_INPUT_BYTES}
use Rattle.streamed_lines.specs.declared.ending.Ending.{Ending}
use Rattle.streamed_lines.specs.declared.ending.Ending.TheVariants.{Complete, BadLine, ReadFault, TooLong, Ended}
use Rattle.streamed_lines.specs.declared.ending.Stop.TheVariants.{BadLine as BadLineStop, TooLong as TooLongStop, Ends}
use Rattle.streamed_lines.specs.declared.ending.Halt.{Halt}
use Rattle.streamed_lines.specs.declared.ending.Halt.TheVariants.{Stops, Failed, NoMemory}
use Rattle.streamed_lines.specs.declared.ending.Break.{Break}
use Rattle.streamed_lines.specs.declared.ending.Break.TheVariants.{WriteFault, Failed as FailedBreak, NoMemory as NoMemoryBreak}
use Rattle.plasma_outside.specs.declared.sink.SinkRefusal.{SinkRefusal}
use Rattle.plasma_outside.specs.declared.sink.SinkRefusal.TheVariants.{Failed as SinkFailed, NoMemory as SinkNoMemory}
use Rattle.streamed_lines.specs.Lines.{lines_in, is_whole, text_of, is_too_long, limit_of, HasNoFeed}
use Rattle.streamed_lines.specs.Streams.{Rules, Stream, no_lines, next_number, with_answer, ending_at, line_stream, stream_from, stream_of}
use Rattle.streamed_lines.specs.Bounds.{line_at, start_of, TakesFew}
use Rattle.streamed_lines.specs.Outside.{Gave, Wrote}

-- ---- what breaks a stream off

-- what ends a stream, or breaks it off, where line n isn't answered
abbrev pub halted_at : {C : Type 0} → ℕ → Halt C → Result (Ending C) Break
halted_at n (Stops stop) = Ok (ending_at n stop)
halted_at n Failed = Err FailedBreak
halted_at n NoMemory = Err NoMemoryBreak

-- what a sink's refusal breaks a stream off by
abbrev pub break_of : SinkRefusal → Break
break_of SinkFailed = WriteFault
break_of SinkNoMemory = NoMemoryBreak

-- whether a stream met a read fault
abbrev pub is_read_fault : {C : Type 0} → Result (Ending C) Break → Bool
is_read_fault (Ok ReadFault) = true
is_read_fault outcome = false

-- whether the sink failed
abbrev pub is_write_fault : {T : Type 0} → Result T Break → Bool
is_write_fault (Err WriteFault) = true
is_write_fault outcome = false

-- ---- what is kept

-- what is kept of line n, which begins after so many bytes, passes no limit
pub record IsKept (n start : ℕ) (line : List ℕ) : Type 0 where
  pub plain : HasNoFeed line
  pub lines : n ≤ MOST_LINES + 1
  pub starts : start ≤ MOST_INPUT_BYTES
  pub fits : start + length line ≤ limit_of n start

-- what is there of a line passes a limit, or memory ran out for it
abbrev pub StopsKept : {C : Type 0} → ℕ → ℕ → List ℕ → Halt C → Type 0
StopsKept n start line (Stops TooLongStop) = (line ≢ []) × (is_too_long n start line ≡ true)
StopsKept n start line NoMemory = line ≢ []
StopsKept n start line halt = ⊥

-- ---- by the rules

module _ {R C : Type 0} (rules : Rules R C) where
  -- a line isn't answered: it stops the stream so
  abbrev pub HaltsAt : R → List ℕ → Halt C → Type 0
  HaltsAt run line (Stops stop) = rules.next run line ≡ Err stop
  HaltsAt run line Failed = Unit {0}
  HaltsAt run line NoMemory = Unit {0}

  -- The next line does this wherever it may be answered: its line feed was seen, or the end of the input.
  abbrev pub DoesLine : ℕ → Stream R → List ℕ → Result (Stream R) (Ending C) → Type 0
  DoesLine start stream line outcome =
      (ended : Bool) → (ended || is_whole line) ≡ true → line_stream rules ended start stream line ≡ outcome

  -- the next line ends the stream so
  abbrev pub StopsAt : ℕ → Stream R → List ℕ → Halt C → Type 0
  StopsAt start stream line (Stops stop) = DoesLine start stream line (Err (ending_at (next_number stream) stop))
  StopsAt start stream line Failed = Unit {0}
  StopsAt start stream line NoMemory = Unit {0}

  -- an input begins with whole lines, whatever follows them, and their stream from the first run is this
  pub record RunsTo (first : R) (front : List ℕ) (stream : Stream R) : Type 0 where
    pub cut : List (List ℕ)
    pub cuts : (more : List ℕ) → lines_in (front ++ more) ≡ cut ++ lines_in more
    pub count : length cut ≡ stream.count
    pub size : sum_by length cut ≡ length front
    pub streams : (ended : Bool) (lines : List (List ℕ))
        → stream_from rules ended 0 (no_lines first) (cut ++ lines)
        ≡ stream_from rules ended (length front) stream lines

-- ---- over an answerer, which is where lines left it

module _ {R C W : Type 0} (rules : Rules R C) (Ran : W → R → Type 0) where
  -- a line was answered: it comes to this, and its answer stands behind the text
  pub record IsAnswered (run : R) (line before after : List ℕ) (new : W) : Type 0 where
    pub next : R
    pub answer : List ℕ
    pub is : rules.next run line ≡ Ok (next, answer)
    pub ran : Ran new next
    pub told : after ≡ before ++ answer

  -- the next line was answered, and its answer stands behind the text
  pub record Gathers (start : ℕ) (stream : Stream R) (line before after : List ℕ) (new : W) : Type 0 where
    pub next : R
    pub answer : List ℕ
    pub does : DoesLine rules start stream line (Ok (with_answer stream (next, answer)))
    pub ran : Ran new next
    pub told : after ≡ before ++ answer

-- ---- from the first run on

module _ {R C W : Type 0} (rules : Rules R C) (first : R) (Ran : W → R → Type 0) where
  -- These bytes were taken: lines that were answered, whose text was put or is gathered, and what is there of line n.
  pub record Reads (bytes put text line : List ℕ) (n start : ℕ) (answerer : W) : Type 0 where
    pub front : List ℕ
    pub stream : Stream R
    pub whole : bytes ≡ front ++ line
    pub runs : RunsTo rules first front stream
    pub ran : Ran answerer stream.run
    pub number : n ≡ next_number stream
    pub size : start ≡ length front
    pub told : put ++ text ≡ stream.text

-- ---- where an answerer is left

-- the text of the line behind those of a stream
abbrev pub next_text : {R : Type 0} → List ℕ → Stream R → List ℕ
next_text bytes stream = text_of (line_at bytes (next_number stream))

-- the line behind those of a stream may be answered: it passes no limit, and its line feed was seen, or the end of the
-- input
pub record MayBeAnswered {R : Type 0} (ended : Bool) (bytes : List ℕ) (stream : Stream R) : Type 0 where
  pub fits :
      is_too_long (next_number stream) (start_of bytes (next_number stream)) (line_at bytes (next_number stream)) ≡ false
  pub seen : (ended || is_whole (line_at bytes (next_number stream))) ≡ true

-- The line behind those of a stream is kept: its text isn't empty, the last take gave some bytes, and the line began in
-- front of these, or its line feed wasn't taken.
pub record IsKeptNext {R : Type 0} (given : ℕ) (bytes : List ℕ) (stream : Stream R) : Type 0 where
  pub some : next_text bytes stream ≢ []
  pub more : 0 < given
  pub parted :
      (start_of bytes (next_number stream) + given < length bytes)
      ⊎ (is_whole (line_at bytes (next_number stream)) ≡ false)

module _ {R C W : Type 0} (Ran : W → R → Type 0) (Halted : W → R → List ℕ → Halt C → Type 0) where
  -- It was asked for a line that passes no limit, the next one, and halted there.
  abbrev pub HaltedAt : ℕ → W → Stream R → List ℕ → Halt C → Type 0
  HaltedAt start answerer stream line halt =
      (is_too_long (next_number stream) start line ≡ false) × Halted answerer stream.run (text_of line) halt

  -- An answerer whose lines came to this stream and whose next line isn't answered: it halted there. Where the line
  -- passes a limit it may not have been asked, and is where they left it; so where memory runs out, something was kept
  -- of it and more of it was taken.
  abbrev pub IsHalted : ℕ → List ℕ → List ℕ → W → Stream R → List ℕ → Halt C → Type 0
  IsHalted start kept rest answerer stream line (Stops TooLongStop) =
      Ran answerer stream.run ⊎ Halted answerer stream.run (text_of line) (Stops TooLongStop)
  IsHalted start kept rest answerer stream line (Stops stop) = Halted answerer stream.run (text_of line) (Stops stop)
  IsHalted start kept rest answerer stream line NoMemory =
      (Ran answerer stream.run × (kept ≢ []) × (rest ≢ [])) ⊎ HaltedAt start answerer stream line NoMemory
  IsHalted start kept rest answerer stream line Failed = HaltedAt start answerer stream line Failed

  -- The same, where the stream ended so. No answerer is asked for a line that is missing.
  abbrev pub IsLeft : W → R → List ℕ → Ending C → Type 0
  IsLeft answerer run text Complete = Ran answerer run
  IsLeft answerer run text ReadFault = Ran answerer run
  IsLeft answerer run text (BadLine n) = Ran answerer run ⊎ Halted answerer run text (Stops BadLineStop)
  IsLeft answerer run text (TooLong n) = Ran answerer run ⊎ Halted answerer run text (Stops TooLongStop)
  IsLeft answerer run text (Ended n cause) = Halted answerer run text (Stops (Ends cause))

  -- it halted at the line behind those of a stream of these bytes, which may be answered
  abbrev pub HaltsNext : Bool → List ℕ → W → Stream R → Halt C → Type 0
  HaltsNext ended bytes answerer stream halt =
      MayBeAnswered ended bytes stream × Halted answerer stream.run (next_text bytes stream) halt

  -- And where the stream was broken off. Where memory ran out and the answerer wasn't asked, the sink takes some, or
  -- the next line is kept.
  abbrev pub IsBroken : Bool → ℕ → Bool → List ℕ → W → Stream R → Break → Type 0
  IsBroken takes_memory given ended bytes answerer stream WriteFault = Ran answerer stream.run
  IsBroken takes_memory given ended bytes answerer stream FailedBreak = HaltsNext ended bytes answerer stream Failed
  IsBroken takes_memory given ended bytes answerer stream NoMemoryBreak =
      (Ran answerer stream.run × ((takes_memory ≡ true) ⊎ IsKeptNext given bytes stream))
      ⊎ HaltsNext ended bytes answerer stream NoMemory

-- ---- what ended a stream

module _ {R C W : Type 0} (rules : Rules R C) (first : R) (Ran : W → R → Type 0)
    (Halted : W → R → List ℕ → Halt C → Type 0) where
  -- the stream of these bytes ends so, and the text of its answers was put or is gathered
  pub record EndsAs (ended : Bool) (bytes put text : List ℕ) (ending : Ending C) (answerer : W) : Type 0 where
    pub stream : Stream R
    pub streams : stream_of rules first bytes ended ≡ record { stream = stream; ending = ending }
    pub told : put ++ text ≡ stream.text
    pub few : TakesFew bytes ending
    pub left : IsLeft Ran Halted answerer stream.run (next_text bytes stream) ending

  -- where these are told: what the source gave was answered to its end, and the sink has taken the text but for what
  -- is gathered
  pub record Answers (left later taken after : Option (List ℕ)) (text : List ℕ) (ending : Ending C) (answerer : W)
      : Type 0 where
    pub bytes : List ℕ
    pub ended : Bool
    pub put : List ℕ
    pub gave : Gave left later bytes ended
    pub wrote : Wrote taken after put
    pub ends : EndsAs ended bytes put text ending answerer

  -- what was put of the answers: all but what is gathered, where the answerer failed, and else a beginning of them
  abbrev pub IsPut : Break → List ℕ → List ℕ → List ℕ → Type 0
  IsPut FailedBreak put text all = put ++ text ≡ all
  IsPut WriteFault put text all = (rest : List ℕ) × (put ++ rest ≡ all)
  IsPut NoMemoryBreak put text all = (rest : List ℕ) × (put ++ rest ≡ all)

  -- a stream that was broken off behind some lines of these bytes, whose answers were put or are gathered; the last
  -- take gave so many of them
  pub record BreaksOff (takes_memory : Bool) (given : ℕ) (ended : Bool) (bytes put text : List ℕ) (why : Break)
      (answerer : W) : Type 0 where
    pub front : List ℕ
    pub rest : List ℕ
    pub stream : Stream R
    pub whole : bytes ≡ front ++ rest
    pub runs : RunsTo rules first front stream
    pub put_is : IsPut why put text stream.text
    pub broken : IsBroken Ran Halted takes_memory given ended bytes answerer stream why

  -- where these are told: the source gave bytes on which the stream was broken off, so many in the last take, and the
  -- sink, which takes memory or none, has taken what was put
  pub record BrokeOff (takes_memory : Bool) (given : ℕ) (left later taken after : Option (List ℕ)) (text : List ℕ)
      (why : Break) (answerer : W) : Type 0 where
    pub bytes : List ℕ
    pub ended : Bool
    pub put : List ℕ
    pub gave : Gave left later bytes ended
    pub wrote : Wrote taken after put
    pub breaks : BreaksOff takes_memory given ended bytes put text why answerer

  -- a line of these bytes halted the stream, without the sink; the last take gave so many of them
  abbrev pub HaltsWith : ℕ → Bool → List ℕ → List ℕ → List ℕ → ℕ → W → Halt C → Type 0
  HaltsWith given ended bytes put text n answerer (Stops stop) = EndsAs ended bytes put text (ending_at n stop) answerer
  HaltsWith given ended bytes put text n answerer Failed =
      BreaksOff false given ended bytes put text FailedBreak answerer
  HaltsWith given ended bytes put text n answerer NoMemory =
      BreaksOff false given ended bytes put text NoMemoryBreak answerer
