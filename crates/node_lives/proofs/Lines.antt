-- What each answered line keeps holds behind all of them.
use Rattle.std.proofs.Common.{◌≡◌, ◌≤◌, ◌||◌, ◌&&◌, not, ℕ, ◌+◌, Bool, true, false, if◌then◌else◌, ltb, List, [], ◌∷◌, ◌++◌, length, Result, Ok, Err, refl, subst, arith}
use Rattle.std.proofs.lemmas.Bool.Decides.{nat_tests}
use Rattle.std.proofs.lemmas.Grind.{common_steps}
use Rattle.streamed_lines.specs.declared.TheConstants.{MOST_LINES}
use Rattle.streamed_lines.specs.declared.ending.Ending.{Ending}
use Rattle.streamed_lines.specs.declared.ending.Ending.TheVariants.{ReadFault, TooLong}
use Rattle.streamed_lines.specs.declared.ending.Stop.{Stop}
use Rattle.streamed_lines.specs.Lines.{lines_in, is_whole, text_of, is_too_long}
use Rattle.streamed_lines.specs.Streams.{Rules, Stream, Streamed, no_lines, next_number, with_answer, stream_or, goes_on, line_stream, stream_from, stream_of}
use Rattle.streamed_lines.specs.Bounds.{line_at, start_of}
use Rattle.streamed_lines.specs.Reading.{RunsTo, MayBeAnswered}

or-left : (a b : Bool) → (a || b) ≡ false → a ≡ false
or-left true b is = absurd (cc is)
or-left false b is = refl

not-less : (a b : ℕ) → ltb a b ≡ false → b ≤ a
not-less a b is = grind (arith, nat_tests)

-- a line that passes no limit is one of so many
pub fits-few : (n start : ℕ) (line : List ℕ) → is_too_long n start line ≡ false → n ≤ MOST_LINES
fits-few n start line fits = not-less MOST_LINES n (or-left _ _ (or-left _ _ fits))

-- so is the next line behind others, where it may be answered
pub may-few : {R : Type 0} (ended : Bool) (bytes : List ℕ) (stream : Stream R) → MayBeAnswered ended bytes stream
    → next_number stream ≤ MOST_LINES
may-few ended bytes stream may =
    fits-few (next_number stream) (start_of bytes (next_number stream)) (line_at bytes (next_number stream)) may.fits

module _ {R C : Type 0} (rules : Rules R C) (P : Stream R → Type 0)
    (keeps : (stream : Stream R) (line : List ℕ) (answered : R × List ℕ) → next_number stream ≤ MOST_LINES
    → P stream → rules.next stream.run line ≡ Ok answered → P (with_answer stream answered)) where
  answered-keeps : (stream next : Stream R) (line : List ℕ) (outcome : Result (R × List ℕ) (Stop C))
      → next_number stream ≤ MOST_LINES → P stream → rules.next stream.run line ≡ outcome
      → stream_or stream outcome ≡ Ok next → P next
  answered-keeps stream next line outcome few here is goes = grind (arith, common_steps) steps 20000

  tested-keeps : (start : ℕ) (stream next : Stream R) (line : List ℕ) (long waits : Bool)
      → is_too_long (next_number stream) start line ≡ long → P stream
      → (if long then Err (TooLong (next_number stream)) else if waits then Err ReadFault
      else stream_or stream (rules.next stream.run (text_of line))) ≡ Ok next
      → P next
  tested-keeps start stream next line true waits fits here is = absurd (cc is)
  tested-keeps start stream next line false true fits here is = absurd (cc is)
  tested-keeps start stream next line false false fits here is =
      answered-keeps stream next (text_of line) (rules.next stream.run (text_of line))
      (fits-few (next_number stream) start line fits) here refl is

  pub line-keeps : (ended : Bool) (start : ℕ) (stream next : Stream R) (line : List ℕ) → P stream
      → line_stream rules ended start stream line ≡ Ok next → P next
  unfolding line_stream
  line-keeps ended start stream next line here is =
      tested-keeps start stream next line (is_too_long (next_number stream) start line)
      (not ended && not (is_whole line)) refl here is

  pub lines-keep : (ended : Bool) (start : ℕ) (stream : Stream R) (lines : List (List ℕ)) → P stream
      → P (stream_from rules ended start stream lines).stream
  unfolding stream_from
  lines-keep ended start stream [] here = here
  lines-keep ended start stream (line ∷ lines) here =
      by (λ next. lines-keep ended (start + length line) next lines) (line_stream rules ended start stream line) refl
    where
      by : ((next : Stream R) → P next → P (stream_from rules ended (start + length line) next lines).stream)
          → (outcome : Result (Stream R) (Ending C)) → line_stream rules ended start stream line ≡ outcome
          → P (goes_on stream outcome (λ next. stream_from rules ended (start + length line) next lines)).stream
      by again (Err ending) is = here
      by again (Ok next) is = again next (line-keeps ended start stream next line here is)

  -- behind the session of an input, and behind lines that were answered
  pub stream-keeps : (first : R) (bytes : List ℕ) (ended : Bool) → P (no_lines first)
      → P (stream_of rules first bytes ended).stream
  unfolding stream_of
  stream-keeps first bytes ended here = lines-keep ended 0 (no_lines first) (lines_in bytes) here

  pub runs-keep : (first : R) (front : List ℕ) (stream : Stream R) → RunsTo rules first front stream
      → P (no_lines first) → P stream
  unfolding stream_from
  runs-keep first front stream runs here =
      subst (λ (s : Streamed R C). P s.stream) (runs.streams false [])
      (lines-keep false 0 (no_lines first) (runs.cut ++ []) here)
