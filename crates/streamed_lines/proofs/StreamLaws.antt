-- A stream goes on from line to line.
use Rattle.std.proofs.Common.{◌≡◌, ℕ, ◌+◌, ◌&&◌, ◌||◌, not, Bool, true, false, List, [], ◌∷◌, ◌++◌, length, Result, Ok, Err, inr, refl, sym, ap, ◌∙◌, subst, arith, append_assoc}
use Rattle.std.specs.Prelude.{IfOk, IfErr, IsErrAnd}
use Rattle.std.proofs.lemmas.Bool.{true≢false}
use Rattle.std.proofs.lemmas.List.{length-append}
use Rattle.std.proofs.lemmas.List.Sums.{sum_by-append}
use Rattle.streamed_lines.specs.declared.ending.Ending.{Ending}
use Rattle.streamed_lines.specs.declared.ending.Ending.TheVariants.{ReadFault, TooLong}
use Rattle.streamed_lines.specs.declared.ending.Stop.{Stop}
use Rattle.streamed_lines.specs.declared.ending.Stop.TheVariants.{BadLine as BadLineStop, TooLong as TooLongStop, Ends}
use Rattle.streamed_lines.specs.declared.ending.Halt.{Halt}
use Rattle.streamed_lines.specs.declared.ending.Halt.TheVariants.{Stops, Failed, NoMemory}
use Rattle.streamed_lines.specs.Lines.{lines_in, is_whole, text_of, is_too_long, EndsWithItsFeed}
use Rattle.streamed_lines.specs.Streams.{Rules, Stream, no_lines, next_number, with_answer, stream_or, goes_on, end_of_input, line_stream, stream_from, stream_of}
use Rattle.streamed_lines.specs.Reading.{HaltsAt, DoesLine, StopsAt, IsAnswered, Gathers, RunsTo, IsHalted}
use Rattle.streamed_lines.proofs.LineLaws.{lines_in-feed, whole-feed}

may-not : (ended whole : Bool) → (ended || whole) ≡ true → (not ended && not whole) ≡ false
may-not true whole is = refl
may-not false true is = refl
may-not false false wrong = absurd (true≢false (sym wrong))

may-by : (ended : Bool) (line : List ℕ) → is_whole line ≡ true → (ended || is_whole line) ≡ true
may-by true line is = refl
may-by false line is = is

-- what holds of an error that is passed on
pub err-given : {T E : Type 0} (result : Result T E) (e : E) (P : E → Type 0) → IsErrAnd result (λ x. x ≡ e) → P e
    → IfErr result P
err-given (Ok x) e P never holds = absurd never
err-given (Err x) e P is holds = subst P (sym is) holds

-- what holds where a result is Ok, or Err, in other words
pub if-ok : {T E : Type 0} (P Q : T → Type 0) (result : Result T E) → ((x : T) → P x → Q x) → IfOk result P
    → IfOk result Q
if-ok P Q (Ok x) more is = more x is
if-ok P Q (Err e) more is = tt

pub if-err : {T E : Type 0} (P Q : E → Type 0) (result : Result T E) → ((e : E) → P e → Q e) → IfErr result P
    → IfErr result Q
if-err P Q (Ok x) more is = tt
if-err P Q (Err e) more is = more e is

module _ {R C : Type 0} (rules : Rules R C) where
  -- ---- one line

  -- what a line does that passes no limit and may be answered
  line-by-text : (ended : Bool) (start : ℕ) (stream : Stream R) (line : List ℕ)
      → is_too_long (next_number stream) start line ≡ false → (ended || is_whole line) ≡ true
      → line_stream rules ended start stream line ≡ stream_or stream (rules.next stream.run (text_of line))
  unfolding line_stream
  line-by-text ended start stream line fits may = rw (fits, may-not ended (is_whole line) may) refl

  pub does-long : (n start : ℕ) (stream : Stream R) (line all : List ℕ) → line ≡ all → n ≡ next_number stream
      → is_too_long n start line ≡ true → DoesLine rules start stream all (Err (TooLong (next_number stream)))
  unfolding line_stream
  does-long n start stream line all same number long ended may = rw (← same, sym number, long) refl

  does-by : (n start : ℕ) (stream : Stream R) (line all : List ℕ) (o : Result (R × List ℕ) (Stop C)) → line ≡ all
      → n ≡ next_number stream → is_too_long n start line ≡ false → rules.next stream.run (text_of line) ≡ o
      → DoesLine rules start stream all (stream_or stream o)
  does-by n start stream line all o same number fits is =
      subst (λ l. DoesLine rules start stream l (stream_or stream o)) same
      (λ ended may. line-by-text ended start stream line
      (subst (λ m. is_too_long m start line ≡ false) number fits) may
      ∙ ap (stream_or stream) is)

  pub halts-stop : (n start : ℕ) (stream : Stream R) (line all : List ℕ) (halt : Halt C) → line ≡ all
      → n ≡ next_number stream → is_too_long n start line ≡ false → HaltsAt rules stream.run (text_of line) halt
      → StopsAt rules start stream all halt
  halts-stop n start stream line all (Stops stop) same number fits at =
      does-by n start stream line all (Err stop) same number fits at
  halts-stop n start stream line all Failed same number fits at = tt
  halts-stop n start stream line all NoMemory same number fits at = tt

  -- what a line does that isn't answered, since its line feed may come yet
  pub waits : (start : ℕ) (stream : Stream R) (line : List ℕ)
      → is_too_long (next_number stream) start line ≡ false → is_whole line ≡ false
      → line_stream rules false start stream line ≡ Err ReadFault
  unfolding line_stream
  waits start stream line fits open_line = rw (fits, open_line) refl

  pub too-long : (ended : Bool) (start : ℕ) (stream : Stream R) (line : List ℕ)
      → is_too_long (next_number stream) start line ≡ true
      → line_stream rules ended start stream line ≡ Err (TooLong (next_number stream))
  unfolding line_stream
  too-long ended start stream line long = rw long refl

  -- the stream at a line that does this
  pub at-line : (ended : Bool) (start : ℕ) (stream : Stream R) (line : List ℕ) (lines : List (List ℕ))
      (outcome : Result (Stream R) (Ending C)) → line_stream rules ended start stream line ≡ outcome
      → stream_from rules ended start stream (line ∷ lines) ≡ goes_on stream outcome
      (λ next. stream_from rules ended (start + length line) next lines)
  unfolding stream_from
  at-line ended start stream line lines outcome is =
      ap (λ o. goes_on stream o (λ next. stream_from rules ended (start + length line) next lines)) is

  -- a line that is answered, and the stream goes on behind it
  pub goes-on : (ended : Bool) (start : ℕ) (stream : Stream R) (line : List ℕ) (lines : List (List ℕ))
      (answered : R × List ℕ) → is_too_long (next_number stream) start line ≡ false
      → (ended || is_whole line) ≡ true → rules.next stream.run (text_of line) ≡ Ok answered
      → stream_from rules ended start stream (line ∷ lines)
      ≡ stream_from rules ended (start + length line) (with_answer stream answered) lines
  goes-on ended start stream line lines answered fits may is =
      at-line ended start stream line lines (Ok (with_answer stream answered))
      (line-by-text ended start stream line fits may ∙ ap (stream_or stream) is)

-- ---- many lines

module _ {R C : Type 0} (rules : Rules R C) (first : R) where
  pub runs-none : RunsTo rules first [] (no_lines first)
  runs-none = record {
    cut = [];
    cuts = λ more. refl;
    count = refl;
    size = refl;
    streams = λ ended lines. refl;
  }

  pub runs-on : (front line : List ℕ) (stream next : Stream R) → RunsTo rules first front stream
      → EndsWithItsFeed line → DoesLine rules (length front) stream line (Ok next)
      → next.count ≡ stream.count + 1 → RunsTo rules first (front ++ line) next
  runs-on front line stream next runs ends does count = record {
    cut = runs.cut ++ line ∷ [];
    cuts =
        λ more. ap lines_in (append_assoc front line more) ∙ runs.cuts (line ++ more)
        ∙ ap (λ ls. runs.cut ++ ls) (lines_in-feed line more ends)
        ∙ sym (append_assoc runs.cut (line ∷ []) (lines_in more));
    count = length-append runs.cut (line ∷ []) ∙ omega (arith, runs.count, count);
    size = sum_by-append length runs.cut (line ∷ []) ∙ omega (arith, runs.size, length-append front line);
    streams =
        λ ended lines.
        ap (stream_from rules ended 0 (no_lines first)) (append_assoc runs.cut (line ∷ []) lines)
        ∙ runs.streams ended (line ∷ lines)
        ∙ at-line rules ended (length front) stream line lines (Ok next)
        (does ended (may-by ended line (whole-feed line ends)))
        ∙ ap (λ n. stream_from rules ended n next lines) (sym (length-append front line));
  }

  -- the stream of an input at a place where its lines ran so far
  stream-at : (ended : Bool) (front more : List ℕ) (stream : Stream R) → RunsTo rules first front stream
      → stream_of rules first (front ++ more) ended ≡ stream_from rules ended (length front) stream (lines_in more)
  unfolding stream_of
  stream-at ended front more stream runs =
      ap (stream_from rules ended 0 (no_lines first)) (runs.cuts more) ∙ runs.streams ended (lines_in more)

  -- a line with its line feed stops the stream
  pub stream-stops : (ended : Bool) (front line rest : List ℕ) (stream : Stream R) (ending : Ending C)
      → RunsTo rules first front stream → EndsWithItsFeed line → DoesLine rules (length front) stream line (Err ending)
      → stream_of rules first (front ++ (line ++ rest)) ended ≡ record { stream = stream; ending = ending }
  stream-stops ended front line rest stream ending runs ends does =
      stream-at ended front (line ++ rest) stream runs
      ∙ ap (stream_from rules ended (length front) stream) (lines_in-feed line rest ends)
      ∙ at-line rules ended (length front) stream line (lines_in rest) (Err ending)
      (does ended (may-by ended line (whole-feed line ends)))

  -- the last line of an input, without a line feed
  pub stream-ends : (ended : Bool) (front line : List ℕ) (stream : Stream R) (ending : Ending C)
      → RunsTo rules first front stream → lines_in line ≡ line ∷ []
      → line_stream rules ended (length front) stream line ≡ Err ending
      → stream_of rules first (front ++ line) ended ≡ record { stream = stream; ending = ending }
  stream-ends ended front line stream ending runs one does =
      stream-at ended front line stream runs ∙ ap (stream_from rules ended (length front) stream) one
      ∙ at-line rules ended (length front) stream line [] (Err ending) does

  pub stream-answers : (front line : List ℕ) (stream next : Stream R)
      → RunsTo rules first front stream → lines_in line ≡ line ∷ []
      → line_stream rules true (length front) stream line ≡ Ok next
      → stream_of rules first (front ++ line) true ≡ record { stream = next; ending = end_of_input rules true next }
  unfolding stream_from
  stream-answers front line stream next runs one does =
      stream-at true front line stream runs ∙ ap (stream_from rules true (length front) stream) one
      ∙ at-line rules true (length front) stream line [] (Ok next) does

  -- an input that ends behind a line feed
  pub stream-over : (ended : Bool) (front : List ℕ) (stream : Stream R) → RunsTo rules first front stream
      → stream_of rules first (front ++ []) ended
      ≡ record { stream = stream; ending = end_of_input rules ended stream }
  unfolding stream_from lines_in
  stream-over ended front stream runs = stream-at ended front [] stream runs

-- a line was answered that passes no limit
pub answered-gathers : {R C W : Type 0} (rules : Rules R C) (Ran : W → R → Type 0) (n start : ℕ) (stream : Stream R)
    (line all before after : List ℕ) (new : W) → line ≡ all → n ≡ next_number stream
    → is_too_long n start line ≡ false → IsAnswered rules Ran stream.run (text_of line) before after new
    → Gathers rules Ran start stream all before after new
answered-gathers rules Ran n start stream line all before after new same number fits answered = record {
  next = answered.next;
  answer = answered.answer;
  does = does-by rules n start stream line all (Ok (answered.next, answered.answer)) same number fits answered.is;
  ran = answered.ran;
  told = answered.told;
}

-- an answerer that was asked for a line that passes no limit halted there
pub asked-halted : {R C W : Type 0} (Ran : W → R → Type 0) (Halted : W → R → List ℕ → Halt C → Type 0) (n start : ℕ)
    (kept rest : List ℕ) (new : W) (stream : Stream R) (line all : List ℕ) (halt : Halt C) → line ≡ all
    → n ≡ next_number stream → is_too_long n start line ≡ false → Halted new stream.run (text_of line) halt
    → IsHalted Ran Halted start kept rest new stream all halt
asked-halted {C = C} Ran Halted n start kept rest new stream line all halt same number fits halted =
    subst (λ l. IsHalted Ran Halted start kept rest new stream l halt) same
    (by halt (subst (λ m. is_too_long m start line ≡ false) number fits) halted)
  where
    by : (halt : Halt C) → is_too_long (next_number stream) start line ≡ false
        → Halted new stream.run (text_of line) halt → IsHalted Ran Halted start kept rest new stream line halt
    by (Stops TooLongStop) fits halted = inr halted
    by (Stops BadLineStop) fits halted = halted
    by (Stops (Ends cause)) fits halted = halted
    by Failed fits halted = (fits, halted)
    by NoMemory fits halted = inr (fits, halted)
