-- What ends a stream: a line, or the end of what is read.
use Rattle.std.proofs.Common.{◌≡◌, ℕ, ◌+◌, ◌-◌, ◌<◌, ◌==◌, ◌||◌, Bool, true, false, if◌then◌else◌, List, [], ◌∷◌, ◌++◌, length, take, Result, Ok, Err, inl, inr, refl, sym, ap, ◌∙◌, subst, arith, append_assoc}
use Rattle.std.specs.Prelude.{◌≢◌, sum_by, slice_index_or, IfOk, IfErr}
use Rattle.std.proofs.lemmas.Bool.{true≢false, eqb-true}
use Rattle.std.proofs.lemmas.List.{append-nil, length-append}
use Rattle.std.proofs.lemmas.List.Sums.{sum_by-append}
use Rattle.std.proofs.Math.Seq.{take-append_seam, take-append-add}
use Rattle.streamed_lines.specs.declared.ending.Ending.{Ending}
use Rattle.streamed_lines.specs.declared.ending.Ending.TheVariants.{Complete, BadLine, ReadFault, TooLong}
use Rattle.streamed_lines.specs.declared.ending.Stop.{Stop}
use Rattle.streamed_lines.specs.declared.ending.Stop.TheVariants.{BadLine as BadLineStop, TooLong as TooLongStop, Ends}
use Rattle.streamed_lines.specs.declared.ending.Halt.{Halt}
use Rattle.streamed_lines.specs.declared.ending.Halt.TheVariants.{Stops, Failed, NoMemory}
use Rattle.streamed_lines.specs.declared.ending.Break.{Break}
use Rattle.streamed_lines.specs.declared.ending.Break.TheVariants.{NoMemory as NoMemoryBreak}
use Rattle.streamed_lines.specs.Lines.{lines_in, is_whole, text_of, is_too_long, limit_of, HasNoFeed, EndsWithItsFeed}
use Rattle.streamed_lines.specs.Streams.{Rules, Stream, next_number, ending_at, with_answer, end_of_input, line_stream, stream_of}
use Rattle.streamed_lines.specs.Bounds.{room, line_at, start_of, end_of, TakesFew}
use Rattle.streamed_lines.specs.Reading.{halted_at, next_text, DoesLine, Gathers, StopsAt, IsKept, StopsKept, RunsTo, Reads, HaltedAt, IsHalted, IsLeft, HaltsNext, IsKeptNext, IsBroken, EndsAs, BreaksOff, HaltsWith}
use Rattle.streamed_lines.proofs.LineLaws.{plain-open, feed-append, whole-feed, text-kept, lines_in-feed, lines_in-unfinished, kept-fits}
use Rattle.streamed_lines.proofs.StreamLaws.{stream-stops, stream-ends, stream-answers, stream-over, waits, too-long}

-- ---- how much was taken

take-next : (cut : List (List ℕ)) (line : List ℕ) (more : List (List ℕ)) (n : ℕ) → n ≡ length cut + 1
    → take n (cut ++ line ∷ more) ≡ cut ++ line ∷ []
take-next cut line more n is = ap (λ m. take m (cut ++ line ∷ more)) is ∙ take-append-add cut (line ∷ more) 1

nth-is : (cut : List (List ℕ)) (line : List ℕ) (more : List (List ℕ))
    → slice_index_or (cut ++ line ∷ more) (length cut) [] ≡ line
nth-is [] line more = refl
nth-is (x ∷ cut) line more = nth-is cut line more

-- all lines of an input end where it does
few-all : (bytes : List ℕ) (lines : List (List ℕ)) (n : ℕ) → lines_in bytes ≡ lines → n ≡ length lines + 1
    → sum_by length lines ≡ length bytes → length bytes < end_of bytes n + room
few-all bytes lines n is number size =
    let all : end_of bytes n ≡ sum_by length lines =
    ap (λ ls. sum_by length (take n ls)) is ∙ ap (sum_by length) (take-over lines n number) in
    omega (arith, all, size)
  where
    take-over : (lines : List (List ℕ)) (n : ℕ) → n ≡ length lines + 1 → take n lines ≡ lines
    take-over lines n is =
        ap (λ m. take m lines) is ∙ ap (λ ls. take (length lines + 1) ls) (sym (append-nil lines))
        ∙ take-append-add lines [] 1 ∙ append-nil lines

module _ {R C : Type 0} (rules : Rules R C) (first : R) (front line : List ℕ) (stream : Stream R) (n : ℕ)
    (runs : RunsTo rules first front stream) (number : n ≡ next_number stream) where
  end-is : (bytes : List ℕ) (more : List (List ℕ)) → lines_in bytes ≡ runs.cut ++ line ∷ more
      → end_of bytes n ≡ length front + length line
  end-is bytes more lines =
      ap (λ ls. sum_by length (take n ls)) lines
      ∙ ap (sum_by length) (take-next runs.cut line more n (omega (arith, number, runs.count)))
      ∙ sum_by-append length runs.cut (line ∷ []) ∙ omega (arith, runs.size)

  start-is : (bytes : List ℕ) (more : List (List ℕ)) → lines_in bytes ≡ runs.cut ++ line ∷ more
      → start_of bytes n ≡ length front
  start-is bytes more lines =
      let place : n - 1 ≡ length runs.cut = omega (arith, number, runs.count) in
      ap (λ ls. sum_by length (take (n - 1) ls)) lines
      ∙ ap (λ m. sum_by length (take m (runs.cut ++ line ∷ more))) place
      ∙ ap (sum_by length) (take-append_seam runs.cut (line ∷ more)) ∙ runs.size

  line-is : (bytes : List ℕ) (more : List (List ℕ)) → lines_in bytes ≡ runs.cut ++ line ∷ more
      → line_at bytes n ≡ line
  line-is bytes more lines =
      let place : n - 1 ≡ length runs.cut = omega (arith, number, runs.count) in
      ap (λ ls. slice_index_or ls (n - 1) []) lines
      ∙ ap (λ m. slice_index_or (runs.cut ++ line ∷ more) m []) place ∙ nth-is runs.cut line more

  -- a line that ends with its line feed is the next one
  next-whole : (rest : List ℕ) → EndsWithItsFeed line → next_text (front ++ (line ++ rest)) stream ≡ text_of line
  next-whole rest ends =
      ap (λ k. text_of (line_at (front ++ (line ++ rest)) k)) (sym number)
      ∙ ap text_of (line-is (front ++ (line ++ rest)) (lines_in rest)
      (runs.cuts (line ++ rest) ∙ ap (λ ls. runs.cut ++ ls) (lines_in-feed line rest ends)))

  -- so is a last line
  next-last : HasNoFeed line → line ≢ [] → next_text (front ++ line) stream ≡ text_of line
  next-last plain some =
      ap (λ k. text_of (line_at (front ++ line) k)) (sym number)
      ∙ ap text_of (line-is (front ++ line) []
      (runs.cuts line ∙ ap (λ ls. runs.cut ++ ls) (lines_in-unfinished line some plain)))

  -- an answerer that was asked for the line halted at the next one
  halts-next : {W : Type 0} (Ran : W → R → Type 0) (Halted : W → R → List ℕ → Halt C → Type 0) (ended : Bool)
      (bytes : List ℕ) (more : List (List ℕ)) → lines_in bytes ≡ runs.cut ++ line ∷ more
      → (ended || is_whole line) ≡ true → (answerer : W) (halt : Halt C) (start : ℕ) → start ≡ length front
      → HaltedAt Ran Halted start answerer stream line halt → HaltsNext Ran Halted ended bytes answerer stream halt
  halts-next Ran Halted ended bytes more lines seen answerer halt start size halted =
      let at : line_at bytes (next_number stream) ≡ line =
      ap (line_at bytes) (sym number) ∙ line-is bytes more lines in
      let begins : start_of bytes (next_number stream) ≡ start =
      ap (start_of bytes) (sym number) ∙ start-is bytes more lines ∙ sym size in (
        record {
          fits =
              ap (λ m. is_too_long (next_number stream) m (line_at bytes (next_number stream))) begins
              ∙ ap (is_too_long (next_number stream) start) at ∙ halted.0;
          seen = ap (λ l. ended || is_whole l) at ∙ seen;
        },
        subst (λ l. Halted answerer stream.run (text_of l) halt) (sym at) halted.1,
      )

  -- few bytes were taken behind a line that ends with its line feed
  few-whole : (rest : List ℕ) → EndsWithItsFeed line → length rest < room
      → length (front ++ (line ++ rest)) < end_of (front ++ (line ++ rest)) n + room
  few-whole rest ends short =
      let lines : lines_in (front ++ (line ++ rest)) ≡ runs.cut ++ line ∷ lines_in rest =
      runs.cuts (line ++ rest) ∙ ap (λ ls. runs.cut ++ ls) (lines_in-feed line rest ends) in
      let end = end-is (front ++ (line ++ rest)) (lines_in rest) lines in
      omega (arith, end, short, length-append front (line ++ rest), length-append line rest)

  few-long : (rest : List ℕ) → EndsWithItsFeed line → length rest < room
      → TakesFew {C = C} (front ++ (line ++ rest)) (TooLong n)
  few-long rest ends short =
      let bytes = front ++ (line ++ rest) in
      let lines : lines_in bytes ≡ runs.cut ++ line ∷ lines_in rest =
      runs.cuts (line ++ rest) ∙ ap (λ ls. runs.cut ++ ls) (lines_in-feed line rest ends) in
      let is_whole_line : is_whole (line_at bytes n) ≡ true =
      ap is_whole (line-is bytes (lines_in rest) lines) ∙ whole-feed line ends in
      subst (λ (b : Bool). length bytes < (if b then end_of bytes n else limit_of n (start_of bytes n)) + room)
      (sym is_whole_line)
      (few-whole rest ends short)

  few-feed : (rest : List ℕ) (stop : Stop C) → EndsWithItsFeed line → length rest < room
      → TakesFew (front ++ (line ++ rest)) (ending_at n stop)
  few-feed rest BadLineStop ends short = few-whole rest ends short
  few-feed rest TooLongStop ends short = few-long rest ends short
  few-feed rest (Ends cause) ends short = few-whole rest ends short

  -- few bytes were taken where what is there of a line passes a limit
  few-open : HasNoFeed line → line ≢ [] → length (front ++ line) < limit_of n (length front) + room
      → TakesFew {C = C} (front ++ line) (TooLong n)
  few-open plain some few =
      let bytes = front ++ line in
      let lines : lines_in bytes ≡ runs.cut ++ line ∷ [] =
      runs.cuts line ∙ ap (λ ls. runs.cut ++ ls) (lines_in-unfinished line some plain) in
      let is_open_line : is_whole (line_at bytes n) ≡ false =
      ap is_whole (line-is bytes [] lines) ∙ plain-open line plain in
      subst (λ (b : Bool). length bytes < (if b then end_of bytes n else limit_of n (start_of bytes n)) + room)
      (sym is_open_line)
      (subst (λ m. length bytes < limit_of n m + room) (sym (start-is bytes [] lines)) few)

  -- few bytes were taken behind a last line
  few-last : HasNoFeed line → line ≢ [] → length (front ++ line) < end_of (front ++ line) n + room
  few-last plain some =
      let lines : lines_in (front ++ line) ≡ runs.cut ++ line ∷ [] =
      runs.cuts line ∙ ap (λ ls. runs.cut ++ ls) (lines_in-unfinished line some plain) in
      omega (arith, end-is (front ++ line) [] lines, length-append front line)

  few-unfinished : (stop : Stop C) → HasNoFeed line → line ≢ []
      → length (front ++ line) < limit_of n (length front) + room
      → TakesFew (front ++ line) (ending_at n stop)
  few-unfinished BadLineStop plain some few = few-last plain some
  few-unfinished TooLongStop plain some few = few-open plain some few
  few-unfinished (Ends cause) plain some few = few-last plain some

no-more : (cut : List (List ℕ)) → cut ++ lines_in [] ≡ cut
unfolding lines_in
no-more cut = append-nil cut

-- a line is missing at the end of an input
few-end : {R C : Type 0} (rules : Rules R C) (bytes : List ℕ) (stream : Stream R) (lines : List (List ℕ))
    → lines_in bytes ≡ lines → length lines ≡ stream.count → sum_by length lines ≡ length bytes
    → TakesFew bytes (end_of_input rules true stream)
few-end {C = C} rules bytes stream lines is count size =
    elim (rules.may_end stream.run) as
    (λ t. TakesFew {C = C} bytes (if t then Complete else BadLine (next_number stream))) [
      | true ↦ tt
      | false ↦ few-all bytes lines (next_number stream) is (omega (arith, count)) size
    ]

-- ---- where an answerer is left

-- where it is left by a line that stops the stream
left-by : {R C W : Type 0} (Ran : W → R → Type 0) (Halted : W → R → List ℕ → Halt C → Type 0) (answerer : W)
    (stream : Stream R) (kept rest line : List ℕ) (n start : ℕ) (stop : Stop C)
    → IsHalted Ran Halted start kept rest answerer stream line (Stops stop)
    → IsLeft Ran Halted answerer stream.run (text_of line) (ending_at n stop)
left-by Ran Halted answerer stream kept rest line n start BadLineStop halted = inr halted
left-by Ran Halted answerer stream kept rest line n start TooLongStop halted = halted
left-by Ran Halted answerer stream kept rest line n start (Ends cause) halted = halted

-- where it is left at the end of an input
left-over : {R C W : Type 0} (rules : Rules R C) (Ran : W → R → Type 0) (Halted : W → R → List ℕ → Halt C → Type 0)
    (answerer : W) (stream : Stream R) (next : List ℕ) → Ran answerer stream.run
    → IsLeft Ran Halted answerer stream.run next (end_of_input rules true stream)
left-over rules Ran Halted answerer stream next ran =
    elim (rules.may_end stream.run) as
    (λ t. IsLeft Ran Halted answerer stream.run next (if t then Complete else BadLine (next_number stream))) [
      | true ↦ ran
      | false ↦ inl ran
    ]

-- ---- what ends a stream whose bytes up to a line were read

module _ {R C W : Type 0} (rules : Rules R C) (first : R) (Ran : W → R → Type 0) (Halted : W → R → List ℕ → Halt C → Type 0)
    (bytes put text line : List ℕ) (n start : ℕ) (answerer : W)
    (reads : Reads rules first Ran bytes put text line n start answerer) where
  -- the line isn't answered, since the answerer failed or memory ran out
  breaks-failed : (given : ℕ) (ended : Bool) (all : List ℕ) (answerer' : W) (rest : List ℕ) → all ≡ reads.front ++ rest
      → HaltsNext Ran Halted ended all answerer' reads.stream Failed
      → HaltsWith rules first Ran Halted given ended all put text n answerer' Failed
  breaks-failed given ended all answerer' rest whole halted = record {
    front = reads.front;
    rest = rest;
    stream = reads.stream;
    whole = whole;
    runs = reads.runs;
    put_is = reads.told;
    broken = halted;
  }

  breaks-memory : (given : ℕ) (ended : Bool) (all : List ℕ) (answerer' : W) (rest : List ℕ) → all ≡ reads.front ++ rest
      → IsBroken Ran Halted false given ended all answerer' reads.stream NoMemoryBreak
      → HaltsWith rules first Ran Halted given ended all put text n answerer' NoMemory
  breaks-memory given ended all answerer' rest whole halted = record {
    front = reads.front;
    rest = rest;
    stream = reads.stream;
    whole = whole;
    runs = reads.runs;
    put_is = (text, reads.told);
    broken = halted;
  }

  same-bytes : (own rest : List ℕ) → bytes ++ (own ++ rest) ≡ reads.front ++ ((line ++ own) ++ rest)
  same-bytes own rest =
      ap (λ b. b ++ (own ++ rest)) reads.whole ∙ append_assoc reads.front line (own ++ rest)
      ∙ ap (λ b. reads.front ++ b) (sym (append_assoc line own rest))

  -- the next line isn't empty of which something was kept
  kept-whole : (own rest : List ℕ) → HasNoFeed line → EndsWithItsFeed own → line ≢ []
      → next_text (bytes ++ (own ++ rest)) reads.stream ≢ []
  kept-whole own rest plain ends some none =
      text-kept line own plain ends some
      (sym (next-whole rules first reads.front (line ++ own) reads.stream n reads.runs reads.number rest
      (feed-append line own plain ends))
      ∙ ap (λ b. next_text b reads.stream) (sym (same-bytes own rest)) ∙ none)

  -- the next line is kept that began in front of what was taken last
  kept-front : (given : ℕ) (own rest : List ℕ) → HasNoFeed line → EndsWithItsFeed own → line ≢ [] → 0 < given
      → start + given < length (bytes ++ (own ++ rest)) → IsKeptNext given (bytes ++ (own ++ rest)) reads.stream
  kept-front given own rest plain ends some more before =
      let all = line ++ own in
      let begins : start_of (bytes ++ (own ++ rest)) (next_number reads.stream) ≡ length reads.front =
      ap (start_of (bytes ++ (own ++ rest))) (sym reads.number) ∙ ap (λ b. start_of b n) (same-bytes own rest)
      ∙ start-is rules first reads.front all reads.stream n reads.runs reads.number (reads.front ++ (all ++ rest))
      (lines_in rest)
      (reads.runs.cuts (all ++ rest)
      ∙ ap (λ ls. reads.runs.cut ++ ls) (lines_in-feed all rest (feed-append line own plain ends))) in
      record {
        some = kept-whole own rest plain ends some;
        more = more;
        parted = inl (omega (arith, before, begins, reads.size));
      }

  -- so is one that isn't whole
  kept-open : (given : ℕ) → HasNoFeed line → line ≢ [] → 0 < given → IsKeptNext given bytes reads.stream
  kept-open given plain some more =
      let at : line_at bytes (next_number reads.stream) ≡ line =
      ap (line_at bytes) (sym reads.number) ∙ ap (λ b. line_at b n) reads.whole
      ∙ line-is rules first reads.front line reads.stream n reads.runs reads.number (reads.front ++ line) []
      (reads.runs.cuts line ∙ ap (λ ls. reads.runs.cut ++ ls) (lines_in-unfinished line some plain)) in
      record {
        some =
            λ none. some
            (sym (ap (λ (t : Bool). if t then take (length line - 1) line else line) (plain-open line plain))
            ∙ ap text_of (sym at) ∙ none);
        more = more;
        parted = inr (ap is_whole at ∙ plain-open line plain);
      }

  -- it halted at the line that ends there, which is the next one
  halted-whole : (answerer' : W) (own rest : List ℕ) (halt : Halt C) → HasNoFeed line → EndsWithItsFeed own
      → HaltedAt Ran Halted start answerer' reads.stream (line ++ own) halt
      → HaltsNext Ran Halted false (bytes ++ (own ++ rest)) answerer' reads.stream halt
  halted-whole answerer' own rest halt plain ends halted =
      let whole = feed-append line own plain ends in
      subst (λ b. HaltsNext Ran Halted false b answerer' reads.stream halt) (sym (same-bytes own rest))
      (halts-next rules first reads.front (line ++ own) reads.stream n reads.runs reads.number Ran Halted false
      (reads.front ++ ((line ++ own) ++ rest)) (lines_in rest)
      (reads.runs.cuts ((line ++ own) ++ rest)
      ∙ ap (λ ls. reads.runs.cut ++ ls) (lines_in-feed (line ++ own) rest whole))
      (whole-feed (line ++ own) whole) answerer' halt start reads.size halted)

  whole-stop : (answerer' : W) (own rest : List ℕ) (ending : Ending C) → HasNoFeed line → EndsWithItsFeed own
      → DoesLine rules start reads.stream (line ++ own) (Err ending)
      → TakesFew (reads.front ++ ((line ++ own) ++ rest)) ending
      → IsLeft Ran Halted answerer' reads.stream.run (text_of (line ++ own)) ending
      → EndsAs rules first Ran Halted false (bytes ++ (own ++ rest)) put text ending answerer'
  whole-stop answerer' own rest ending plain ends does few left =
      subst (λ b. EndsAs rules first Ran Halted false b put text ending answerer') (sym (same-bytes own rest))
      (record {
        stream = reads.stream;
        streams =
            stream-stops rules first false reads.front (line ++ own) rest reads.stream ending reads.runs
            (feed-append line own plain ends)
            (subst (λ m. DoesLine rules m reads.stream (line ++ own) (Err ending)) reads.size does);
        told = reads.told;
        few = few;
        left =
            subst (λ next. IsLeft Ran Halted answerer' reads.stream.run next ending)
            (sym (next-whole rules first reads.front (line ++ own) reads.stream n reads.runs reads.number rest
            (feed-append line own plain ends)))
            left;
      })

  -- a line with its line feed
  pub line-stops : (given : ℕ) (answerer' : W) (own rest : List ℕ) (halt : Halt C) → HasNoFeed line
      → EndsWithItsFeed own → length rest < room → 0 < given
      → (line ≢ [] → start + given < length (bytes ++ (own ++ rest)))
      → StopsAt rules start reads.stream (line ++ own) halt
      → IsHalted Ran Halted start line own answerer' reads.stream (line ++ own) halt
      → HaltsWith rules first Ran Halted given false (bytes ++ (own ++ rest)) put text n answerer' halt
  line-stops given answerer' own rest Failed plain ends short more before at halted =
      breaks-failed given false (bytes ++ (own ++ rest)) answerer' ((line ++ own) ++ rest) (same-bytes own rest)
      (halted-whole answerer' own rest Failed plain ends halted)
  line-stops given answerer' own rest NoMemory plain ends short more before at halted =
      breaks-memory given false (bytes ++ (own ++ rest)) answerer' ((line ++ own) ++ rest) (same-bytes own rest)
      (elim halted [
        | inl kept ↦ inl (kept.0, inr (kept-front given own rest plain ends kept.1 more (before kept.1)))
        | inr asked ↦ inr (halted-whole answerer' own rest NoMemory plain ends asked)
      ])
  line-stops given answerer' own rest (Stops stop) plain ends short more before at halted =
      whole-stop answerer' own rest (ending_at n stop) plain ends
      (subst (λ m. DoesLine rules start reads.stream (line ++ own) (Err (ending_at m stop))) (sym reads.number) at)
      (few-feed rules first reads.front (line ++ own) reads.stream n reads.runs reads.number rest stop
      (feed-append line own plain ends) short)
      (left-by Ran Halted answerer' reads.stream line own (line ++ own) n start stop halted)

  -- what is kept of a line is fewer than a room behind its limit
  kept-few : IsKept n start line → length bytes < limit_of n start + room
  kept-few kept =
      let long : length bytes ≡ start + length line =
      ap length reads.whole ∙ omega (arith, length-append reads.front line, reads.size) in
      let low = kept.fits in omega (arith, long, low)

  -- what is there of a line already passes a limit
  pub kept-stops : (given : ℕ) (halt : Halt C) → HasNoFeed line → length bytes < limit_of n start + room → 0 < given
      → StopsKept n start line halt → HaltsWith rules first Ran Halted given false bytes put text n answerer halt
  kept-stops given Failed plain few more never = absurd never
  kept-stops given NoMemory plain few more at =
      breaks-memory given false bytes answerer line reads.whole (inl (reads.ran, inr (kept-open given plain at more)))
  kept-stops given (Stops BadLineStop) plain few more never = absurd never
  kept-stops given (Stops (Ends cause)) plain few more never = absurd never
  kept-stops given (Stops TooLongStop) plain few more at =
      let long : is_too_long (next_number reads.stream) (length reads.front) line ≡ true =
      subst (λ k. is_too_long k (length reads.front) line ≡ true) reads.number
      (subst (λ k. is_too_long n k line ≡ true) reads.size at.1)
      in
      subst (λ b. EndsAs rules first Ran Halted false b put text (TooLong n) answerer) (sym reads.whole)
      (record {
        stream = reads.stream;
        streams =
            stream-ends rules first false reads.front line reads.stream (TooLong n) reads.runs
            (lines_in-unfinished line at.0 plain)
            (too-long rules false (length reads.front) reads.stream line long
            ∙ ap (λ k. Err (TooLong k)) (sym reads.number));
        told = reads.told;
        few =
            few-open rules first reads.front line reads.stream n reads.runs reads.number plain at.0
            (subst (λ b. length b < limit_of n (length reads.front) + room) reads.whole
            (subst (λ k. length bytes < limit_of n k + room) reads.size few));
        left = inl reads.ran;
      })

  -- the last line of an input, whose end is the input's
  last-ends : (answerer' : W) (ending : Ending C) → HasNoFeed line → line ≢ []
      → DoesLine rules start reads.stream line (Err ending) → TakesFew (reads.front ++ line) ending
      → IsLeft Ran Halted answerer' reads.stream.run (text_of line) ending
      → EndsAs rules first Ran Halted true bytes put text ending answerer'
  last-ends answerer' ending plain some does few left =
      subst (λ b. EndsAs rules first Ran Halted true b put text ending answerer') (sym reads.whole)
      (record {
        stream = reads.stream;
        streams =
            stream-ends rules first true reads.front line reads.stream ending reads.runs
            (lines_in-unfinished line some plain)
            (subst (λ m. line_stream rules true m reads.stream line ≡ Err ending) reads.size (does true refl));
        told = reads.told;
        few = few;
        left =
            subst (λ next. IsLeft Ran Halted answerer' reads.stream.run next ending)
            (sym (next-last rules first reads.front line reads.stream n reads.runs reads.number plain some)) left;
      })

  halted-last : (answerer' : W) (halt : Halt C) → HasNoFeed line → line ≢ []
      → HaltedAt Ran Halted start answerer' reads.stream line halt
      → HaltsNext Ran Halted true bytes answerer' reads.stream halt
  halted-last answerer' halt plain some halted =
      subst (λ b. HaltsNext Ran Halted true b answerer' reads.stream halt) (sym reads.whole)
      (halts-next rules first reads.front line reads.stream n reads.runs reads.number Ran Halted true
      (reads.front ++ line) []
      (reads.runs.cuts line ∙ ap (λ ls. reads.runs.cut ++ ls) (lines_in-unfinished line some plain))
      refl answerer' halt start reads.size halted)

  last-halts : (answerer' : W) (halt : Halt C) → IsKept n start line → line ≢ []
      → StopsAt rules start reads.stream line halt
      → IsHalted Ran Halted start line [] answerer' reads.stream line halt
      → HaltsWith rules first Ran Halted 0 true bytes put text n answerer' halt
  last-halts answerer' Failed kept some at halted =
      breaks-failed 0 true bytes answerer' line reads.whole (halted-last answerer' Failed kept.plain some halted)
  last-halts answerer' NoMemory kept some at halted =
      breaks-memory 0 true bytes answerer' line reads.whole
      (elim halted [
        | inl wrong ↦ absurd (wrong.2 refl)
        | inr asked ↦ inr (halted-last answerer' NoMemory kept.plain some asked)
      ])
  last-halts answerer' (Stops stop) kept some at halted =
      last-ends answerer' (ending_at n stop) kept.plain some
      (subst (λ m. DoesLine rules start reads.stream line (Err (ending_at m stop))) (sym reads.number) at)
      (few-unfinished rules first reads.front line reads.stream n reads.runs reads.number stop kept.plain some
      (subst (λ b. length b < limit_of n (length reads.front) + room) reads.whole
      (subst (λ k. length bytes < limit_of n k + room) reads.size (kept-few kept))))
      (left-by Ran Halted answerer' reads.stream line [] line n start stop halted)

  pub last-stops : (text' : List ℕ) (n' : ℕ) (answerer' : W) (halt : Halt C) → text' ≡ text → n' ≡ n
      → IsKept n start line → line ≢ [] → StopsAt rules start reads.stream (line ++ []) halt
      → IsHalted Ran Halted start line [] answerer' reads.stream (line ++ []) halt
      → HaltsWith rules first Ran Halted 0 true bytes put text' n' answerer' halt
  last-stops text' n' answerer' halt untold same kept some at halted =
      subst (λ t. HaltsWith rules first Ran Halted 0 true bytes put t n' answerer' halt) (sym untold)
      (subst (λ m. HaltsWith rules first Ran Halted 0 true bytes put text m answerer' halt) (sym same)
      (last-halts answerer' halt kept some
      (subst (λ l. StopsAt rules start reads.stream l halt) (append-nil line) at)
      (subst (λ l. IsHalted Ran Halted start line [] answerer' reads.stream l halt) (append-nil line) halted)))

  -- the last line was answered, and the input ends behind it
  pub last-answered : (text' : List ℕ) (n' : ℕ) (answerer' : W) (ending : Ending C) (rules' : Rules R C)
      → HasNoFeed line → line ≢ [] → Gathers rules Ran start reads.stream (line ++ []) text text' answerer'
      → n' ≡ n + 1 → rules' ≡ rules
      → ((stream : Stream R) → Ran answerer' stream.run → n' ≡ next_number stream
      → ending ≡ end_of_input rules' true stream)
      → EndsAs rules first Ran Halted true bytes put text' ending answerer'
  last-answered text' n' answerer' ending rules' plain some answered number same over =
      let gathers =
      subst (λ l. Gathers rules Ran start reads.stream l text text' answerer') (append-nil line) answered in
      let next : Stream R = with_answer reads.stream (gathers.next, gathers.answer) in
      let one = lines_in-unfinished line some plain in
      let is : ending ≡ end_of_input rules true next =
      over next gathers.ran (omega (arith, number, reads.number)) ∙ ap (λ r. end_of_input r true next) same in
      subst (λ e. EndsAs rules first Ran Halted true bytes put text' e answerer') (sym is)
      (subst (λ b. EndsAs rules first Ran Halted true b put text' (end_of_input rules true next) answerer')
      (sym reads.whole)
      (record {
        stream = next;
        streams =
            stream-answers rules first reads.front line reads.stream next reads.runs one
            (subst (λ m. line_stream rules true m reads.stream line ≡ Ok next) reads.size (gathers.does true refl));
        told =
            ap (λ t. put ++ t) gathers.told ∙ sym (append_assoc put text gathers.answer)
            ∙ ap (λ t. t ++ gathers.answer) reads.told;
        few =
            few-end rules (reads.front ++ line) next (reads.runs.cut ++ line ∷ [])
            (reads.runs.cuts line ∙ ap (λ ls. reads.runs.cut ++ ls) one)
            (length-append reads.runs.cut (line ∷ []) ∙ omega (arith, reads.runs.count))
            (sum_by-append length reads.runs.cut (line ∷ [])
            ∙ omega (arith, reads.runs.size, length-append reads.front line));
        left = left-over rules Ran Halted answerer' next _ gathers.ran;
      }))

  -- no last line is there
  pub over-answered : (ending : Ending C) → line ≡ [] → ending ≡ end_of_input rules true reads.stream
      → EndsAs rules first Ran Halted true bytes put text ending answerer
  over-answered ending none is =
      let all : bytes ≡ reads.front ++ [] = reads.whole ∙ ap (λ l. reads.front ++ l) none in
      subst (λ e. EndsAs rules first Ran Halted true bytes put text e answerer) (sym is)
      (subst (λ b. EndsAs rules first Ran Halted true b put text (end_of_input rules true reads.stream) answerer)
      (sym all)
      (record {
        stream = reads.stream;
        streams = stream-over rules first true reads.front reads.stream reads.runs;
        told = reads.told;
        few =
            few-end rules (reads.front ++ []) reads.stream reads.runs.cut
            (reads.runs.cuts [] ∙ no-more reads.runs.cut) reads.runs.count
            (reads.runs.size ∙ ap length (sym (append-nil reads.front)));
        left = left-over rules Ran Halted answerer reads.stream _ reads.ran;
      }))

  -- the source failed: what is there of a line isn't answered
  pub fault-ends : IsKept n start line → EndsAs rules first Ran Halted false bytes put text ReadFault answerer
  fault-ends kept =
      subst (λ b. EndsAs rules first Ran Halted false b put text ReadFault answerer) (sym reads.whole)
      (record {
        stream = reads.stream;
        streams = faults line kept;
        told = reads.told;
        few = tt;
        left = reads.ran;
      })
    where
      some-not : (b : ℕ) (bs : List ℕ) → (b ∷ bs) ≢ []
      some-not b bs wrong = absurd (cc)

      faults : (line : List ℕ) → IsKept n start line
          → stream_of rules first (reads.front ++ line) false ≡ record { stream = reads.stream; ending = ReadFault }
      faults [] kept = stream-over rules first false reads.front reads.stream reads.runs
      faults (b ∷ bs) kept =
          let line = b ∷ bs in
          let some : line ≢ [] = λ wrong. some-not b bs wrong in
          let fits = kept-fits n start line kept some in
          let at : is_too_long (next_number reads.stream) (length reads.front) line ≡ false =
          subst (λ k. is_too_long k (length reads.front) line ≡ false) reads.number
          (subst (λ k. is_too_long n k line ≡ false) reads.size fits)
          in
          stream-ends rules first false reads.front line reads.stream ReadFault reads.runs
          (lines_in-unfinished line some kept.plain)
          (waits rules (length reads.front) reads.stream line at (plain-open line kept.plain))

-- ---- what a line that isn't answered comes to

module _ {R C W : Type 0} (rules : Rules R C) (first : R) (Ran : W → R → Type 0) (Halted : W → R → List ℕ → Halt C → Type 0)
    (given : ℕ) (ended : Bool) (bytes put text : List ℕ) (n : ℕ) (answerer : W) where
  pub halts-end : (halt : Halt C) (result : Result (Ending C) Break) → result ≡ halted_at n halt
      → HaltsWith rules first Ran Halted given ended bytes put text n answerer halt
      → IfOk result (λ ending. EndsAs rules first Ran Halted ended bytes put text ending answerer)
  halts-end halt result is halts =
      subst (λ r. IfOk r (λ ending. EndsAs rules first Ran Halted ended bytes put text ending answerer)) (sym is)
      (by_halt halt halts)
    where
      by_halt : (halt : Halt C) → HaltsWith rules first Ran Halted given ended bytes put text n answerer halt
          → IfOk (halted_at n halt) (λ ending. EndsAs rules first Ran Halted ended bytes put text ending answerer)
      by_halt (Stops stop) halts = halts
      by_halt Failed halts = tt
      by_halt NoMemory halts = tt

  pub halts-break : (halt : Halt C) (result : Result (Ending C) Break) → result ≡ halted_at n halt
      → HaltsWith rules first Ran Halted given ended bytes put text n answerer halt
      → IfErr result (λ why. BreaksOff rules first Ran Halted false given ended bytes put text why answerer)
  halts-break halt result is halts =
      subst (λ r. IfErr r (λ why. BreaksOff rules first Ran Halted false given ended bytes put text why answerer))
      (sym is) (by_halt halt halts)
    where
      by_halt : (halt : Halt C) → HaltsWith rules first Ran Halted given ended bytes put text n answerer halt
          → IfErr (halted_at n halt)
          (λ why. BreaksOff rules first Ran Halted false given ended bytes put text why answerer)
      by_halt (Stops stop) halts = tt
      by_halt Failed halts = halts
      by_halt NoMemory halts = halts

pub empty-is : (xs : List ℕ) (n : ℕ) → n ≡ length xs → (n == 0) ≡ true → xs ≡ []
empty-is [] n long is = refl
empty-is (x ∷ xs) n long wrong = let none : n ≡ 0 = eqb-true n 0 wrong in absurd (omega (arith, none, long))

pub some-is : (xs : List ℕ) (n : ℕ) → n ≡ length xs → (n == 0) ≡ false → xs ≢ []
some-is xs n long is none =
    true≢false (sym (ap (λ m. m == 0) (long ∙ ap length none)) ∙ is)
