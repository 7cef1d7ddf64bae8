-- The stream of a beginning of an input.
use Rattle.std.proofs.Common.{◌≡◌, ℕ, zero, suc, ◌+◌, ◌-◌, ◌≤◌, ◌||◌, Bool, true, false, nat_lt, if◌then◌else◌, List, [], ◌∷◌, ◌++◌, length, take, drop, Option, Some, None, Result, Ok, Err, position, refl, sym, ap, ◌∙◌, arith, append_assoc}
use Rattle.std.specs.Prelude.{◌≢◌}
use Rattle.std.proofs.lemmas.List.{append-nil, length-append, length-take, length-drop, take-append-drop}
use Rattle.std.proofs.lemmas.List.Quantifiers.{position-Some}
use Rattle.streamed_lines.specs.declared.TheConstants.{MOST_LINES, MOST_LINE_BYTES, MOST_INPUT_BYTES}
use Rattle.streamed_lines.specs.declared.ending.Ending.{Ending}
use Rattle.streamed_lines.specs.declared.ending.Ending.TheVariants.{Complete, ReadFault, TooLong}
use Rattle.streamed_lines.specs.declared.ending.Stop.{Stop}
use Rattle.streamed_lines.specs.declared.ending.Stop.TheVariants.{BadLine as BadLineStop, TooLong as TooLongStop, Ends}
use Rattle.streamed_lines.specs.Lines.{lines_in, before_lines, is_feed, is_whole, text_of, is_too_long, HasNoFeed}
use Rattle.streamed_lines.specs.Streams.{Rules, Stream, Streamed, no_lines, next_number, ending_at, stream_or, line_stream, stream_from, stream_of}
use Rattle.streamed_lines.specs.Laws.{BeginningsWait}
use Rattle.streamed_lines.proofs.LineLaws.{first-of, rest-of, plain-nil, plain-none, plain-open, feed-some, whole-feed, some-bytes, lines_in-feed, lines_in-unfinished}
use Rattle.streamed_lines.proofs.StreamLaws.{waits, too-long, at-line}

-- ---- a line that was cut

-- lines of which the first is longer by these bytes in front
joined : List ℕ → List (List ℕ) → List (List ℕ)
joined front [] = front ∷ []
joined front (line ∷ lines) = (front ++ line) ∷ lines

joins-one : (byte : ℕ) (lines : List (List ℕ)) → before_lines byte lines ≡ joined (byte ∷ []) lines
unfolding joined
joins-one byte [] = refl
joins-one byte (line ∷ lines) = refl

joins-more : (byte : ℕ) (front : List ℕ) (lines : List (List ℕ))
    → before_lines byte (joined front lines) ≡ joined (byte ∷ front) lines
unfolding joined
joins-more byte front [] = refl
joins-more byte front (line ∷ lines) = refl

lines_in-joined : (front rest : List ℕ) → front ≢ [] → HasNoFeed front
    → lines_in (front ++ rest) ≡ joined front (lines_in rest)
unfolding lines_in
lines_in-joined [] rest some plain = absurd (some refl)
lines_in-joined (b ∷ []) rest some plain = rw (first-of b [] plain) (joins-one b (lines_in rest))
lines_in-joined (b ∷ c ∷ cs) rest some plain =
    rw (first-of b (c ∷ cs) plain)
    (ap (before_lines b) (lines_in-joined (c ∷ cs) rest (some-bytes c cs) (rest-of b (c ∷ cs) plain))
    ∙ joins-more b (c ∷ cs) (lines_in rest))

text-less : (front more : List ℕ) → HasNoFeed front → length front ≤ length (text_of (front ++ more))
text-less front more plain = at (is_whole (front ++ more)) refl more refl
  where
    at : (whole : Bool) → is_whole (front ++ more) ≡ whole → (own : List ℕ) → more ≡ own
        → length front ≤ length (if whole then take (length (front ++ more) - 1) (front ++ more) else (front ++ more))
    at false is own same = omega (arith, length-append front more)
    at true is [] same =
        absurd (cc (is, plain-open front plain, ap (λ own. is_whole (front ++ own)) same, append-nil front))
    at true is (b ∷ bs) same =
        omega (
          arith,
          length-append front more,
          ap length same,
          length-take (length (front ++ more) - 1) (front ++ more),
        )

fits-less : (n start a b c d : ℕ) → a ≤ b → c ≤ d
    → (nat_lt MOST_LINES n || nat_lt MOST_LINE_BYTES b || nat_lt MOST_INPUT_BYTES (start + d)) ≡ false
    → (nat_lt MOST_LINES n || nat_lt MOST_LINE_BYTES a || nat_lt MOST_INPUT_BYTES (start + c)) ≡ false
fits-less n start a b c d less less' fits = grind arith

cut-fits : (n start : ℕ) (front more : List ℕ) → HasNoFeed front → is_too_long n start (front ++ more) ≡ false
    → is_too_long n start front ≡ false
cut-fits n start front more plain fits =
    let text : length (text_of front) ≡ length front =
    ap (λ whole. length (if whole then take (length front - 1) front else front)) (plain-open front plain) in
    fits-less n start (length (text_of front)) (length (text_of (front ++ more))) (length front)
    (length (front ++ more)) (omega (arith, text, text-less front more plain))
    (omega (arith, length-append front more)) fits

-- ---- by these rules

module _ {R C : Type 0} (rules : Rules R C) where
  -- the ending of a stream that goes on with these lines
  abbrev ending_of : Bool → ℕ → Stream R → List (List ℕ) → Ending C
  ending_of ended start stream lines = (stream_from rules ended start stream lines).ending

  ends-at : (ended : Bool) (start : ℕ) (stream : Stream R) (line : List ℕ) (lines : List (List ℕ)) (ending : Ending C)
      → line_stream rules ended start stream line ≡ Err ending → ending_of ended start stream (line ∷ lines) ≡ ending
  ends-at ended start stream line lines ending is =
      ap (λ (s : Streamed R C). s.ending) (at-line rules ended start stream line lines (Err ending) is)

  goes-past : (ended : Bool) (start : ℕ) (stream next : Stream R) (line : List ℕ) (lines : List (List ℕ))
      → line_stream rules ended start stream line ≡ Ok next
      → ending_of ended start stream (line ∷ lines) ≡ ending_of ended (start + length line) next lines
  goes-past ended start stream next line lines is =
      ap (λ (s : Streamed R C). s.ending) (at-line rules ended start stream line lines (Ok next) is)

  long-not : (n : ℕ) (ending : Ending C) → ending ≡ TooLong n → ending ≡ Complete → ⊥
  long-not n ending is wrong = cc

  stop-not : (n : ℕ) (stop : Stop C) → ending_at n stop ≡ Complete → ⊥
  stop-not n BadLineStop wrong = cc
  stop-not n TooLongStop wrong = cc
  stop-not n (Ends cause) wrong = cc

  -- where a stream is complete its next line fits
  complete-fits : (start : ℕ) (stream : Stream R) (line : List ℕ) (lines : List (List ℕ))
      → ending_of true start stream (line ∷ lines) ≡ Complete → is_too_long (next_number stream) start line ≡ false
  complete-fits start stream line lines complete = at (is_too_long (next_number stream) start line) refl
    where
      at : (long : Bool) → is_too_long (next_number stream) start line ≡ long → long ≡ false
      at false is = refl
      at true is =
          absurd (long-not (next_number stream) (ending_of true start stream (line ∷ lines))
          (ends-at true start stream line lines (TooLong (next_number stream))
          (too-long rules true start stream line is)) complete)

  -- no line that ends a stream completes it
  by-text : (start : ℕ) (stream : Stream R) (line : List ℕ) (outcome : Result (R × List ℕ) (Stop C))
      → rules.next stream.run (text_of line) ≡ outcome
      → is_too_long (next_number stream) start line ≡ false
      → line_stream rules true start stream line ≡ stream_or stream outcome
  unfolding line_stream
  by-text start stream line outcome is fits = rw fits (ap (stream_or stream) is)

  complete-next : (start : ℕ) (stream : Stream R) (line : List ℕ) (lines : List (List ℕ))
      → ending_of true start stream (line ∷ lines) ≡ Complete
      → (next : Stream R) × (line_stream rules true start stream line ≡ Ok next)
  complete-next start stream line lines complete = at (rules.next stream.run (text_of line)) refl
    where
      fits : is_too_long (next_number stream) start line ≡ false
      fits = complete-fits start stream line lines complete

      at : (outcome : Result (R × List ℕ) (Stop C)) → rules.next stream.run (text_of line) ≡ outcome
          → (next : Stream R) × (line_stream rules true start stream line ≡ Ok next)
      at (Ok answered) is = (_, by-text start stream line (Ok answered) is fits)
      at (Err stop) is =
          absurd (stop-not (next_number stream) stop
          (sym (ends-at true start stream line lines (ending_at (next_number stream) stop)
          (by-text start stream line (Err stop) is fits)) ∙ complete))

  whole-same : (start : ℕ) (stream : Stream R) (line : List ℕ) → is_whole line ≡ true
      → line_stream rules false start stream line ≡ line_stream rules true start stream line
  unfolding line_stream
  whole-same start stream line whole = rw whole refl

  -- what is there of a line waits for the rest of it
  cut-waits : (start : ℕ) (stream : Stream R) (front rest : List ℕ) → HasNoFeed front
      → ending_of true start stream (lines_in (front ++ rest)) ≡ Complete
      → ending_of false start stream (lines_in front) ≡ ReadFault
  unfolding stream_from lines_in joined
  cut-waits start stream [] rest plain complete = refl
  cut-waits start stream (b ∷ bs) rest plain complete =
      let front = b ∷ bs in
      let some : front ≢ [] = some-bytes b bs in
      ap (ending_of false start stream) (lines_in-unfinished front some plain)
      ∙ ends-at false start stream front [] ReadFault
      (waits rules start stream front
      (by (lines_in rest) (ap (ending_of true start stream) (sym (lines_in-joined front rest some plain)) ∙ complete))
      (plain-open front plain))
    where
      by : (lines : List (List ℕ)) → ending_of true start stream (joined (b ∷ bs) lines) ≡ Complete
          → is_too_long (next_number stream) start (b ∷ bs) ≡ false
      by [] is = complete-fits start stream (b ∷ bs) [] is
      by (line ∷ lines) is =
          cut-fits (next_number stream) start (b ∷ bs) line plain
          (complete-fits start stream ((b ∷ bs) ++ line) lines is)

  waits-on : (size start : ℕ) (stream : Stream R) (front rest : List ℕ) → length front ≤ size
      → ending_of true start stream (lines_in (front ++ rest)) ≡ Complete
      → ending_of false start stream (lines_in front) ≡ ReadFault
  waits-on zero start stream [] rest low complete = cut-waits start stream [] rest plain-nil complete
  waits-on zero start stream (b ∷ bs) rest low complete = absurd (omega (arith, low))
  waits-on (suc size) start stream front rest low complete =
      at (λ start' stream' back. waits-on size start' stream' back rest) (position is_feed front) refl
    where
      at : ((start' : ℕ) (stream' : Stream R) (back : List ℕ) → length back ≤ size
          → ending_of true start' stream' (lines_in (back ++ rest)) ≡ Complete
          → ending_of false start' stream' (lines_in back) ≡ ReadFault)
          → (found : Option ℕ) → position is_feed front ≡ found
          → ending_of false start stream (lines_in front) ≡ ReadFault
      at again None none = cut-waits start stream front rest (plain-none front none) complete
      at again (Some i) found =
          let line = take (i + 1) front in
          let back = drop (i + 1) front in
          let ends = feed-some front i found in
          let place = position-Some is_feed front i 0 found in
          let cut : line ++ back ≡ front = take-append-drop (i + 1) front in
          let all : lines_in (front ++ rest) ≡ line ∷ lines_in (back ++ rest) =
          ap (λ f. lines_in (f ++ rest)) (sym cut) ∙ ap lines_in (append_assoc line back rest)
          ∙ lines_in-feed line (back ++ rest) ends in
          let own : lines_in front ≡ line ∷ lines_in back = ap lines_in (sym cut) ∙ lines_in-feed line back ends in
          let here : ending_of true start stream (line ∷ lines_in (back ++ rest)) ≡ Complete =
          ap (ending_of true start stream) (sym all) ∙ complete in
          let next = complete-next start stream line (lines_in (back ++ rest)) here in
          ap (ending_of false start stream) own
          ∙ goes-past false start stream next.0 line (lines_in back)
          (whole-same start stream line (whole-feed line ends) ∙ next.1)
          ∙ again (start + length line) next.0 back (omega (arith, low, place.0, length-drop (i + 1) front))
          (sym (goes-past true start stream next.0 line (lines_in (back ++ rest)) next.1) ∙ here)

  pub beginnings_wait : BeginningsWait rules
  unfolding stream_of
  beginnings_wait first front rest complete =
      waits-on (length front) 0 (no_lines first) front rest (omega arith) complete
