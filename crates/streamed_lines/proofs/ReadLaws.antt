-- What was read of an input, from line to line and from take to take.
use Rattle.std.proofs.Common.{◌≡◌, ℕ, ◌+◌, ◌<◌, ◌≤◌, true, false, min, nat_lt, if◌then◌else◌, List, [], ◌++◌, length, take, drop, Some, Result, Ok, Err, refl, sym, ap, ◌∙◌, subst, arith, append_assoc, position}
use Rattle.std.specs.Prelude.{◌≢◌, OnOk}
use Rattle.std.proofs.lemmas.List.{append-nil, length-append, length-take, length-drop, take-append-drop}
use Rattle.streamed_lines.specs.declared.TheConstants.{MOST_LINES, MOST_LINE_BYTES, MOST_INPUT_BYTES}
use Rattle.streamed_lines.specs.declared.ending.Halt.{Halt}
use Rattle.streamed_lines.specs.Lines.{is_feed, limit_of, HasNoFeed, EndsWithItsFeed}
use Rattle.streamed_lines.specs.Streams.{Rules, Stream, no_lines, next_number, with_answer}
use Rattle.streamed_lines.specs.Bounds.{room}
use Rattle.streamed_lines.specs.Reading.{DoesLine, Gathers, StopsAt, IsKept, StopsKept, Reads, IsHalted, HaltsWith}
use Rattle.streamed_lines.proofs.LineLaws.{plain-nil, feed-some, feed-append}
use Rattle.streamed_lines.proofs.StreamLaws.{runs-none, runs-on}
use Rattle.streamed_lines.proofs.StopLaws.{line-stops, kept-stops}

pub on-ok : {T E : Type 0} (P Q : Type 0) (result : Result T E) → (P → Q) → OnOk result P → OnOk result Q
on-ok P Q (Ok x) more is = more is
on-ok P Q (Err e) more is = tt

-- ---- the beginning

pub nothing-read : {R C W : Type 0} (rules : Rules R C) (first : R) (Ran : W → R → Type 0) (answerer : W)
    → Ran answerer first → Reads rules first Ran [] [] [] [] 1 0 answerer
nothing-read rules first Ran answerer ran = record {
  front = [];
  stream = no_lines first;
  whole = refl;
  runs = runs-none rules first;
  ran = ran;
  number = refl;
  size = refl;
  told = refl;
}

pub kept-none : IsKept 1 0 []
kept-none = record { plain = plain-nil; lines = omega arith; starts = omega arith; fits = omega arith }

limit-above : (n start : ℕ) → start ≤ MOST_INPUT_BYTES → start ≤ limit_of n start
limit-above n start low =
    elim (nat_lt MOST_LINES n) as
    (λ t. start ≤ (if t then start else min (start + MOST_LINE_BYTES) MOST_INPUT_BYTES)) [
      | true ↦ omega arith
      | false ↦ grind arith
    ]

module _ {R C W : Type 0} (rules : Rules R C) (first : R) (Ran : W → R → Type 0)
    (bytes put text line : List ℕ) (n start : ℕ) (answerer : W)
    (reads : Reads rules first Ran bytes put text line n start answerer) where
  -- the gathered text is put
  pub reads-put : Reads rules first Ran bytes (put ++ text) [] line n start answerer
  reads-put = record {
    front = reads.front;
    stream = reads.stream;
    whole = reads.whole;
    runs = reads.runs;
    ran = reads.ran;
    number = reads.number;
    size = reads.size;
    told = append-nil (put ++ text) ∙ reads.told;
  }

  -- one more line was answered
  reads-line : (text' own : List ℕ) (answerer' : W) → HasNoFeed line → EndsWithItsFeed own
      → Gathers rules Ran start reads.stream (line ++ own) text text' answerer'
      → Reads rules first Ran (bytes ++ own) put text' [] (n + 1) (start + length line + length own) answerer'
  reads-line text' own answerer' plain ends gathers =
      let next : Stream R = with_answer reads.stream (gathers.next, gathers.answer) in
      let whole = feed-append line own plain ends in
      let does = subst (λ m. DoesLine rules m reads.stream (line ++ own) (Ok next)) reads.size gathers.does in
      record {
        front = reads.front ++ (line ++ own);
        stream = next;
        whole =
            ap (λ b. b ++ own) reads.whole ∙ append_assoc reads.front line own
            ∙ sym (append-nil (reads.front ++ (line ++ own)));
        runs = runs-on rules first reads.front (line ++ own) reads.stream next reads.runs whole does refl;
        ran = gathers.ran;
        number = omega (arith, reads.number);
        size = omega (arith, reads.size, length-append reads.front (line ++ own), length-append line own);
        told =
            ap (λ t. put ++ t) gathers.told ∙ sym (append_assoc put text gathers.answer)
            ∙ ap (λ t. t ++ gathers.answer) reads.told;
      }

-- ---- the lines in what was taken

-- What was taken is answered up to a place: the rest of it stands behind that.
pub record OnTheWay {R C W : Type 0} (rules : Rules R C) (Ran : W → R → Type 0) (taken rest : List ℕ)
    (text₀ line₀ : List ℕ) (n₀ start₀ : ℕ) (answerer₀ : W)
    (text line : List ℕ) (n start : ℕ) (answerer : W) : Type 0 where
  pub done : List ℕ
  pub split : taken ≡ done ++ rest
  pub reads : (first : R) (bytes put : List ℕ) → Reads rules first Ran bytes put text₀ line₀ n₀ start₀ answerer₀
      → Reads rules first Ran (bytes ++ done) put text line n start answerer
  pub plain : HasNoFeed line
  pub lines : n ≤ MOST_LINES + 1
  pub starts : start ≤ MOST_INPUT_BYTES
  pub size : start + length line + length rest ≡ start₀ + length line₀ + length taken
  pub few : start₀ + length line₀ + length taken < limit_of n start + room
  pub began : line ≢ [] → start < start₀ + length line₀

module _ {R C W : Type 0} (rules : Rules R C) (Ran : W → R → Type 0) (taken rest text₀ line₀ : List ℕ) (n₀ start₀ : ℕ)
    (answerer₀ : W) (text line : List ℕ) (n start : ℕ) (answerer : W)
    (way : OnTheWay rules Ran taken rest text₀ line₀ n₀ start₀ answerer₀ text line n start answerer) where
  -- a line was answered
  pub way-line : (i : ℕ) → position is_feed rest ≡ Some i → i < length rest → length taken ≤ room
      → (text' : List ℕ) (n' start' : ℕ) (answerer' : W) (rules' : Rules R C) → rules' ≡ rules → n' ≡ n + 1
      → n ≤ MOST_LINES → start' ≡ start + length line + length (take (i + 1) rest) → start' ≤ MOST_INPUT_BYTES
      → ((stream : Stream R) → Ran answerer stream.run → n ≡ next_number stream
      → Gathers rules' Ran start stream (line ++ take (i + 1) rest) text text' answerer')
      → OnTheWay rules Ran taken (drop (i + 1) rest) text₀ line₀ n₀ start₀ answerer₀ text' [] n' start' answerer'
  way-line i found low bound text' n' start' answerer' rules' same number most begins within gathers =
      let own = take (i + 1) rest in
      let ends = feed-some rest i found in
      let long : length own ≡ i + 1 = omega (arith, length-take (i + 1) rest) in
      let all : start' + length (drop (i + 1) rest) ≡ start₀ + length line₀ + length taken =
      omega (arith, way.size, begins, long, length-drop (i + 1) rest) in
      let short : length (drop (i + 1) rest) < room =
      omega (arith, bound, length-drop (i + 1) rest, ap length way.split, length-append way.done rest) in
      let above = limit-above n' start' within in
      record {
        done = way.done ++ own;
        split =
            way.split ∙ ap (λ r. way.done ++ r) (sym (take-append-drop (i + 1) rest))
            ∙ sym (append_assoc way.done own (drop (i + 1) rest));
        reads =
            λ first bytes put begun.
            let here = way.reads first bytes put begun in
            let next =
            reads-line rules first Ran (bytes ++ way.done) put text line n start answerer here text' own answerer'
            way.plain ends
            (subst (λ r. Gathers r Ran start here.stream (line ++ own) text text' answerer') same
            (gathers here.stream here.ran here.number)) in
            subst (λ b. Reads rules first Ran b put text' [] n' start' answerer') (append_assoc bytes way.done own)
            (subst (λ m. Reads rules first Ran ((bytes ++ way.done) ++ own) put text' [] m start' answerer')
            (sym number)
            (subst (λ m. Reads rules first Ran ((bytes ++ way.done) ++ own) put text' [] (n + 1) m answerer')
            (sym begins) next));
        plain = plain-nil;
        lines = omega (arith, number, most);
        starts = within;
        size = omega (arith, all);
        few = omega (arith, all, short, above);
        began = λ some. absurd (some refl);
      }

  -- what is left of what was taken is kept
  pub way-kept : (first : R) (bytes put : List ℕ) → Reads rules first Ran bytes put text₀ line₀ n₀ start₀ answerer₀
      → Reads rules first Ran (bytes ++ taken) put text (line ++ rest) n start answerer
  way-kept first bytes put begun =
      let here = way.reads first bytes put begun in
      record {
        front = here.front;
        stream = here.stream;
        whole =
            ap (λ t. bytes ++ t) way.split ∙ sym (append_assoc bytes way.done rest)
            ∙ ap (λ b. b ++ rest) here.whole ∙ append_assoc here.front line rest;
        runs = here.runs;
        ran = here.ran;
        number = here.number;
        size = here.size;
        told = here.told;
      }

  -- ---- what stops the lines in what was taken

  module _ (Halted : W → R → List ℕ → Halt C → Type 0) (first : R) (bytes put : List ℕ)
      (begun : Reads rules first Ran bytes put text₀ line₀ n₀ start₀ answerer₀) where
    pub way-stops : (i : ℕ) → position is_feed rest ≡ Some i → i < length rest → length taken ≤ room
        → (text' : List ℕ) (n' : ℕ) (answerer' : W) (halt : Halt C) (rules' : Rules R C) → rules' ≡ rules
        → text' ≡ text → n' ≡ n
        → ((stream : Stream R) → Ran answerer stream.run → n ≡ next_number stream
        → StopsAt rules' start stream (line ++ take (i + 1) rest) halt)
        → ((stream : Stream R) → Ran answerer stream.run → n ≡ next_number stream
        → IsHalted Ran Halted start line (take (i + 1) rest) answerer' stream (line ++ take (i + 1) rest) halt)
        → HaltsWith rules first Ran Halted (length taken) false (bytes ++ taken) put text' n' answerer' halt
    way-stops i found low bound text' n' answerer' halt rules' same untold number at halted =
        let here = way.reads first bytes put begun in
        let own = take (i + 1) rest in
        let later = drop (i + 1) rest in
        let short : length later < room =
        omega (arith, bound, low, length-drop (i + 1) rest, ap length way.split, length-append way.done rest) in
        let all : (bytes ++ way.done) ++ (own ++ later) ≡ bytes ++ taken =
        ap (λ r. (bytes ++ way.done) ++ r) (take-append-drop (i + 1) rest) ∙ append_assoc bytes way.done rest
        ∙ ap (λ t. bytes ++ t) (sym way.split) in
        let some : 0 < length taken = omega (arith, low, ap length way.split, length-append way.done rest) in
        let before : line ≢ [] → start + length taken < length ((bytes ++ way.done) ++ (own ++ later)) =
        λ kept. let began = way.began kept in omega (
          arith,
          began,
          way.size,
          ap length all,
          ap length here.whole,
          length-append here.front line,
          here.size,
          ap length way.split,
          length-append way.done rest,
          length-append bytes taken,
          length-append bytes way.done,
        ) in
        subst (λ t. HaltsWith rules first Ran Halted (length taken) false (bytes ++ taken) put t n' answerer' halt)
        (sym untold)
        (subst (λ m. HaltsWith rules first Ran Halted (length taken) false (bytes ++ taken) put text m answerer' halt)
        (sym number)
        (subst (λ b. HaltsWith rules first Ran Halted (length taken) false b put text n answerer' halt) all
        (line-stops rules first Ran Halted (bytes ++ way.done) put text line n start answerer here (length taken)
        answerer' own later halt way.plain (feed-some rest i found) short some before
        (subst (λ r. StopsAt r start here.stream (line ++ own) halt) same (at here.stream here.ran here.number))
        (halted here.stream here.ran here.number))))

    pub way-ends : 0 < length taken → HasNoFeed (line ++ rest) → (n' : ℕ) (halt : Halt C) → n' ≡ n
        → StopsKept n start (line ++ rest) halt
        → HaltsWith rules first Ran Halted (length taken) false (bytes ++ taken) put text n' answerer halt
    way-ends some plain n' halt number at =
        let here = way-kept first bytes put begun in
        let long : length (bytes ++ taken) ≡ start + length line + length rest =
        ap length here.whole
        ∙ omega (arith, length-append here.front (line ++ rest), length-append line rest, here.size) in
        let size = way.size in
        let few = way.few in
        subst (λ m. HaltsWith rules first Ran Halted (length taken) false (bytes ++ taken) put text m answerer halt)
        (sym number)
        (kept-stops rules first Ran Halted (bytes ++ taken) put text (line ++ rest) n start answerer here (length taken)
        halt plain (omega (arith, long, size, few)) some at)
