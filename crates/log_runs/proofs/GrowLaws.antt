-- The text of a stream grows: what the first lines of an input answer is a beginning of what all of them do.
use Rattle.std.proofs.Common.{◌≡◌, ℕ, ◌+◌, ◌&&◌, not, Bool, true, false, if◌then◌else◌, List, [], ◌∷◌, ◌++◌, length, Result, Ok, Err, refl, sym, ap, ◌∙◌, append_assoc}
use Rattle.std.proofs.lemmas.List.{append-nil}
use Rattle.streamed_lines.specs.declared.ending.Ending.{Ending}
use Rattle.streamed_lines.specs.declared.ending.Ending.TheVariants.{ReadFault, TooLong}
use Rattle.streamed_lines.specs.declared.ending.Stop.{Stop}
use Rattle.streamed_lines.specs.Lines.{lines_in, is_whole, text_of, is_too_long}
use Rattle.streamed_lines.specs.Streams.{Rules, Stream, Streamed, no_lines, next_number, stream_or, goes_on, line_stream, stream_from, stream_of}
use Rattle.streamed_lines.specs.Reading.{RunsTo}

module _ {R C : Type 0} (rules : Rules R C) where
  -- a line adds a text to the stream, or ends it
  abbrev Grows : Stream R → Result (Stream R) (Ending C) → Type 0
  Grows stream (Ok next) = (more : List ℕ) × (next.text ≡ stream.text ++ more)
  Grows stream (Err ending) = Unit {0}

  or-grows : (stream : Stream R) (o : Result (R × List ℕ) (Stop C)) → Grows stream (stream_or stream o)
  or-grows stream (Ok answered) = (answered.1, refl)
  or-grows stream (Err stop) = tt

  line-grows : (ended : Bool) (start : ℕ) (stream : Stream R) (line : List ℕ)
      → Grows stream (line_stream rules ended start stream line)
  unfolding line_stream
  line-grows ended start stream line =
      let next = stream_or stream (rules.next stream.run (text_of line)) in
      elim (is_too_long (next_number stream) start line) as (λ t. Grows stream
      (if t then Err (TooLong (next_number stream))
      else if not ended && not (is_whole line) then Err ReadFault else next)) [
        | true ↦ tt
        | false ↦ elim (not ended && not (is_whole line)) as
            (λ t. Grows stream (if t then Err ReadFault else next)) [
              | true ↦ tt
              | false ↦ or-grows stream (rules.next stream.run (text_of line))
            ]
      ]

  stream-grows : (ended : Bool) (start : ℕ) (stream : Stream R) (lines : List (List ℕ))
      → (more : List ℕ) × ((stream_from rules ended start stream lines).stream.text ≡ stream.text ++ more)
  unfolding stream_from
  stream-grows ended start stream [] = ([], sym (append-nil stream.text))
  stream-grows ended start stream (line ∷ lines) =
      (elim (line_stream rules ended start stream line) as (λ o. Grows stream o → (more : List ℕ)
      × ((goes_on stream o (λ next. stream_from rules ended (start + length line) next lines)).stream.text
      ≡ stream.text ++ more)) [
        | Err ending ↦ λ grows. ([], sym (append-nil stream.text))
        | Ok next ↦ λ grows.
            let later = stream-grows ended (start + length line) next lines in (
              grows.0 ++ later.0,
              later.1 ∙ ap (λ text. text ++ later.0) grows.1 ∙ append_assoc stream.text grows.0 later.0,
            )
      ]) (line-grows ended start stream line)

  pub front-grows : (first : R) (front rest : List ℕ) (ended : Bool) (stream : Stream R)
      → RunsTo rules first front stream
      → (more : List ℕ) × ((stream_of rules first (front ++ rest) ended).stream.text ≡ stream.text ++ more)
  unfolding stream_of
  front-grows first front rest ended stream runs =
      let grown = stream-grows ended (length front) stream (lines_in rest) in
      let same =
      ap (stream_from rules ended 0 (no_lines first)) (runs.cuts rest) ∙ runs.streams ended (lines_in rest) in
      (grown.0, ap (λ (streamed : Streamed R C). streamed.stream.text) same ∙ grown.1)
