-- No line of a look has an answer.
use Rattle.std.proofs.Common.{◌≡◌, ℕ, ◌+◌, ◌&&◌, not, Bool, true, false, if◌then◌else◌, List, [], ◌∷◌, ◌++◌, length, Option, None, Some, Result, Ok, Err, refl, sym, ap, ◌∙◌, append-nil}
use Rattle.plasma_tx.specs.Chain.{Chain}
use Rattle.root_log.specs.Grammar.{chain_in, appended}
use Rattle.root_log.specs.EndOfLog.{is_end_of_log}
use Rattle.node_sessions.specs.Sessions.{OrStop, begun, first_log, joins, log_line, longer_log}
use Rattle.streamed_lines.specs.declared.ending.Ending.{Ending}
use Rattle.streamed_lines.specs.declared.ending.Ending.TheVariants.{ReadFault, TooLong}
use Rattle.streamed_lines.specs.Lines.{lines_in, is_whole, text_of, is_too_long}
use Rattle.streamed_lines.specs.Streams.{Rules, Stream, Streamed, no_lines, next_number, stream_or, goes_on, line_stream, stream_from, stream_of}
use Rattle.streamed_lines.specs.Reading.{RunsTo}
use Rattle.safe_runs.specs.declared.told.Told.{Told}
use Rattle.safe_runs.specs.Sessions.{LookState, told_in, tells, later_line, line_of, next_line, look_rules}

-- a line has no answer, or ends the look
abbrev Silent : OrStop (LookState × List ℕ) → Type 0
Silent (Ok left) = left.1 ≡ []
Silent (Err stop) = Unit {0}

silent-joins : (session : LookState) (log : OrStop Chain) → Silent (joins session log)
silent-joins session (Ok chain) = refl
silent-joins session (Err stop) = tt

silent-tells : (session : LookState) (told : OrStop Told) → Silent (tells session told)
silent-tells session (Ok told) = refl
silent-tells session (Err stop) = tt

silent-log : (session : LookState) (chain : Chain) (line : List ℕ) → Silent (log_line session chain line)
silent-log session chain line = elim (is_end_of_log line) as (λ b. Silent
    (if b then Ok (record session { is_over = true }, []) else joins session (longer_log (appended chain line)))) [
      | true ↦ refl
      | false ↦ silent-joins session (longer_log (appended chain line))
    ]

module _ (tag : List ℕ) where
  silent-later : (session : LookState) (chain : Chain) (line : List ℕ) → Silent (later_line tag session chain line)
  silent-later session chain line = elim session.is_over as (λ b. Silent
      (if b then tells session (told_in session.node line) else log_line session chain line)) [
        | true ↦ silent-tells session (told_in session.node line)
        | false ↦ silent-log session chain line
      ]

  silent-line : (session : LookState) (log : Option Chain) (line : List ℕ) → Silent (line_of tag session log line)
  silent-line session None line = silent-joins session (first_log tag (chain_in line))
  silent-line session (Some chain) line = silent-later session chain line

  silent-next : (session : LookState) (line : List ℕ) → Silent ((look_rules tag).next session line)
  unfolding next_line
  silent-next session line = silent-line session session.log line

  -- so the text of a stream stays
  abbrev Stays : Stream LookState → Result (Stream LookState) (Ending (List ℕ)) → Type 0
  Stays stream (Ok next) = next.text ≡ stream.text
  Stays stream (Err ending) = Unit {0}

  or-stays : (stream : Stream LookState) (o : OrStop (LookState × List ℕ)) → Silent o → Stays stream (stream_or stream o)
  or-stays stream (Ok left) silent = ap (λ (text : List ℕ). stream.text ++ text) silent ∙ append-nil stream.text
  or-stays stream (Err stop) silent = tt

  line-stays : (ended : Bool) (start : ℕ) (stream : Stream LookState) (line : List ℕ)
      → Stays stream (line_stream (look_rules tag) ended start stream line)
  unfolding line_stream
  line-stays ended start stream line =
      let next = stream_or stream ((look_rules tag).next stream.run (text_of line)) in
      elim (is_too_long (next_number stream) start line) as (λ t. Stays stream
      (if t then Err (TooLong (next_number stream))
      else if not ended && not (is_whole line) then Err ReadFault else next)) [
        | true ↦ tt
        | false ↦ elim (not ended && not (is_whole line)) as
            (λ t. Stays stream (if t then Err ReadFault else next)) [
              | true ↦ tt
              | false ↦ or-stays stream ((look_rules tag).next stream.run (text_of line))
                  (silent-next stream.run (text_of line))
            ]
      ]

  stream-stays : (ended : Bool) (start : ℕ) (stream : Stream LookState) (lines : List (List ℕ))
      → (stream_from (look_rules tag) ended start stream lines).stream.text ≡ stream.text
  unfolding stream_from
  stream-stays ended start stream [] = refl
  stream-stays ended start stream (line ∷ lines) =
      (elim (line_stream (look_rules tag) ended start stream line) as (λ o. Stays stream o
      → (goes_on stream o (λ next. stream_from (look_rules tag) ended (start + length line) next lines)).stream.text
      ≡ stream.text) [
        | Err ending ↦ λ stays. refl
        | Ok next ↦ λ stays. stream-stays ended (start + length line) next lines ∙ stays
      ]) (line-stays ended start stream line)

  -- the text of an input's lines is empty
  pub lines-silent : (first : LookState) (bytes : List ℕ) (ended : Bool)
      → (stream_of (look_rules tag) first bytes ended).stream.text ≡ []
  unfolding stream_of
  lines-silent first bytes ended = stream-stays ended 0 (no_lines first) (lines_in bytes)

  -- and that of lines with which one begins
  pub front-silent : (first : LookState) (front : List ℕ) (stream : Stream LookState)
      → RunsTo (look_rules tag) first front stream → stream.text ≡ []
  front-silent first front stream runs =
      sym (stream-stays true (length front) stream [])
      ∙ ap (λ (streamed : Streamed LookState (List ℕ)). streamed.stream.text) (sym (runs.streams true []))
      ∙ stream-stays true 0 (no_lines first) (runs.cut ++ [])
