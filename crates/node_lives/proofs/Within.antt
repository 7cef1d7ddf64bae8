-- A beginning of an input's lines is answered on the way to more of them.
use Rattle.std.proofs.Common.{◌≡◌, ◌<◌, ◌≤◌, ◌+◌, ◌-◌, ◌&&◌, not, ℕ, Bool, true, false, if◌then◌else◌, List, [], ◌∷◌, ◌++◌, length, get_or, take, drop, Result, Ok, Err, refl, sym, ap, ◌∙◌, arith, append_assoc}
use Rattle.std.proofs.lemmas.List.{append-nil, take-append-le, take-append-drop}
use Rattle.std.proofs.Math.Seq.{take-append_seam}
use Rattle.streamed_lines.specs.declared.TheConstants.{MOST_LINES}
use Rattle.streamed_lines.specs.declared.ending.Ending.TheVariants.{ReadFault, TooLong}
use Rattle.streamed_lines.specs.declared.ending.Stop.{Stop}
use Rattle.streamed_lines.specs.Lines.{lines_in, is_whole, text_of, is_too_long}
use Rattle.streamed_lines.specs.Streams.{Rules, Stream, Streamed, no_lines, next_number, with_answer, stream_or, goes_on, line_stream, stream_from, stream_of}
use Rattle.streamed_lines.specs.Reading.{RunsTo, next_text}
use Rattle.node_lives.proofs.Lines.{fits-few}

module _ {R C : Type 0} (rules : Rules R C) where
  -- The line, which is one of so many, is answered behind these lines, and then others up to the stream.
  pub record GoesOn (before : Stream R) (line : List ℕ) (stream : Stream R) : Type 0 where
    pub few : next_number before ≤ MOST_LINES
    pub answered : R × List ℕ
    pub is : rules.next before.run (text_of line) ≡ Ok answered
    pub ended : Bool
    pub start : ℕ
    pub lines : List (List ℕ)
    pub behind : stream ≡ (stream_from rules ended start (with_answer before answered) lines).stream

  -- which line it is, in front of these lines
  record FirstGoesOn (before : Stream R) (lines : List (List ℕ)) (stream : Stream R) : Type 0 where
    line : List ℕ
    first : (others : List (List ℕ)) → get_or (lines ++ others) 0 [] ≡ line
    goes : GoesOn before line stream

  module _ (before stream : Stream R) (more : before.count < stream.count) where
    none-more : {P : Type 0} → stream ≡ before → P
    none-more is = absurd (let e : stream.count ≡ before.count = ap (λ (s : Stream R). s.count) is in omega arith)

    answered-on : (ended : Bool) (start : ℕ) (line : List ℕ) (lines : List (List ℕ))
        → next_number before ≤ MOST_LINES → (outcome : Result (R × List ℕ) (Stop C)) → rules.next before.run
        (text_of line) ≡ outcome
        → stream ≡ (goes_on before (stream_or before outcome)
        (λ next. stream_from rules ended (start + length line) next lines)).stream
        → GoesOn before line stream
    answered-on ended start line lines few (Err stop) is behind = none-more behind
    answered-on ended start line lines few (Ok answered) is behind = record {
      few = few;
      answered = answered;
      is = is;
      ended = ended;
      start = start + length line;
      lines = lines;
      behind = behind;
    }

    tested-on : (ended : Bool) (start : ℕ) (line : List ℕ) (lines : List (List ℕ)) (long waits : Bool)
        → is_too_long (next_number before) start line ≡ long → stream ≡
        (goes_on before (if long then Err (TooLong (next_number before)) else if waits then Err ReadFault
        else stream_or before (rules.next before.run (text_of line)))
        (λ next. stream_from rules ended (start + length line) next lines)).stream
        → GoesOn before line stream
    tested-on ended start line lines true waits fits behind = none-more behind
    tested-on ended start line lines false true fits behind = none-more behind
    tested-on ended start line lines false false fits behind =
        answered-on ended start line lines (fits-few (next_number before) start line fits)
        (rules.next before.run (text_of line)) refl behind

    first-on : (ended : Bool) (start : ℕ) (lines : List (List ℕ))
        → stream ≡ (stream_from rules ended start before lines).stream → FirstGoesOn before lines stream
    unfolding stream_from line_stream
    first-on ended start [] behind = none-more behind
    first-on ended start (line ∷ lines) behind = record {
      line = line;
      first = λ others. refl;
      goes =
          tested-on ended start line lines (is_too_long (next_number before) start line)
          (not ended && not (is_whole line)) refl behind;
    }

    -- the line stands behind so many others
    at-line : (cut lines others : List (List ℕ)) (line : List ℕ) → length cut ≡ before.count
        → get_or (lines ++ others) 0 [] ≡ line → (bytes : List ℕ) → lines_in bytes ≡ cut ++ (lines ++ others)
        → next_text bytes before ≡ text_of line
    at-line cut lines others line count first bytes all =
        ap text_of
        (ap (λ (ls : List (List ℕ)). get_or ls (before.count + 1 - 1) []) all
        ∙ ap (λ (n : ℕ). get_or (cut ++ (lines ++ others)) n [])
        (let e : before.count + 1 - 1 ≡ length cut = omega (arith, count) in e)
        ∙ behind-cut cut (lines ++ others) ∙ first)
      where
        behind-cut : (cut lines : List (List ℕ)) → get_or (cut ++ lines) (length cut) [] ≡ get_or lines 0 []
        behind-cut [] lines = refl
        behind-cut (line ∷ cut) lines = behind-cut cut lines

    module _ (first : R) (bytes front rest : List ℕ) (whole : bytes ≡ front ++ rest)
        (runs : RunsTo rules first front before) where
      -- on the way to the end of the session of the input
      pub on-to-end : (ended : Bool) → stream ≡ (stream_of rules first bytes ended).stream
          → (line : List ℕ) × (next_text bytes before ≡ text_of line) × GoesOn before line stream
      unfolding stream_of
      on-to-end ended is =
          let all : lines_in bytes ≡ runs.cut ++ lines_in rest = ap lines_in whole ∙ runs.cuts rest in
          let behind : stream ≡ (stream_from rules ended (length front) before (lines_in rest)).stream =
          is ∙ ap (λ (ls : List (List ℕ)). (stream_from rules ended 0 (no_lines first) ls).stream) all
          ∙ ap (λ (s : Streamed R C). s.stream) (runs.streams ended (lines_in rest)) in
          let on = first-on ended (length front) (lines_in rest) behind in (
            on.line,
            at-line runs.cut (lines_in rest) [] on.line runs.count (on.first []) bytes
                (all ∙ ap (λ (ls : List (List ℕ)). runs.cut ++ ls) (sym (append-nil (lines_in rest)))),
            on.goes,
          )

      -- on the way to more lines of it that were answered
      pub on-to-more : (longer less : List ℕ) → bytes ≡ longer ++ less → RunsTo rules first longer stream
          → (line : List ℕ) × (next_text bytes before ≡ text_of line) × GoesOn before line stream
      unfolding stream_from
      on-to-more longer less also ran =
          let all : lines_in bytes ≡ runs.cut ++ lines_in rest = ap lines_in whole ∙ runs.cuts rest in
          let same : lines_in bytes ≡ ran.cut ++ lines_in less = ap lines_in also ∙ ran.cuts less in
          let le : length runs.cut ≤ length ran.cut = omega (arith, runs.count, ran.count) in
          let tail : List (List ℕ) = drop (length runs.cut) ran.cut in
          let head : runs.cut ≡ take (length runs.cut) ran.cut =
          sym (take-append_seam runs.cut (lines_in rest))
          ∙ ap (take (length runs.cut)) (sym all ∙ same) ∙ take-append-le _ _ _ le in
          let parts : ran.cut ≡ runs.cut ++ tail =
          sym (take-append-drop (length runs.cut) ran.cut) ∙ ap (λ (ls : List (List ℕ)). ls ++ tail) (sym head) in
          let behind : stream ≡ (stream_from rules true (length front) before (tail ++ [])).stream =
          ap (λ (s : Streamed R C). s.stream) (sym (ran.streams true []))
          ∙ ap (λ (ls : List (List ℕ)). (stream_from rules true 0 (no_lines first) (ls ++ [])).stream) parts
          ∙ ap (λ (ls : List (List ℕ)). (stream_from rules true 0 (no_lines first) ls).stream)
          (append_assoc runs.cut tail [])
          ∙ ap (λ (s : Streamed R C). s.stream) (runs.streams true (tail ++ [])) in
          let on = first-on true (length front) (tail ++ []) behind in (
            on.line,
            at-line runs.cut (tail ++ []) (lines_in less) on.line runs.count (on.first (lines_in less)) bytes
                (same ∙ ap (λ (ls : List (List ℕ)). ls ++ lines_in less) parts
                ∙ append_assoc runs.cut tail (lines_in less)
                ∙ ap (λ (ls : List (List ℕ)). runs.cut ++ (ls ++ lines_in less)) (sym (append-nil tail))),
            on.goes,
          )
