-- Where the session of an input leaves its node: where the commands of its answered lines do.
use Rattle.std.proofs.Common.{◌≡◌, ◌≤◌, ℕ, ◌+◌, ◌||◌, ◌&&◌, not, Bool, true, false, ltb, if◌then◌else◌, List, [], ◌∷◌, ◌++◌, length, map, take, Option, Result, Ok, Err, refl, sym, ap, ◌∙◌, subst, arith}
use Rattle.std.proofs.lemmas.Bool.Decides.{nat_tests}
use Rattle.std.proofs.Math.Seq.{take-append_seam}
use Rattle.std.proofs.lemmas.Grind.{common_steps}
use Rattle.plasma_tx.specs.declared.call.RootCall.{RootCall}
use Rattle.streamed_lines.specs.declared.TheConstants.{MOST_LINES}
use Rattle.streamed_lines.specs.declared.ending.Ending.{Ending}
use Rattle.streamed_lines.specs.declared.ending.Ending.TheVariants.{ReadFault, TooLong}
use Rattle.streamed_lines.specs.declared.ending.Stop.{Stop}
use Rattle.streamed_lines.specs.Lines.{lines_in, is_whole, text_of, is_too_long}
use Rattle.streamed_lines.specs.Streams.{Rules, Stream, Streamed, no_lines, next_number, with_answer, stream_or, goes_on, line_stream, stream_from, stream_of}
use Rattle.streamed_lines.specs.Reading.{RunsTo}
use Rattle.node_rules.specs.Wallet.{WalletRecords}
use Rattle.node_roles.specs.Notes.{NotesAt}
use Rattle.node_roles.specs.Nodes.{NodeAt}
use Rattle.node_sessions.specs.Sessions.{SessionState, begun, next_line, session_rules}
use Rattle.node_lives.specs.Answered.{kept_at}
use Rattle.chain_lives.specs.Steps.{Deed}
use Rattle.chain_lives.proofs.Answering.{line-came, Behind, Goes, came-none, goes-by}

or-left : (a b : Bool) → (a || b) ≡ false → a ≡ false
or-left true b is = absurd (cc is)
or-left false b is = refl

not-less : (a b : ℕ) → ltb a b ≡ false → b ≤ a
not-less a b is = grind (arith, nat_tests)

-- a line that passes no limit is one of so many
fits-few : (n start : ℕ) (line : List ℕ) → is_too_long n start line ≡ false → n ≤ MOST_LINES
fits-few n start line fits = not-less MOST_LINES n (or-left _ _ (or-left _ _ fits))

module _ {L : Type 0} (tag : List ℕ) (command_in : List ℕ → Option L)
    (answers : List RootCall → NodeAt NotesAt → L → Result (NodeAt NotesAt × List ℕ) (List ℕ))
    (does : List RootCall → WalletRecords → L → Deed) (Q : NodeAt NotesAt → Type 0)
    (step : (log : List RootCall) (at : NodeAt NotesAt) (command : L) (left : NodeAt NotesAt) (text : List ℕ) → Q at
    → answers log at command ≡ Ok (left, text) → Q left × (kept_at left ≡ (does log (kept_at at) command).left)) where
  abbrev State : Type 0
  State = SessionState (NodeAt NotesAt)

  abbrev rules : Rules State (List ℕ)
  rules = session_rules tag command_in answers

  abbrev Comes : State → List (List ℕ) → State → Type 0
  Comes session texts run = Behind tag command_in answers does Q step session texts run

  abbrev IsOn : State → Type 0
  IsOn session = Goes tag command_in answers does Q step session

  -- what lines come to, behind a stream: some of them were answered
  record Streams (stream : Stream State) (lines : List (List ℕ)) (end : Stream State) : Type 0 where
    used : List (List ℕ)
    rest : List (List ℕ)
    whole : lines ≡ used ++ rest
    count : end.count ≡ stream.count + length used
    few : end.count ≤ MOST_LINES
    comes : Comes stream.run (map text_of used) end.run

  -- a line that was answered
  record OneLine (stream next : Stream State) (line : List ℕ) : Type 0 where
    answered : State × List ℕ
    is : next_line tag command_in answers stream.run (text_of line) ≡ Ok answered
    same : with_answer stream answered ≡ next
    few : next_number stream ≤ MOST_LINES

  one-of : (stream next : Stream State) (line : List ℕ) (outcome : Result (State × List ℕ) (Stop (List ℕ)))
      → next_number stream ≤ MOST_LINES → next_line tag command_in answers stream.run (text_of line) ≡ outcome
      → stream_or stream outcome ≡ Ok next → OneLine stream next line
  one-of stream next line outcome few did is = grind (arith, common_steps) steps 20000

  tested : (start : ℕ) (stream next : Stream State) (line : List ℕ) (long waits : Bool)
      → is_too_long (next_number stream) start line ≡ long
      → (if long then Err (TooLong (next_number stream)) else if waits then Err ReadFault
      else stream_or stream (rules.next stream.run (text_of line))) ≡ Ok next
      → OneLine stream next line
  tested start stream next line true waits fits is = absurd (cc is)
  tested start stream next line false true fits is = absurd (cc is)
  tested start stream next line false false fits is =
      one-of stream next line (rules.next stream.run (text_of line))
      (fits-few (next_number stream) start line fits) refl is

  line-one : (ended : Bool) (start : ℕ) (stream next : Stream State) (line : List ℕ)
      → line_stream rules ended start stream line ≡ Ok next → OneLine stream next line
  unfolding line_stream
  line-one ended start stream next line is =
      tested start stream next line (is_too_long (next_number stream) start line) (not ended && not (is_whole line))
      refl is

  lines-none : (stream : Stream State) (lines : List (List ℕ)) → IsOn stream.run → stream.count ≤ MOST_LINES
      → Streams stream lines stream
  lines-none stream lines goes few = grind (arith, common_steps, came-none) steps 20000

  lines-come : (ended : Bool) (start : ℕ) (stream : Stream State) (lines : List (List ℕ)) → IsOn stream.run
      → stream.count ≤ MOST_LINES → Streams stream lines (stream_from rules ended start stream lines).stream
  unfolding stream_from
  lines-come ended start stream [] goes few = lines-none stream [] goes few
  lines-come ended start stream (line ∷ lines) goes few =
      by (λ next on count. lines-come ended (start + length line) next lines on count)
      (line_stream rules ended start stream line) refl
    where
      after : Stream State → Stream State
      after next = (stream_from rules ended (start + length line) next lines).stream

      more : (next : Stream State) → OneLine stream next line
          → ((next : Stream State) → IsOn next.run → next.count ≤ MOST_LINES → Streams next lines (after next))
          → Streams stream (line ∷ lines) (after next)
      more next one again =
          let on = goes-by tag command_in answers does Q step stream.run one.answered.0 (text_of line) goes
          (line-came tag command_in answers stream.run (text_of line) one.answered one.is) in
          subst (λ (s : Stream State). Streams stream (line ∷ lines) (after s)) one.same
          (let behind = again (with_answer stream one.answered) on.goes one.few in
          record {
            used = line ∷ behind.used;
            rest = behind.rest;
            whole = ap (λ (ls : List (List ℕ)). line ∷ ls) behind.whole;
            count = omega (arith, behind.count);
            few = behind.few;
            comes = on.behind (map text_of behind.used) _ behind.comes;
          })

      by : ((next : Stream State) → IsOn next.run → next.count ≤ MOST_LINES → Streams next lines (after next))
          → (outcome : Result (Stream State) (Ending (List ℕ))) → line_stream rules ended start stream line ≡ outcome
          → Streams stream (line ∷ lines)
          (goes_on stream outcome (λ next. stream_from rules ended (start + length line) next lines)).stream
      by again (Err ending) is = lines-none stream (line ∷ lines) goes few
      by again (Ok next) is = more next (line-one ended start stream next line is) again

  -- ---- from the first line on

  begins : (first : NodeAt NotesAt) → Q first → IsOn (begun first)
  begins first here = grind (arith, common_steps) steps 20000

  -- the lines of an input that were answered come to this
  pub record Finally (first : NodeAt NotesAt) (bytes : List ℕ) (stream : Stream State) : Type 0 where
    pub few : stream.count ≤ MOST_LINES
    pub comes : Comes (begun first) (map text_of (take stream.count (lines_in bytes))) stream.run

  few-none : 0 ≤ MOST_LINES
  few-none = omega arith

  -- where the answered ones are these
  used-are : (first : NodeAt NotesAt) (bytes : List ℕ) (stream : Stream State) (lines : List (List ℕ))
      → Streams (no_lines (begun first)) lines stream
      → ((used rest : List (List ℕ)) → lines ≡ used ++ rest → stream.count ≡ length used
      → take stream.count (lines_in bytes) ≡ used) → Finally first bytes stream
  used-are first bytes stream lines streams are = grind (arith, common_steps) steps 20000

  pub session-comes : (first : NodeAt NotesAt) (bytes : List ℕ) (ended : Bool) → Q first
      → Finally first bytes (stream_of rules (begun first) bytes ended).stream
  unfolding stream_of
  session-comes first bytes ended here =
      let stream = (stream_from rules ended 0 (no_lines (begun first)) (lines_in bytes)).stream in
      used-are first bytes stream (lines_in bytes)
      (lines-come ended 0 (no_lines (begun first)) (lines_in bytes) (begins first here) few-none)
      (λ used rest whole count.
      ap (λ (n : ℕ). take n (lines_in bytes)) count ∙ ap (take (length used)) whole ∙ take-append_seam used rest)

  pub run-comes : (first : NodeAt NotesAt) (front rest bytes : List ℕ) (stream : Stream State) → bytes ≡ front ++ rest
      → RunsTo rules (begun first) front stream → Q first → Finally first bytes stream
  unfolding stream_from
  run-comes first front rest bytes stream whole runs here =
      used-are first bytes stream (runs.cut ++ [])
      (subst (λ (s : Streamed State (List ℕ)). Streams (no_lines (begun first)) (runs.cut ++ []) s.stream)
      (runs.streams false [])
      (lines-come false 0 (no_lines (begun first)) (runs.cut ++ []) (begins first here) few-none))
      (λ used more same count.
      let all : lines_in bytes ≡ runs.cut ++ lines_in rest = ap lines_in whole ∙ runs.cuts rest in
      let cut : take stream.count (lines_in bytes) ≡ runs.cut =
      ap (λ (n : ℕ). take n (lines_in bytes)) (sym runs.count) ∙ ap (take (length runs.cut)) all
      ∙ take-append_seam runs.cut (lines_in rest) in
      let one : take (length runs.cut) (runs.cut ++ []) ≡ runs.cut = take-append_seam runs.cut [] in
      let other : take (length used) (runs.cut ++ []) ≡ used =
      ap (take (length used)) same ∙ take-append_seam used more in
      let lengths : length runs.cut ≡ length used = runs.count ∙ count in
      cut ∙ sym one ∙ ap (λ (n : ℕ). take n (runs.cut ++ [])) lengths ∙ other)
