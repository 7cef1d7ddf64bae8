-- A session whose commands are all done is complete.
use Rattle.std.proofs.Common.{◌≡◌, inl, inr, ℕ, ◌+◌, Bool, true, false, List, [], ◌∷◌, ◌++◌, if◌then◌else◌, length, Option, Some, None, Result, Ok, Err, refl, sym, ap, ◌∙◌, subst, arith}
use Rattle.std.proofs.lemmas.Slice.Eq.{bytes_eq-Decides}
use Rattle.plasma_tx.specs.declared.call.RootCall.{RootCall}
use Rattle.plasma_tx.specs.Chain.{Chain}
use Rattle.streamed_lines.specs.declared.ending.Ending.TheVariants.{Complete}
use Rattle.streamed_lines.specs.declared.ending.Stop.TheVariants.{Ends}
use Rattle.streamed_lines.specs.Lines.{lines_in, text_of, is_too_long}
use Rattle.streamed_lines.specs.Streams.{Stream, Streamed, stream_from, stream_of}
use Rattle.streamed_lines.proofs.StreamLaws.{goes-on}
use Rattle.node_sessions.specs.Sessions.{SessionState, begun, other_chain, first_log, longer_log, joins, done, leaves, command_line, next_line, session_rules}
use Rattle.node_sessions.specs.Laws.{AreDone, EndLogAndAreDone, KeepTheRules, DoneCommandsAreAnswered}

module _ {A L : Type 0} (tag : List ℕ) (command_in : List ℕ → Option L)
    (does : List RootCall → A → L → Result (A × List ℕ) (List ℕ)) where
  -- lines that were answered, with this log, ended or not, and the node there
  abbrev behind : Option Chain → Bool → A → ℕ → List ℕ → Stream (SessionState A)
  behind log over at count told =
      record { run = record { log = log; is_over = over; node = at }; count = count; text = told }

  -- what ends a session behind them
  abbrev ending-is : (start : ℕ) (stream : Stream (SessionState A)) (lines : List (List ℕ)) → Type 0
  ending-is start stream lines =
      (stream_from (session_rules tag command_in does) true start stream lines).ending ≡ Complete

  -- a line that is answered, and the session ends so behind it
  on : (start : ℕ) (stream : Stream (SessionState A)) (line : List ℕ) (lines : List (List ℕ))
      (run : SessionState A) (answer : List ℕ) → is_too_long (stream.count + 1) start line ≡ false
      → next_line tag command_in does stream.run (text_of line) ≡ Ok (run, answer)
      → ending-is (start + length line) (record { run = run; count = stream.count + 1; text = stream.text ++ answer })
      lines
      → ending-is start stream (line ∷ lines)
  on start stream line lines run answer fits is later =
      ap (λ (s : Streamed (SessionState A) (List ℕ)). s.ending)
      (goes-on (session_rules tag command_in does) true start stream line lines (run, answer) fits refl is)
      ∙ later

  commands : (log : Chain) (at : A) (count start : ℕ) (told : List ℕ) (lines : List (List ℕ))
      → AreDone tag command_in does log.log at (count + 1) start lines
      → ending-is start (behind (Some log) true at count told) lines
  unfolding AreDone stream_from next_line
  commands log at count start told [] are = refl
  commands log at count start told (line ∷ lines) are =
      let left = are.1.1 in
      let answer = are.1.2 in
      let session : SessionState A = record { log = Some log; is_over = true; node = at } in
      on start (behind (Some log) true at count told) line lines
      (record { log = Some log; is_over = true; node = left }) answer are.0
      (ap (λ spelled. leaves session (command_line does log.log at spelled)) are.1.3
      ∙ ap (λ outcome. leaves session (done outcome)) are.1.4)
      (commands log left (count + 1) (start + length line) (told ++ answer) lines are.1.5)

  log-ends : (log : Chain) (at : A) (count start : ℕ) (told : List ℕ) (lines : List (List ℕ))
      → EndLogAndAreDone tag command_in does log at (count + 1) start lines
      → ending-is start (behind (Some log) false at count told) lines
  unfolding EndLogAndAreDone next_line
  log-ends log at count start told [] never = absurd never
  log-ends log at count start told (line ∷ lines) (fits, inl ends) =
      on start (behind (Some log) false at count told) line lines
      (record { log = Some log; is_over = true; node = at }) [] fits (rw ends.0 refl)
      (commands log at (count + 1) (start + length line) (told ++ []) lines ends.1)
  log-ends log at count start told (line ∷ lines) (fits, inr goes) =
      let longer = goes.1.0 in
      let session : SessionState A = record { log = Some log; is_over = false; node = at } in
      on start (behind (Some log) false at count told) line lines
      (record { log = Some longer; is_over = false; node = at }) [] fits
      (rw goes.0 (ap (λ found. joins session (longer_log found)) goes.1.1))
      (log-ends longer at (count + 1) (start + length line) (told ++ []) lines goes.1.2)

  begins : (found : A) (lines : List (List ℕ)) → KeepTheRules tag command_in does found lines
      → ending-is 0 (behind None false found 0 []) lines
  unfolding KeepTheRules next_line
  begins found [] never = absurd never
  begins found (line ∷ lines) keep =
      let chain = keep.1.0 in
      let session = begun found in
      on 0 (behind None false found 0 []) line lines (record { log = Some chain; is_over = false; node = found }) []
      keep.0
      (ap (λ first. joins session (first_log tag first)) keep.1.1
      ∙ ap (λ same. joins session (if same then Ok chain else Err (Ends other_chain)))
      ((bytes_eq-Decides chain.tag tag).1 keep.1.2))
      (subst (λ m. ending-is m (behind (Some chain) false found 1 []) lines) (omega arith)
      (log-ends chain found 1 (length line) [] lines keep.1.3))

  pub done-are_answered : DoneCommandsAreAnswered tag command_in does
  unfolding stream_of
  done-are_answered found bytes keep = begins found (lines_in bytes) keep

-- The same lines are done by a node of which this is a part, where each command that the part does the node does too.
module _ {A B L : Type 0} (tag : List ℕ) (command_in : List ℕ → Option L)
    (does : List RootCall → A → L → Result (A × List ℕ) (List ℕ))
    (part_does : List RootCall → B → L → Result (B × List ℕ) (List ℕ)) (part : A → B)
    (so : (log : List RootCall) (at : A) (command : L) (left : B) (text : List ℕ)
    → part_does log (part at) command ≡ Ok (left, text)
    → (next : A) × (does log at command ≡ Ok (next, text)) × (part next ≡ left)) where
  done-by_part : (log : List RootCall) (at : A) (n start : ℕ) (lines : List (List ℕ))
      → AreDone tag command_in part_does log (part at) n start lines
      → AreDone tag command_in does log at n start lines
  unfolding AreDone
  done-by_part log at n start [] are = tt
  done-by_part log at n start (line ∷ lines) are =
      let next = so log at are.1.0 are.1.1 are.1.2 are.1.4 in (
        are.0,
        (
          are.1.0,
          next.0,
          are.1.2,
          are.1.3,
          next.1,
          done-by_part log next.0 (n + 1) (start + length line) lines
              (subst (λ b. AreDone tag command_in part_does log b (n + 1) (start + length line) lines)
              (sym next.2) are.1.5),
        ),
      )

  log-by_part : (chain : Chain) (at : A) (n start : ℕ) (lines : List (List ℕ))
      → EndLogAndAreDone tag command_in part_does chain (part at) n start lines
      → EndLogAndAreDone tag command_in does chain at n start lines
  unfolding EndLogAndAreDone
  log-by_part chain at n start [] never = never
  log-by_part chain at n start (line ∷ lines) (fits, inl ends) =
      (fits, inl (ends.0, done-by_part chain.log at (n + 1) (start + length line) lines ends.1))
  log-by_part chain at n start (line ∷ lines) (fits, inr goes) = (
    fits,
    inr (
      goes.0,
      (goes.1.0, goes.1.1, log-by_part goes.1.0 at (n + 1) (start + length line) lines goes.1.2),
    ),
  )

  pub keep-by_part : (at : A) (lines : List (List ℕ)) → KeepTheRules tag command_in part_does (part at) lines
      → KeepTheRules tag command_in does at lines
  unfolding KeepTheRules
  keep-by_part at [] never = never
  keep-by_part at (line ∷ lines) keep =
      (keep.0, (keep.1.0, keep.1.1, keep.1.2, log-by_part keep.1.0 at 2 (length line) lines keep.1.3))
