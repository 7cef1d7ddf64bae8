-- A run over a log whose lines keep the rules is done, unless something fails.
use Rattle.std.proofs.Common.{◌≡◌, ◌⊎◌, inl, inr, ℕ, ◌+◌, Bool, true, false, List, [], ◌∷◌, ◌++◌, length, Option, Some, None, Ok, refl, sym, ap, ◌∙◌, subst, arith}
use Rattle.streamed_lines.specs.declared.ending.Ending.{Ending}
use Rattle.streamed_lines.specs.declared.ending.Ending.TheVariants.{Complete, ReadFault}
use Rattle.streamed_lines.specs.Lines.{lines_in, text_of, is_too_long}
use Rattle.streamed_lines.specs.Streams.{Stream, Streamed, stream_from, stream_of}
use Rattle.streamed_lines.proofs.StreamLaws.{goes-on}
use Rattle.streamed_lines.proofs.CompleteLaws.{reads-well}
use Rattle.run_endings.specs.declared.status.Status.{Status}
use Rattle.run_endings.specs.Statuses.{IsDoneUnlessFailed}
use Rattle.run_endings.specs.Endings.{status_of, session_output}
use Rattle.run_endings.proofs.EndingLaws.{ends-done}
use Rattle.log_runs.specs.Following.{Following, LogRun, begun, first_line, call_line, leaves, next_line, log_rules}
use Rattle.log_runs.specs.Runs.{lines_of, RunsLog}
use Rattle.log_runs.specs.Complete.{AreAnswered, EndLogAndAreAnswered, KeepTheRules, LinesThatKeepTheRulesAreAnswered, LogComplete}

module _ {A : Type 0} (following : Following A) where
  -- lines that were answered, which left this, and the log has ended or not
  abbrev behind : Option A → Bool → ℕ → List ℕ → Stream (LogRun A)
  behind at over count told = record { run = record { at = at; is_over = over }; count = count; text = told }

  -- what ends a run behind them
  abbrev ending-is : (start : ℕ) (stream : Stream (LogRun A)) (lines : List (List ℕ)) → Type 0
  ending-is start stream lines = (stream_from (log_rules following) true start stream lines).ending ≡ Complete

  -- a line that is answered, and the run ends so behind it
  on : (start : ℕ) (stream : Stream (LogRun A)) (line : List ℕ) (lines : List (List ℕ)) (run : LogRun A)
      (answer : List ℕ) → is_too_long (stream.count + 1) start line ≡ false
      → next_line following stream.run (text_of line) ≡ Ok (run, answer)
      → ending-is (start + length line) (record { run = run; count = stream.count + 1; text = stream.text ++ answer })
      lines
      → ending-is start stream (line ∷ lines)
  on start stream line lines run answer fits is later =
      ap (λ (s : Streamed (LogRun A) (List ℕ)). s.ending)
      (goes-on (log_rules following) true start stream line lines (run, answer) fits refl is)
      ∙ later

  commands : (at : A) (count start : ℕ) (told : List ℕ) (lines : List (List ℕ))
      → AreAnswered following at (count + 1) start lines
      → ending-is start (behind (Some at) true count told) lines
  unfolding AreAnswered stream_from next_line
  commands at count start told [] may = rw may refl
  commands at count start told (line ∷ lines) are =
      let left = are.1.0 in
      let answer = are.1.1 in
      on start (behind (Some at) true count told) line lines (record { at = Some left; is_over = true }) answer are.0
      (ap (leaves (record { at = Some at; is_over = true })) are.1.2)
      (commands left (count + 1) (start + length line) (told ++ answer) lines are.1.3)

  log-ends : (at : A) (count start : ℕ) (told : List ℕ) (lines : List (List ℕ))
      → EndLogAndAreAnswered following at (count + 1) start lines
      → ending-is start (behind (Some at) false count told) lines
  unfolding EndLogAndAreAnswered next_line
  log-ends at count start told [] never = absurd never
  log-ends at count start told (line ∷ lines) (fits, inl ends) =
      on start (behind (Some at) false count told) line lines (record { at = Some at; is_over = true }) [] fits
      (rw ends.0 refl)
      (commands at (count + 1) (start + length line) (told ++ []) lines ends.1)
  log-ends at count start told (line ∷ lines) (fits, inr goes) =
      let later = following.follow goes.1.0 at in
      on start (behind (Some at) false count told) line lines (record { at = Some later; is_over = false }) [] fits
      (rw goes.0 (ap (call_line following (record { at = Some at; is_over = false }) at) goes.1.1))
      (log-ends later (count + 1) (start + length line) (told ++ []) lines goes.1.2)

  begins : (lines : List (List ℕ)) → KeepTheRules following lines → ending-is 0 (behind None false 0 []) lines
  unfolding KeepTheRules next_line
  begins [] never = absurd never
  begins (line ∷ lines) keep =
      let first = following.begin keep.1.0 in
      on 0 (behind None false 0 []) line lines (record { at = Some first; is_over = false }) [] keep.0
      (ap (first_line following begun) keep.1.1)
      (subst (λ m. ending-is m (behind (Some first) false 1 []) lines) (omega arith)
      (log-ends first 1 (length line) [] lines keep.1.2))

  pub kept-are_answered : LinesThatKeepTheRulesAreAnswered following
  unfolding stream_of
  kept-are_answered bytes keep = begins (lines_in bytes) keep

  may-be : {ending : Ending (List ℕ)} → (ending ≡ Complete) ⊎ (ending ≡ ReadFault)
      → IsDoneUnlessFailed (status_of ending)
  may-be (inl is) = subst (λ e. IsDoneUnlessFailed (status_of e)) (sym is) tt
  may-be (inr is) = subst (λ e. IsDoneUnlessFailed (status_of e)) (sym is) tt

  pub log-complete : (left later taken after : Option (List ℕ)) (failed : Type 0) (status : Status)
      → RunsLog following left later taken after failed status → LogComplete following left status
  log-complete left later taken after failed status runs input is keep =
      ends-done (session_output (lines_of following runs.bytes runs.ended)) status _ _ _
      (may-be (reads-well (log_rules following) begun input left later runs.bytes runs.ended is runs.gave
      (kept-are_answered input keep))) runs.ends
