-- What a line of a replay does, by the step of the world.
use Rattle.std.proofs.Common.{◌≡◌, ℕ, Bool, true, false, if◌then◌else◌, List, ◌∷◌, ◌++◌, Option, Some, None, Result, Ok, Err, sym, ap, ◌∙◌, subst}
use Rattle.std.specs.Prelude.{option_map, option_and_then, OnOk}
use Rattle.schedule_text.specs.declared.line.Line.{Line}
use Rattle.schedule_text.specs.Grammar.{line_in}
use Rattle.world_rules.specs.declared.trace.TraceLine.{TraceLine}
use Rattle.world_rules.specs.Steps.{Run, TraceEntry, LineEffect, with_line, step_run, run_of, entry_of}
use Rattle.world_rules.specs.Texts.{trace_line_text}
use Rattle.world_core.specs.Worlds.{RunningState, IsAfter}
use Rattle.world_core.specs.Lines.{is_full, IsStep, WouldFill}
use Rattle.streamed_lines.specs.declared.ending.Stop.TheVariants.{BadLine, TooLong}
use Rattle.streamed_lines.specs.Reading.{IsAnswered}
use Rattle.replay_run.specs.Replays.{JudgedRun, newest_text, fitting, run_or, text_run, replay_rules}
use Rattle.replay_run.specs.Reading.{Ran}

-- what holds where a result is Ok, in other words
pub on-ok : {T E : Type 0} (P Q : Type 0) (result : Result T E) → (P → Q) → OnOk result P → OnOk result Q
on-ok P Q (Ok x) more is = more is
on-ok P Q (Err e) more is = tt

-- ---- steps

-- the run of lines and one more
run-more : (dig : List ℕ → List ℕ) (line : Line) (lines : List Line) (run : Run) (o : Option Run)
    → run_of dig lines ≡ Some run → run_of dig (line ∷ lines) ≡ o → step_run dig line run ≡ o
unfolding run_of
run-more dig line lines run o is more = sym (ap (option_and_then (step_run dig line)) is) ∙ more

-- a step adds one entry
pub one-entry : (run next : Run) (line : Line) (o : Option LineEffect) → option_map (with_line run line) o ≡ Some next
    → (entry : TraceEntry) × (next.entries ≡ entry ∷ run.entries)
one-entry run next line None wrong = absurd (cc)
one-entry run next line (Some effect) is = (entry_of line effect, ap Run.entries (sym (inner is)))
  where
    inner : Some (with_line run line effect) ≡ Some next → with_line run line effect ≡ next
    inner e = cc

fitting-at : (judged : JudgedRun) (b : Bool) → is_full judged.run ≡ b
    → fitting judged ≡ (if b then Err TooLong else Ok (judged, newest_text judged.run.entries))
fitting-at judged b is =
    ap (λ (t : Bool). if t then Err TooLong else Ok (judged, newest_text judged.run.entries)) is

-- ---- one line

-- what is answered to a line
abbrev told_text : TraceLine → List ℕ
told_text told = trace_line_text told.line told.done told.answer

-- bytes that spell a line, over a world that lines left
module _ {H : Type 0} (digest_of : H → List ℕ → List ℕ) (world : RunningState H) (judged : JudgedRun)
    (ran : Ran digest_of world judged) (bytes : List ℕ) (line : Line) (found : line_in bytes ≡ Some line) where
  abbrev dig : List ℕ → List ℕ
  dig = digest_of world.hash

  -- the rules make of them what the lines and this one come to
  next-by : (o : Option Run) → run_of dig (line ∷ ran.lines) ≡ o
      → replay_rules.next judged bytes ≡ run_or judged.digest o
  next-by o is =
      ap (λ (d : List ℕ → List ℕ). run_or judged.digest (text_run d judged.run bytes)) ran.digest
      ∙ ap (run_or judged.digest)
      (ap (option_and_then (λ l. step_run dig l judged.run)) found
      ∙ run-more dig line ran.lines judged.run o ran.is is)

  -- one that has no step, or would fill the mail, stops the replay
  pub step-bad : run_of dig (line ∷ ran.lines) ≡ None → replay_rules.next judged bytes ≡ Err BadLine
  step-bad none = next-by None none

  pub step-full : WouldFill dig ran.lines line → replay_rules.next judged bytes ≡ Err TooLong
  step-full full =
      next-by (Some full.0) full.1 ∙ fitting-at (record { digest = judged.digest; run = full.0 }) true full.2

  -- one that has a step is answered
  pub step-answered : {W : Type 0} (RanTo : W → JudgedRun → Type 0) (replayer : W) (new : RunningState H)
      (told : TraceLine) (old text : List ℕ) → ((next : JudgedRun) → Ran digest_of new next → RanTo replayer next)
      → new.hash ≡ world.hash → IsStep dig ran.lines line told new → text ≡ old ++ told_text told
      → IsAnswered replay_rules RanTo judged bytes old text replayer
  step-answered RanTo replayer new told old text left same step put =
      let next : JudgedRun = record { digest = judged.digest; run = step.after.run } in
      let kept : dig ≡ digest_of new.hash = ap digest_of (sym same) in
      record {
        next = next;
        answer = told_text told;
        is =
            next-by (Some step.after.run) step.after.ran ∙ fitting-at next false step.fits
            ∙ ap (λ text. Ok (next, text)) (ap newest_text step.entries ∙ ap told_text (sym step.is));
        ran =
            left next
            (record {
              lines = line ∷ ran.lines;
              digest = ran.digest ∙ kept;
              after = subst (λ (d : List ℕ → List ℕ). IsAfter d (line ∷ ran.lines) new) kept step.after;
              is =
                  subst (λ (d : List ℕ → List ℕ). run_of d (line ∷ ran.lines) ≡ Some step.after.run) kept
                  step.after.ran;
            });
        told = put;
      }
