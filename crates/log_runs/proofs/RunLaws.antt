-- How a run over a log ends whose lines were answered, or that was stopped on its way.
use Rattle.std.proofs.Common.{◌≡◌, ℕ, inl, inr, Bool, true, List, ◌++◌, Option, Result, Ok, Err, sym, ap, ◌∙◌, subst, append_assoc}
use Rattle.std.specs.Prelude.{IsErr}
use Rattle.std.proofs.lemmas.Bool.{false≢true}
use Rattle.plasma_outside.specs.declared.sink.SinkRefusal.{SinkRefusal}
use Rattle.plasma_outside.specs.declared.sink.SinkRefusal.TheVariants.{Failed, NoMemory as WantsMemory}
use Rattle.streamed_lines.specs.declared.ending.Ending.{Ending}
use Rattle.streamed_lines.specs.declared.ending.Ending.TheVariants.{Complete, BadLine, ReadFault, TooLong, Ended}
use Rattle.streamed_lines.specs.declared.ending.Halt.{Halt}
use Rattle.streamed_lines.specs.declared.ending.Break.{Break}
use Rattle.streamed_lines.specs.declared.ending.Break.TheVariants.{WriteFault as WriteBreak, Failed as FailedBreak, NoMemory as NoMemoryBreak}
use Rattle.streamed_lines.specs.Streams.{Streamed}
use Rattle.streamed_lines.specs.Bounds.{TakesFew}
use Rattle.streamed_lines.specs.Outside.{Wrote, WroteFront}
use Rattle.streamed_lines.specs.Reading.{is_read_fault, IsPut, Answers, BrokeOff}
use Rattle.streamed_lines.proofs.OutsideLaws.{wrote-more}
use Rattle.run_endings.specs.declared.status.Status.{Status}
use Rattle.run_endings.specs.declared.status.Status.TheVariants.{ReadFault as ReadFaultStatus}
use Rattle.run_endings.specs.Statuses.{status_of_refusal}
use Rattle.run_endings.specs.Outputs.{Output, EndsAs}
use Rattle.run_endings.proofs.EndingLaws.{ends-whole, ends-stopped}
use Rattle.run_endings.proofs.PutLaws.{front-more}
use Rattle.log_runs.specs.Following.{Following, LogRun, begun, log_rules}
use Rattle.run_endings.specs.Endings.{status_of, last_text, session_output}
use Rattle.log_runs.specs.Runs.{status_of_run, lines_of, TakesFewBy, RunsLog}
use Rattle.log_runs.proofs.GrowLaws.{front-grows}

-- ---- what an ending says

module _ (Reads : Bool → Type 0) where
  failed-of : (ending : Ending (List ℕ)) → Reads (is_read_fault (Ok ending)) → status_of ending ≡ ReadFaultStatus
      → Reads true
  failed-of Complete reads wrong = absurd (cc)
  failed-of (BadLine n) reads wrong = absurd (cc)
  failed-of ReadFault reads is = reads
  failed-of (TooLong n) reads wrong = absurd (cc)
  failed-of (Ended n cause) reads wrong = absurd (cc)

few-by : (ending : Ending (List ℕ)) (bytes : List ℕ) → TakesFew bytes ending
    → TakesFewBy (status_of ending) bytes ending
few-by Complete bytes few = tt
few-by (BadLine n) bytes few = few
few-by ReadFault bytes few = tt
few-by (TooLong n) bytes few = few
few-by (Ended n cause) bytes few = few

few-stopped : (refusal : SinkRefusal) (bytes : List ℕ) (ending : Ending (List ℕ))
    → TakesFewBy (status_of_refusal refusal) bytes ending
few-stopped Failed bytes ending = tt
few-stopped WantsMemory bytes ending = tt

-- ---- a run

module _ {A W : Type 0} (following : Following A) (Ran : W → LogRun A → Type 0)
    (Halted : W → LogRun A → List ℕ → Halt (List ℕ) → Type 0) (left later taken put_then : Option (List ℕ))
    (text : List ℕ) (session : W) where
  -- all lines were answered, up to what ended them, and this is gathered
  module _ (ending : Ending (List ℕ)) (Reads : Bool → Type 0)
      (answers : Answers (log_rules following) begun Ran Halted left later taken put_then text ending session)
      (reads : Reads (is_read_fault (Ok ending))) where
    whole : Output
    whole = record { status = status_of ending; answers = answers.put ++ text; last = last_text ending }

    output-is : session_output (lines_of following answers.bytes answers.ended) ≡ whole
    unfolding whole
    output-is =
        ap (λ (s : Streamed (LogRun A) (List ℕ)). session_output s) answers.ends.streams
        ∙ ap (λ told. record { status = status_of ending; answers = told; last = last_text ending })
        (sym answers.ends.told)

    few-is : (status : Status) → TakesFewBy status answers.bytes ending
        → TakesFewBy status answers.bytes (lines_of following answers.bytes answers.ended).ending
    few-is status few =
        subst (λ (s : Streamed (LogRun A) (List ℕ)). TakesFewBy status answers.bytes s.ending)
        (sym answers.ends.streams) few

    -- its last text was put
    pub ran-whole : (after : Option (List ℕ)) → Wrote put_then after (text ++ last_text ending)
        → RunsLog following left later taken after (Reads true) (status_of ending)
    unfolding whole
    ran-whole after wrote = record {
      bytes = answers.bytes;
      ended = answers.ended;
      gave = answers.gave;
      ends =
          subst (λ output. EndsAs output (status_of ending) taken after (Reads true)) (sym output-is)
          (ends-whole whole taken after (Reads true) (failed-of Reads ending reads)
          (subst (Wrote taken after) (sym (append_assoc answers.put text (last_text ending)))
          (wrote-more taken put_then after answers.put (text ++ last_text ending) answers.wrote wrote)));
      few = few-is (status_of ending) (few-by ending answers.bytes answers.ends.few);
    }

    -- or a beginning of it
    pub ran-part : (after : Option (List ℕ)) (refusal : SinkRefusal)
        → WroteFront put_then after (text ++ last_text ending)
        → RunsLog following left later taken after (Reads true) (status_of_refusal refusal)
    unfolding whole
    ran-part after refusal front = record {
      bytes = answers.bytes;
      ended = answers.ended;
      gave = answers.gave;
      ends =
          subst (λ output. EndsAs output (status_of_refusal refusal) taken after (Reads true)) (sym output-is)
          (ends-stopped refusal whole taken after (Reads true)
          (record {
            front =
                subst (WroteFront taken after) (sym (append_assoc answers.put text (last_text ending)))
                (front-more taken put_then after answers.put (text ++ last_text ending) answers.wrote front);
            fault = λ is. inl (failed-of Reads ending reads is);
          }));
      few = few-stopped refusal answers.bytes (lines_of following answers.bytes answers.ended).ending;
    }

  put-of : (why : Break) (put all : List ℕ)
      → IsPut (log_rules following) begun Ran Halted why put text all → (rest : List ℕ) × (put ++ rest ≡ all)
  put-of FailedBreak put all is = (text, is)
  put-of WriteBreak put all is = is
  put-of NoMemoryBreak put all is = is

  -- some lines were answered, and then it was broken off
  pub ran-early : {takes_memory : Bool} {given : ℕ} (why : Break) (failed : Type 0) (refusal : SinkRefusal)
      → BrokeOff (log_rules following) begun Ran Halted takes_memory given left later taken put_then text why session
      → RunsLog following left later taken put_then failed (status_of_refusal refusal)
  ran-early why failed refusal broke =
      let is = broke.breaks in
      let all = lines_of following broke.bytes broke.ended in
      let put = put-of why broke.put is.stream.text is.put_is in
      let grown = front-grows (log_rules following) begun is.front is.rest broke.ended is.stream is.runs in
      let front : WroteFront taken put_then all.stream.text =
      record {
        front = broke.put;
        back = put.0 ++ grown.0;
        whole =
            sym (append_assoc broke.put put.0 grown.0) ∙ ap (λ told. told ++ grown.0) put.1 ∙ sym grown.1
            ∙ ap (λ bytes. (lines_of following bytes broke.ended).stream.text) (sym is.whole);
        wrote = broke.wrote;
      } in
      record {
        bytes = broke.bytes;
        ended = broke.ended;
        gave = broke.gave;
        ends =
            ends-stopped refusal (session_output all) taken put_then failed
            (record {
              front = record {
                front = broke.put;
                back = (put.0 ++ grown.0) ++ last_text all.ending;
                whole =
                    sym (append_assoc broke.put (put.0 ++ grown.0) (last_text all.ending))
                    ∙ ap (λ told. told ++ last_text all.ending) front.whole;
                wrote = broke.wrote;
              };
              fault = λ is. inr front;
            });
        few = few-stopped refusal broke.bytes all.ending;
      }

-- one that was stopped ends with an error
pub by-error : {A : Type 0} (following : Following A) (left later taken after : Option (List ℕ)) (failed : Type 0)
    (result : Result (Ending (List ℕ)) SinkRefusal) → IsErr result
    → ((refusal : SinkRefusal) → RunsLog following left later taken after failed (status_of_refusal refusal))
    → RunsLog following left later taken after failed (status_of_run result)
by-error following left later taken after failed (Ok ending) wrong each = absurd (false≢true wrong)
by-error following left later taken after failed (Err refusal) is each = each refusal
