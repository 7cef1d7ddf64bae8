-- How a whole run ends.
use Rattle.std.proofs.Common.{◌≡◌, ℕ, inl, inr, Bool, true, List, ◌++◌, Option, Result, Ok, Err, sym, ap, ◌∙◌, subst, append_assoc}
use Rattle.std.specs.Prelude.{IsErr}
use Rattle.std.proofs.lemmas.Bool.{false≢true}
use Rattle.plasma_outside.specs.declared.sink.SinkRefusal.{SinkRefusal}
use Rattle.plasma_outside.specs.declared.sink.SinkRefusal.TheVariants.{Failed, NoMemory as WantsMemory}
use Rattle.world_core.specs.Worlds.{RunningState}
use Rattle.streamed_lines.specs.declared.ending.Ending.{Ending}
use Rattle.streamed_lines.specs.declared.ending.Ending.TheVariants.{Complete, BadLine, ReadFault, TooLong, Ended}
use Rattle.run_endings.specs.declared.status.Status.{Status}
use Rattle.run_endings.specs.declared.status.Status.TheVariants.{ReadFault as ReadFaultStatus}
use Rattle.replay_run.specs.Replays.{JudgedRun, Replay as ReplayOf, replay_of}
use Rattle.replay_run.specs.Text.{answers_text, closing_text, last_text}
use Rattle.run_endings.specs.Statuses.{status_of_refusal, ReadsBy}
use Rattle.run_endings.specs.Outputs.{Output}
use Rattle.replay_run.specs.Output.{status_of, status_of_replay, replay_output}
use Rattle.replay_run.specs.Bounds.{TakesFewBy, FewBy}
use Rattle.streamed_lines.specs.Bounds.{TakesFew}
use Rattle.streamed_lines.specs.Outside.{Wrote, WroteFront}
use Rattle.streamed_lines.specs.Reading.{is_read_fault}
use Rattle.run_endings.specs.Outputs.{Stops, EndsAs}
use Rattle.replay_run.specs.Runs.{RanOver}
use Rattle.replay_run.specs.declared.ending.NoCause.{NoCause}
use Rattle.replay_run.specs.Reading.{Ran, Answers, StopsEarly}
use Rattle.streamed_lines.proofs.OutsideLaws.{wrote-more}
use Rattle.run_endings.proofs.EndingLaws.{ends-whole, ends-stopped}
use Rattle.replay_run.proofs.OutsideLaws.{front-more, front-none}

-- a reading's faults, in the words of a run's status
module _ (Reads : Bool → Type 0) where
  pub failed-of : (ending : Ending NoCause) → Reads (is_read_fault (Ok ending)) → status_of ending ≡ ReadFaultStatus
      → Reads true
  failed-of Complete reads wrong = absurd (cc)
  failed-of (BadLine n) reads wrong = absurd (cc)
  failed-of ReadFault reads is = reads
  failed-of (TooLong n) reads wrong = absurd (cc)
  failed-of (Ended n cause) reads wrong = elim cause [ ]

pub few-by : (ending : Ending NoCause) (bytes : List ℕ) → TakesFew bytes ending
    → TakesFewBy (status_of ending) bytes ending
few-by Complete bytes few = tt
few-by (BadLine n) bytes few = few
few-by ReadFault bytes few = tt
few-by (TooLong n) bytes few = few
few-by (Ended n cause) bytes few = elim cause [ ]

pub few-stopped : (refusal : SinkRefusal) (bytes : List ℕ) (ending : Ending NoCause)
    → TakesFewBy (status_of_refusal refusal) bytes ending
few-stopped Failed bytes ending = tt
few-stopped WantsMemory bytes ending = tt

-- a replay whose lines were all answered, up to what ended it
module _ {H : Type 0} (left later taken after : Option (List ℕ)) (digest_of : H → List ℕ → List ℕ)
    (dig : List ℕ → List ℕ) (text : List ℕ) (ending : Ending NoCause) (world : RunningState H) (Failed_ : Bool → Type 0)
    (answers : Answers left later taken after digest_of dig text ending world)
    (reads : Failed_ (is_read_fault (Ok ending))) where
  -- what stands behind the answers
  abbrev last_of : List ℕ
  last_of = last_text (closing_text dig answers.run) ending

  abbrev whole : Output
  whole = record { status = status_of ending; answers = answers.put ++ text; last = last_of }

  output-is : replay_output dig answers.bytes answers.ended ≡ whole
  output-is =
      ap (λ (r : ReplayOf). record {
        status = status_of r.ending;
        answers = answers_text r;
        last = last_text (closing_text dig r.run) r.ending;
      }) answers.replays
      ∙ ap (λ t. record { status = status_of ending; answers = t; last = last_of }) (sym answers.told)

  -- the text that was gathered, with the lines behind the answers
  pub told-last : (all : List ℕ) → ((run : JudgedRun) → (ending ≡ Complete → Ran digest_of world run)
      → all ≡ text ++ last_text (closing_text run.digest run.run) ending) → all ≡ text ++ last_of
  told-last all told = told (record { digest = dig; run = answers.run }) answers.ran

  pub ran-whole : (last : Option (List ℕ)) → Wrote after last (text ++ last_of)
      → RanOver (replay_output dig) (FewBy dig) left later taken last (Failed_ true) (status_of ending)
  ran-whole last wrote = record {
    bytes = answers.bytes;
    ended = answers.ended;
    gave = answers.gave;
    ends =
        subst (λ o. EndsAs o (status_of ending) taken last (Failed_ true)) (sym output-is)
        (ends-whole whole taken last (Failed_ true) (failed-of Failed_ ending reads)
        (subst (Wrote taken last) (sym (append_assoc answers.put text last_of))
        (wrote-more taken after last answers.put (text ++ last_of) answers.wrote wrote)));
    few =
        subst (λ (r : ReplayOf). TakesFewBy (status_of ending) answers.bytes r.ending)
        (sym answers.replays) (few-by ending answers.bytes answers.few);
  }

  pub ran-part : (last : Option (List ℕ)) (refusal : SinkRefusal) → WroteFront after last (text ++ last_of)
      → RanOver (replay_output dig) (FewBy dig) left later taken last (Failed_ true) (status_of_refusal refusal)
  ran-part last refusal front = record {
    bytes = answers.bytes;
    ended = answers.ended;
    gave = answers.gave;
    ends =
        subst (λ o. EndsAs o (status_of_refusal refusal) taken last (Failed_ true)) (sym output-is)
        (ends-stopped refusal whole taken last (Failed_ true)
        (record {
          front =
              subst (WroteFront taken last) (sym (append_assoc answers.put text last_of))
              (front-more taken after last answers.put (text ++ last_of) answers.wrote front);
          fault = λ is. inl (failed-of Failed_ ending reads is);
        }));
    few = few-stopped refusal answers.bytes (replay_of dig answers.bytes answers.ended).ending;
  }

-- a replay that was stopped on its way
pub ran-early : (left later taken after : Option (List ℕ)) (dig : List ℕ → List ℕ) (failed : Type 0)
    (refusal : SinkRefusal) → StopsEarly left later taken after dig
    → RanOver (replay_output dig) (FewBy dig) left later taken after failed (status_of_refusal refusal)
ran-early left later taken after dig failed refusal stops =
    let output = replay_output dig stops.bytes stops.ended in
    let front = stops.front in
    record {
      bytes = stops.bytes;
      ended = stops.ended;
      gave = stops.gave;
      ends =
          ends-stopped refusal output taken after failed
          (record {
            front = record {
              front = front.front;
              back = front.back ++ output.last;
              whole =
                  sym (append_assoc front.front front.back output.last) ∙ ap (λ t. t ++ output.last) front.whole;
              wrote = front.wrote;
            };
            fault = λ is. inr front;
          });
      few = few-stopped refusal stops.bytes (replay_of dig stops.bytes stops.ended).ending;
    }

-- a replay that was stopped ends with an error
pub by-error : (output : List ℕ → Bool → Output) (Few : Status → List ℕ → Bool → Type 0)
    (left later taken after : Option (List ℕ)) (failed : Type 0) (result : Result (Ending NoCause) SinkRefusal)
    → IsErr result
    → ((refusal : SinkRefusal) → RanOver output Few left later taken after failed (status_of_refusal refusal))
    → RanOver output Few left later taken after failed (status_of_replay result)
by-error output Few left later taken after failed (Ok ending) wrong each = absurd (false≢true wrong)
by-error output Few left later taken after failed (Err refusal) is each = each refusal

-- a reading that came to its end, in the words of a run's status
pub read-by : (Reads : Bool → Type 0) (ending : Ending NoCause) → Reads (is_read_fault (Ok ending))
    → ReadsBy (status_of_replay (Ok ending)) Reads
read-by Reads Complete reads = reads
read-by Reads (BadLine n) reads = reads
read-by Reads ReadFault reads = reads
read-by Reads (TooLong n) reads = reads
read-by Reads (Ended n cause) reads = elim cause [ ]

-- and its reading failed or not
pub read-before : (Reads : Bool → Type 0) (result : Result (Ending NoCause) SinkRefusal) → IsErr result
    → (failed : Bool) → Reads failed → ReadsBy (status_of_replay result) Reads
read-before Reads (Ok ending) wrong failed reads = absurd (false≢true wrong)
read-before Reads (Err Failed) is failed reads = (failed, reads)
read-before Reads (Err WantsMemory) is failed reads = (failed, reads)

-- want of memory before anything was written
pub stops-unwritten : (output : Output) (before : Option (List ℕ)) (failed : Type 0)
    → Stops output before before failed
stops-unwritten output before failed = record {
  front = front-none before (output.answers ++ output.last);
  fault = λ is. inr (front-none before output.answers);
}
