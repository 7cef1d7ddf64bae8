-- How a run ends that is counted and not answered.
use Rattle.std.proofs.Common.{◌≡◌, ℕ, inl, Bool, true, List, [], ◌++◌, Option, None, Ok, sym, ap, ◌∙◌, subst}
use Rattle.plasma_outside.specs.declared.sink.SinkRefusal.{SinkRefusal}
use Rattle.world_core.specs.Worlds.{RunningState}
use Rattle.streamed_lines.specs.declared.ending.Ending.{Ending}
use Rattle.streamed_lines.specs.declared.ending.Ending.TheVariants.{Complete}
use Rattle.streamed_lines.specs.Outside.{Wrote, WroteFront}
use Rattle.streamed_lines.specs.Reading.{is_read_fault}
use Rattle.run_endings.specs.Statuses.{status_of_refusal}
use Rattle.run_endings.specs.Outputs.{Output, EndsAs}
use Rattle.run_endings.proofs.EndingLaws.{ends-whole, ends-stopped}
use Rattle.replay_run.specs.declared.ending.NoCause.{NoCause}
use Rattle.replay_run.specs.Replays.{JudgedRun, Replay as ReplayOf, replay_of}
use Rattle.replay_run.specs.Text.{brief_text, last_text}
use Rattle.replay_run.specs.Output.{status_of, brief_output}
use Rattle.replay_run.specs.Bounds.{TakesFewBy, FewBy}
use Rattle.replay_run.specs.Runs.{RanOver}
use Rattle.replay_run.specs.Reading.{Ran, Answers, StopsEarly}
use Rattle.replay_run.proofs.RunLaws.{stops-unwritten, failed-of, few-by, few-stopped}

-- a run whose lines were all answered, into nothing, up to what ended it
module _ {H : Type 0} (left later : Option (List ℕ)) (digest_of : H → List ℕ → List ℕ) (dig : List ℕ → List ℕ)
    (text : List ℕ) (ending : Ending NoCause) (world : RunningState H) (Failed_ : Bool → Type 0)
    (answers : Answers left later None None digest_of dig text ending world)
    (reads : Failed_ (is_read_fault (Ok ending))) where
  -- what is written of it
  abbrev last_of : List ℕ
  last_of = last_text (brief_text dig answers.run) ending

  abbrev whole : Output
  whole = record { status = status_of ending; answers = []; last = last_of }

  output-is : brief_output dig answers.bytes answers.ended ≡ whole
  output-is =
      ap (λ (r : ReplayOf). record {
        status = status_of r.ending;
        answers = [];
        last = last_text (brief_text dig r.run) r.ending;
      }) answers.replays

  -- it is gathered where nothing was
  pub told-brief : (old all : List ℕ) → old ≡ [] → ((run : JudgedRun)
      → (ending ≡ Complete → Ran digest_of world run) → all ≡ old ++ last_text (brief_text run.digest run.run) ending)
      → all ≡ last_of
  told-brief old all none told =
      told (record { digest = dig; run = answers.run }) answers.ran ∙ ap (λ t. t ++ last_of) none

  pub brief-whole : (before after : Option (List ℕ)) → Wrote before after last_of
      → RanOver (brief_output dig) (FewBy dig) left later before after (Failed_ true) (status_of ending)
  brief-whole before after wrote = record {
    bytes = answers.bytes;
    ended = answers.ended;
    gave = answers.gave;
    ends =
        subst (λ o. EndsAs o (status_of ending) before after (Failed_ true)) (sym output-is)
        (ends-whole whole before after (Failed_ true) (failed-of Failed_ ending reads) wrote);
    few =
        subst (λ (r : ReplayOf). TakesFewBy (status_of ending) answers.bytes r.ending)
        (sym answers.replays) (few-by ending answers.bytes answers.few);
  }

  pub brief-part : (before after : Option (List ℕ)) (refusal : SinkRefusal) → WroteFront before after last_of
      → RanOver (brief_output dig) (FewBy dig) left later before after (Failed_ true) (status_of_refusal refusal)
  brief-part before after refusal front = record {
    bytes = answers.bytes;
    ended = answers.ended;
    gave = answers.gave;
    ends =
        subst (λ o. EndsAs o (status_of_refusal refusal) before after (Failed_ true)) (sym output-is)
        (ends-stopped refusal whole before after (Failed_ true)
        (record { front = front; fault = λ is. inl (failed-of Failed_ ending reads is) }));
    few = few-stopped refusal answers.bytes (replay_of dig answers.bytes answers.ended).ending;
  }

-- a run that was stopped on its way wrote nothing
pub brief-early : (left later before : Option (List ℕ)) (dig : List ℕ → List ℕ) (failed : Type 0)
    (refusal : SinkRefusal) → StopsEarly left later None None dig
    → RanOver (brief_output dig) (FewBy dig) left later before before failed (status_of_refusal refusal)
brief-early left later before dig failed refusal stops = record {
  bytes = stops.bytes;
  ended = stops.ended;
  gave = stops.gave;
  ends =
      ends-stopped refusal (brief_output dig stops.bytes stops.ended) before before failed
      (stops-unwritten (brief_output dig stops.bytes stops.ended) before failed);
  few = few-stopped refusal stops.bytes (replay_of dig stops.bytes stops.ended).ending;
}
