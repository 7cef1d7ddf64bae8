-- How a run ends whose text was put behind one that stands there, and what that says of its reading.
use Rattle.node_runs.proofs.Words.{◌≡◌, ℕ, inl, Bool, true, false, List, [], ◌++◌, Option, Ok, refl, sym, ap, ◌∙◌, subst, append_assoc, ◌≢◌, Ending, ReadFault, is_read_fault, Status, ReadFaultStatus, WriteFault, NoMemory, Output, Stops, EndsAs, status_of_refusal, status_of, fault_output, ends-stopped}
use Rattle.streamed_lines.specs.Outside.{Wrote, WroteFront}
use Rattle.streamed_lines.proofs.OutsideLaws.{wrote-more, front-whole}
use Rattle.plasma_outside.specs.declared.sink.SinkRefusal.{SinkRefusal}
use Rattle.run_endings.specs.Texts.{device_fault_text}
use Rattle.run_endings.proofs.PutLaws.{front-more}

-- a run whose answers were partly put before
module _ (a b c : Option (List ℕ)) (put text last : List ℕ) (failed : Type 0) (first : Wrote a b put) where
  stops-more : (status : Status) → (status ≡ ReadFaultStatus → failed)
      → Stops (record { status = status; answers = text; last = last }) b c (Unit {0})
      → Stops (record { status = status; answers = put ++ text; last = last }) a c failed
  stops-more status why stops = record {
    front =
        subst (WroteFront a c) (sym (append_assoc put text last))
        (front-more a b c put (text ++ last) first stops.front);
    fault = λ is. inl (why is);
  }

  whole-more : Wrote b c (text ++ last) → Wrote a c ((put ++ text) ++ last)
  whole-more wrote =
      subst (Wrote a c) (sym (append_assoc put text last)) (wrote-more a b c put (text ++ last) first wrote)

  pub ends-more : (output status : Status) → (output ≡ ReadFaultStatus → failed)
      → EndsAs (record { status = output; answers = text; last = last }) status b c (Unit {0})
      → EndsAs (record { status = output; answers = put ++ text; last = last }) status a c failed
  ends-more output WriteFault why ends = stops-more output why ends
  ends-more output NoMemory why ends = stops-more output why ends
  ends-more output ReadFaultStatus why ends = ((ends.0.0, whole-more ends.0.1), why ends.0.0)
  ends-more output status why ends = (ends.0, whole-more ends.1)

-- a run that met a device fault and wrote a beginning of its answers
pub fault-stopped : (refusal : SinkRefusal) (answers : List ℕ) (before after : Option (List ℕ)) (failed : Type 0)
    → WroteFront before after answers → EndsAs (fault_output answers) (status_of_refusal refusal) before after failed
fault-stopped refusal answers before after failed front =
    ends-stopped refusal (fault_output answers) before after failed
    (record {
      front = record {
        front = front.front;
        back = front.back ++ device_fault_text;
        whole =
            sym (append_assoc front.front front.back device_fault_text)
            ∙ ap (λ (text : List ℕ). text ++ device_fault_text) front.whole;
        wrote = front.wrote;
      };
      fault = λ wrong. absurd (cc);
    })

-- or its answers, and then the last line or a beginning of it
pub fault-behind : (a b c : Option (List ℕ)) (answers : List ℕ) (failed : Type 0) (status : Status)
    → Wrote a b answers → EndsAs (fault_output []) status b c ⊥ → EndsAs (fault_output answers) status a c failed
fault-behind a b c answers failed WriteFault first ends =
    record { front = front-more a b c answers device_fault_text first ends.front; fault = λ wrong. absurd (cc) }
fault-behind a b c answers failed NoMemory first ends =
    record { front = front-more a b c answers device_fault_text first ends.front; fault = λ wrong. absurd (cc) }
fault-behind a b c answers failed ReadFaultStatus first ends = absurd ends.1
fault-behind a b c answers failed status first ends =
    (ends.0, wrote-more a b c answers device_fault_text first ends.1)

-- whatever a run ends as, it wrote a beginning of its text behind what was there
module _ (output : Output) (before after : Option (List ℕ)) (failed : Type 0) where
  pub ends-front : (status : Status) → EndsAs output status before after failed
      → WroteFront before after (output.answers ++ output.last)
  ends-front WriteFault ends = ends.front
  ends-front NoMemory ends = ends.front
  ends-front ReadFaultStatus ends = front-whole before after (output.answers ++ output.last) ends.0.1
  ends-front status ends = front-whole before after (output.answers ++ output.last) ends.1

-- the reading of a session, by what ended it
module _ (Reads : Bool → Type 0) where
  pub failed-of : (ending : Ending (List ℕ)) → Reads (is_read_fault (Ok ending)) → status_of ending ≡ ReadFaultStatus
      → Reads true
  failed-of ReadFault reads is = reads
  failed-of ending reads wrong = absurd (cc)

  unfailed-of : (ending : Ending (List ℕ)) → Reads (is_read_fault (Ok ending)) → status_of ending ≢ ReadFaultStatus
      → Reads false
  unfailed-of ReadFault reads no_fault = absurd (no_fault refl)
  unfailed-of ending reads no_fault = reads

  differs : (ending : Ending (List ℕ)) (status : Status) → status_of ending ≡ status → status ≢ ReadFaultStatus
      → status_of ending ≢ ReadFaultStatus
  differs ending status is no_fault same = no_fault (sym is ∙ same)
