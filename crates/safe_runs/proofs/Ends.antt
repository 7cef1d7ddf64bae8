-- How a run ends whose text was put behind one that stands there.
use Rattle.std.proofs.Common.{◌≡◌, ℕ, inl, Bool, true, false, List, [], ◌++◌, Option, Ok, refl, sym, ap, ◌∙◌, subst, append_assoc}
use Rattle.std.specs.Prelude.{◌≢◌}
use Rattle.streamed_lines.specs.declared.ending.Ending.{Ending}
use Rattle.streamed_lines.specs.declared.ending.Ending.TheVariants.{Complete, BadLine, ReadFault, TooLong, Ended}
use Rattle.streamed_lines.specs.Outside.{Wrote, WroteFront}
use Rattle.streamed_lines.specs.Reading.{is_read_fault}
use Rattle.streamed_lines.proofs.OutsideLaws.{wrote-none, wrote-more, front-whole}
use Rattle.run_endings.specs.declared.status.Status.{Status}
use Rattle.run_endings.specs.declared.status.Status.TheVariants.{Done, Refused, Usage, BadLine as BadLineStatus, ReadFault as ReadFaultStatus, WriteFault, DeviceFault, NoMemory, TooLong as TooLongStatus, NotJournal, AlreadyMade}
use Rattle.run_endings.specs.Outputs.{Output, Stops, EndsAs}
use Rattle.run_endings.specs.Endings.{status_of}

-- nothing was written of a text
pub front-none : (before : Option (List ℕ)) (text : List ℕ) → WroteFront before before text
front-none before text = record { front = []; back = text; whole = refl; wrote = wrote-none before }

-- a beginning that was written behind a text
front-more : (a b c : Option (List ℕ)) (put text : List ℕ) → Wrote a b put → WroteFront b c text
    → WroteFront a c (put ++ text)
front-more a b c put text first second = record {
  front = put ++ second.front;
  back = second.back;
  whole = append_assoc put second.front second.back ∙ ap (λ rest. put ++ rest) second.whole;
  wrote = wrote-more a b c put second.front first second.wrote;
}

-- a run whose answers were partly put before
module _ (a b c : Option (List ℕ)) (put text last : List ℕ) (failed : Type 0) (first : Wrote a b put) where
  stops-more : (status : Status) → (status ≡ ReadFaultStatus → failed)
      → Stops (record { status = status; answers = text; last = last }) b c (Unit {0})
      → Stops (record { status = status; answers = put ++ text; last = last }) a c failed
  stops-more status why stops = record {
    front =
        subst (WroteFront a c) (sym (append_assoc put text last))
        (front-more a b c put (text ++ last) first stops.front);
    fault = λ is. inl (why is);
  }

  whole-more : Wrote b c (text ++ last) → Wrote a c ((put ++ text) ++ last)
  whole-more wrote =
      subst (Wrote a c) (sym (append_assoc put text last)) (wrote-more a b c put (text ++ last) first wrote)

  pub ends-more : (output status : Status) → (output ≡ ReadFaultStatus → failed)
      → EndsAs (record { status = output; answers = text; last = last }) status b c (Unit {0})
      → EndsAs (record { status = output; answers = put ++ text; last = last }) status a c failed
  ends-more output WriteFault why ends = stops-more output why ends
  ends-more output NoMemory why ends = stops-more output why ends
  ends-more output ReadFaultStatus why ends = ((ends.0.0, whole-more ends.0.1), why ends.0.0)
  ends-more output Done why ends = (ends.0, whole-more ends.1)
  ends-more output Refused why ends = (ends.0, whole-more ends.1)
  ends-more output Usage why ends = (ends.0, whole-more ends.1)
  ends-more output BadLineStatus why ends = (ends.0, whole-more ends.1)
  ends-more output DeviceFault why ends = (ends.0, whole-more ends.1)
  ends-more output TooLongStatus why ends = (ends.0, whole-more ends.1)
  ends-more output NotJournal why ends = (ends.0, whole-more ends.1)
  ends-more output AlreadyMade why ends = (ends.0, whole-more ends.1)
