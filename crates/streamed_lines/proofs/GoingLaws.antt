-- A stream on its way: what was taken is answered, and the answers are put.
use Rattle.std.proofs.Common.{◌≡◌, ℕ, Bool, true, false, List, [], ◌++◌, length, Option, Result, inl, inr, refl, sym, ap, ◌∙◌, subst, append_assoc}
use Rattle.std.specs.Prelude.{IfOk, IfErr}
use Rattle.std.proofs.lemmas.Bool.{false≢true}
use Rattle.std.proofs.lemmas.List.{append-nil}
use Rattle.plasma_outside.specs.declared.sink.SinkRefusal.{SinkRefusal}
use Rattle.plasma_outside.specs.declared.sink.SinkRefusal.TheVariants.{Failed as SinkFailed, NoMemory as SinkNoMemory}
use Rattle.streamed_lines.specs.declared.ending.Ending.{Ending}
use Rattle.streamed_lines.specs.declared.ending.Ending.TheVariants.{ReadFault}
use Rattle.streamed_lines.specs.declared.ending.Halt.{Halt}
use Rattle.streamed_lines.specs.declared.ending.Break.{Break}
use Rattle.streamed_lines.specs.declared.ending.Break.TheVariants.{WriteFault, Failed as FailedBreak, NoMemory as NoMemoryBreak}
use Rattle.streamed_lines.specs.Streams.{Rules}
use Rattle.streamed_lines.specs.Outside.{Gave, Wrote, WroteFront}
use Rattle.streamed_lines.specs.Reading.{halted_at, break_of, IsKept, Reads, EndsAs, Answers, IsBroken, BreaksOff, BrokeOff, HaltsWith}
use Rattle.streamed_lines.proofs.StreamLaws.{if-ok, if-err}
use Rattle.streamed_lines.proofs.StopLaws.{fault-ends, halts-end, halts-break}
use Rattle.streamed_lines.proofs.ReadLaws.{nothing-read, kept-none, reads-put}
use Rattle.streamed_lines.proofs.OutsideLaws.{gave-none, gave-more, wrote-none, wrote-more}

-- What the source gave was answered, and its answers were put.
pub record Going {R C W : Type 0} (rules : Rules R C) (first : R) (Ran : W → R → Type 0)
    (left later taken after : Option (List ℕ)) (text line : List ℕ) (n start : ℕ) (answerer : W) : Type 0 where
  pub bytes : List ℕ
  pub put : List ℕ
  pub gave : Gave left later bytes false
  pub wrote : Wrote taken after put
  pub none : text ≡ []
  pub reads : Reads rules first Ran bytes put text line n start answerer
  pub kept : IsKept n start line

-- nothing is taken yet
pub going-none : {R C W : Type 0} (rules : Rules R C) (first : R) (Ran : W → R → Type 0) (left taken : Option (List ℕ))
    (text line : List ℕ) (answerer : W) → text ≡ [] → line ≡ [] → Ran answerer first
    → Going rules first Ran left left taken taken text line 1 0 answerer
going-none rules first Ran left taken text line answerer none empty ran = record {
  bytes = [];
  put = [];
  gave = gave-none left;
  wrote = wrote-none taken;
  none = none;
  reads =
      subst (λ t. Reads rules first Ran [] [] t line 1 0 answerer) (sym none)
      (subst (λ l. Reads rules first Ran [] [] [] l 1 0 answerer) (sym empty)
      (nothing-read rules first Ran answerer ran));
  kept = subst (IsKept 1 0) (sym empty) kept-none;
}

module _ {R C W : Type 0} (rules : Rules R C) (first : R) (Ran : W → R → Type 0)
    (left later taken after : Option (List ℕ)) (text line : List ℕ) (n start : ℕ) (answerer : W)
    (going : Going rules first Ran left later taken after text line n start answerer) where
  gave-last : (last : Option (List ℕ)) (ended : Bool) → Gave later last [] ended
      → Gave left last going.bytes ended
  gave-last last ended gave =
      subst (λ b. Gave left last b ended) (append-nil going.bytes)
      (gave-more left later last going.bytes [] ended going.gave gave)

  pub going-reads : (bytes text' line' : List ℕ) (n' start' : ℕ) (answerer' : W) (rules' : Rules R C)
      → rules' ≡ rules
      → ((first : R) (before put : List ℕ) → Reads rules' first Ran before put text line n start answerer
      → Reads rules' first Ran (before ++ bytes) put text' line' n' start' answerer')
      → Reads rules first Ran (going.bytes ++ bytes) going.put text' line' n' start' answerer'
  going-reads bytes text' line' n' start' answerer' rules' same reads =
      subst (λ r. (first : R) (before put : List ℕ) → Reads r first Ran before put text line n start answerer
      → Reads r first Ran (before ++ bytes) put text' line' n' start' answerer') same reads
      first going.bytes going.put going.reads

  -- the answers to what was taken are put
  pub going-on : (last : Option (List ℕ)) (bytes text' line' : List ℕ) (n' start' : ℕ) (answerer' : W)
      → Gave later last bytes false
      → Reads rules first Ran (going.bytes ++ bytes) going.put text' line' n' start' answerer'
      → (next : Option (List ℕ)) → IsKept n' start' line' → Wrote after next text'
      → Going rules first Ran left last taken next [] line' n' start' answerer'
  going-on last bytes text' line' n' start' answerer' gave reads next kept wrote = record {
    bytes = going.bytes ++ bytes;
    put = going.put ++ text';
    gave = gave-more left later last going.bytes bytes false going.gave gave;
    wrote = wrote-more taken after next going.put text' going.wrote wrote;
    none = refl;
    reads = reads-put rules first Ran (going.bytes ++ bytes) going.put text' line' n' start' answerer' reads;
    kept = kept;
  }

  -- ---- what ends it, or breaks it off

  module _ (Halted : W → R → List ℕ → Halt C → Type 0) where
    answers : (last : Option (List ℕ)) (bytes text' : List ℕ) (ended : Bool) (answerer' : W) (ending : Ending C)
        → Gave left last bytes ended → EndsAs rules first Ran Halted ended bytes going.put text' ending answerer'
        → Answers rules first Ran Halted left last taken after text' ending answerer'
    answers last bytes text' ended answerer' ending gave ends = record {
      bytes = bytes;
      ended = ended;
      put = going.put;
      gave = gave;
      wrote = going.wrote;
      ends = ends;
    }

    -- without the sink, whatever it takes
    broken : (takes_memory : Bool) (given : ℕ) (last : Option (List ℕ)) (bytes text' : List ℕ) (ended : Bool)
        (answerer' : W) (why : Break) → Gave left last bytes ended
        → BreaksOff rules first Ran Halted false given ended bytes going.put text' why answerer'
        → BrokeOff rules first Ran Halted takes_memory given left last taken after text' why answerer'
    broken takes_memory given last bytes text' ended answerer' why gave breaks = record {
      bytes = bytes;
      ended = ended;
      put = going.put;
      gave = gave;
      wrote = going.wrote;
      breaks = record {
        front = breaks.front;
        rest = breaks.rest;
        stream = breaks.stream;
        whole = breaks.whole;
        runs = breaks.runs;
        put_is = breaks.put_is;
        broken = by why breaks.broken;
      };
    }
      where
        by : (why : Break) → IsBroken Ran Halted false given ended bytes answerer' breaks.stream why
            → IsBroken Ran Halted takes_memory given ended bytes answerer' breaks.stream why
        by WriteFault is = is
        by FailedBreak is = is
        by NoMemoryBreak (inl (ran, inl wrong)) = absurd (false≢true wrong)
        by NoMemoryBreak (inl (ran, inr some)) = inl (ran, inr some)
        by NoMemoryBreak (inr asked) = inr asked

    -- the source failed
    pub going-faults : (last : Option (List ℕ)) → Gave later last [] false
        → Answers rules first Ran Halted left last taken after text ReadFault answerer
    going-faults last gave =
        answers last going.bytes text false answerer ReadFault (gave-last last false gave)
        (fault-ends rules first Ran Halted going.bytes going.put text line n start answerer going.reads going.kept)

    -- the source was at its end
    module _ (last : Option (List ℕ)) (text' : List ℕ) (answerer' : W) (rules' : Rules R C)
        (result : Result (Ending C) Break) (same : rules' ≡ rules) (gave : Gave later last [] true) where
      pub going-ends : ((first : R) (bytes put : List ℕ)
          → Reads rules' first Ran bytes put text line n start answerer
          → IfOk result (λ ending. EndsAs rules' first Ran Halted true bytes put text' ending answerer'))
          → IfOk result (λ ending. Answers rules first Ran Halted left last taken after text' ending answerer')
      going-ends ends =
          if-ok _ _ result
          (λ ending. answers last going.bytes text' true answerer' ending (gave-last last true gave))
          (subst (λ r. (first : R) (bytes put : List ℕ) → Reads r first Ran bytes put text line n start answerer
          → IfOk result (λ ending. EndsAs r first Ran Halted true bytes put text' ending answerer')) same ends
          first going.bytes going.put going.reads)

      pub going-breaks : (takes_memory : Bool) (given : ℕ) → given ≡ 0 → ((first : R) (bytes put : List ℕ)
          → Reads rules' first Ran bytes put text line n start answerer
          → IfErr result (λ why. BreaksOff rules' first Ran Halted false 0 true bytes put text' why answerer'))
          → IfErr result
          (λ why. BrokeOff rules first Ran Halted takes_memory given left last taken after text' why answerer')
      going-breaks takes_memory given none breaks =
          if-err _ _ result
          (λ why is. broken takes_memory given last going.bytes text' true answerer' why (gave-last last true gave)
          (subst (λ m. BreaksOff rules first Ran Halted false m true going.bytes going.put text' why answerer')
          (sym none) is))
          (subst (λ r. (first : R) (bytes put : List ℕ) → Reads r first Ran bytes put text line n start answerer
          → IfErr result (λ why. BreaksOff r first Ran Halted false 0 true bytes put text' why answerer')) same breaks
          first going.bytes going.put going.reads)

    -- a line of what was taken halted the stream
    module _ (last : Option (List ℕ)) (bytes text' : List ℕ) (n' : ℕ) (answerer' : W) (halt : Halt C)
        (rules' : Rules R C) (result : Result (Ending C) Break) (is : result ≡ halted_at n' halt)
        (same : rules' ≡ rules) (gave : Gave later last bytes false)
        (halts : (first : R) (before put : List ℕ) → Reads rules' first Ran before put text line n start answerer
        → HaltsWith rules' first Ran Halted (length bytes) false (before ++ bytes) put text' n' answerer' halt) where
      halted :
          HaltsWith rules first Ran Halted (length bytes) false (going.bytes ++ bytes) going.put text' n' answerer' halt
      halted =
          subst (λ r. (first : R) (before put : List ℕ) → Reads r first Ran before put text line n start answerer
          → HaltsWith r first Ran Halted (length bytes) false (before ++ bytes) put text' n' answerer' halt) same halts
          first going.bytes going.put going.reads

      pub halt-ends :
          IfOk result (λ ending. Answers rules first Ran Halted left last taken after text' ending answerer')
      halt-ends =
          if-ok _ _ result
          (λ ending. answers last (going.bytes ++ bytes) text' false answerer' ending
          (gave-more left later last going.bytes bytes false going.gave gave))
          (halts-end rules first Ran Halted (length bytes) false (going.bytes ++ bytes) going.put text' n' answerer'
          halt result is halted)

      pub halt-breaks : (takes_memory : Bool) (given : ℕ) → given ≡ length bytes
          → IfErr result
          (λ why. BrokeOff rules first Ran Halted takes_memory given left last taken after text' why answerer')
      halt-breaks takes_memory given many =
          if-err _ _ result
          (λ why. broken takes_memory given last (going.bytes ++ bytes) text' false answerer' why
          (gave-more left later last going.bytes bytes false going.gave gave))
          (halts-break rules first Ran Halted given false (going.bytes ++ bytes) going.put text' n' answerer' halt
          result is
          (subst (λ m. HaltsWith rules first Ran Halted m false (going.bytes ++ bytes) going.put text' n' answerer'
          halt) (sym many) halted))

    -- the answers to what was taken were not all put
    pub put-breaks : (last : Option (List ℕ)) (bytes text' line' : List ℕ) (n' start' : ℕ) (answerer' : W)
        → Gave later last bytes false
        → Reads rules first Ran (going.bytes ++ bytes) going.put text' line' n' start' answerer'
        → (next : Option (List ℕ)) (refusal : SinkRefusal) (text'' : List ℕ) → WroteFront after next text'
        → (takes_memory : Bool) (given : ℕ) → (refusal ≡ SinkNoMemory → takes_memory ≡ true)
        → BrokeOff rules first Ran Halted takes_memory given left last taken next text'' (break_of refusal) answerer'
    put-breaks last bytes text' line' n' start' answerer' gave reads next refusal text'' front memory given takes =
        record {
          bytes = going.bytes ++ bytes;
          ended = false;
          put = going.put ++ front.front;
          gave = gave-more left later last going.bytes bytes false going.gave gave;
          wrote = wrote-more taken after next going.put front.front going.wrote front.wrote;
          breaks = by_refusal refusal takes;
        }
      where
        told : (going.put ++ front.front) ++ front.back ≡ reads.stream.text
        told =
            append_assoc going.put front.front front.back ∙ ap (λ t. going.put ++ t) front.whole ∙ reads.told

        by_refusal : (refusal : SinkRefusal) → (refusal ≡ SinkNoMemory → memory ≡ true)
            → BreaksOff rules first Ran Halted memory given false (going.bytes ++ bytes)
            (going.put ++ front.front) text'' (break_of refusal) answerer'
        by_refusal SinkFailed takes = record {
          front = reads.front;
          rest = line';
          stream = reads.stream;
          whole = reads.whole;
          runs = reads.runs;
          put_is = (front.back, told);
          broken = reads.ran;
        }
        by_refusal SinkNoMemory takes = record {
          front = reads.front;
          rest = line';
          stream = reads.stream;
          whole = reads.whole;
          runs = reads.runs;
          put_is = (front.back, told);
          broken = inl (reads.ran, inl (takes refl));
        }
