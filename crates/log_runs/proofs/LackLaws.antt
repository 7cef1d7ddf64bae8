-- Where a run over a log lacks memory.
use Rattle.std.proofs.Common.{◌≡◌, ◌⊎◌, ℕ, inl, inr, Bool, true, false, List, Option, sym, ap, ◌∙◌, subst}
use Rattle.std.proofs.lemmas.Bool.{false≢true}
use Rattle.streamed_lines.specs.declared.ending.Ending.{Ending}
use Rattle.streamed_lines.specs.declared.ending.Halt.{Halt}
use Rattle.streamed_lines.specs.declared.ending.Halt.TheVariants.{NoMemory as NoMemoryHalt}
use Rattle.streamed_lines.specs.declared.ending.Break.{Break}
use Rattle.streamed_lines.specs.declared.ending.Break.TheVariants.{NoMemory as NoMemoryBreak}
use Rattle.streamed_lines.specs.Streams.{Stream, Streamed}
use Rattle.streamed_lines.specs.Reading.{next_text, MayBeAnswered, IsKeptNext, IsBroken, Answers, BrokeOff}
use Rattle.run_endings.specs.Endings.{is_composed}
use Rattle.log_runs.specs.Following.{Following, LogRun, begun, log_rules}
use Rattle.log_runs.specs.Kept.{MayTakeMemory}
use Rattle.log_runs.specs.Lacking.{LacksMemory}

module _ {A W : Type 0} (following : Following A) (Behind : A → List ℕ → Type 0) (Ran : W → LogRun A → Type 0)
    (Halted : W → LogRun A → List ℕ → Halt (List ℕ) → Type 0) (left later taken put_then : Option (List ℕ))
    (text : List ℕ) (session : W) where
  abbrev LacksAt : ℕ → Bool → List ℕ → Stream (LogRun A) → Type 0
  LacksAt given ended bytes stream =
      IsKeptNext given bytes stream
      ⊎ (MayBeAnswered ended bytes stream
      × MayTakeMemory Behind stream.run.at stream.run.is_over (next_text bytes stream))

  module _ {takes_memory : Bool} {given : ℕ} (none : takes_memory ≡ false)
      (takes : (run : LogRun A) (line : List ℕ) → Halted session run line NoMemoryHalt
      → MayTakeMemory Behind run.at run.is_over line) where
    lacks-at : (ended : Bool) (bytes : List ℕ) (stream : Stream (LogRun A))
        → IsBroken Ran Halted takes_memory given ended bytes session stream NoMemoryBreak
        → LacksAt given ended bytes stream
    lacks-at ended bytes stream (inl (ran, inl wrong)) = absurd (false≢true (sym none ∙ wrong))
    lacks-at ended bytes stream (inl (ran, inr kept)) = inl kept
    lacks-at ended bytes stream (inr asked) = inr (asked.0, takes stream.run (next_text bytes stream) asked.1)

    -- some lines were answered, and then it was broken off
    pub lacks-broken : (why : Break) → why ≡ NoMemoryBreak
        → BrokeOff (log_rules following) begun Ran Halted takes_memory given left later taken put_then text why session
        → LacksMemory following Behind given left later
    lacks-broken why same broken =
        let broke =
        subst
        (λ why. BrokeOff (log_rules following) begun Ran Halted takes_memory given left later taken put_then text why
        session)
        same broken in
        let is = broke.breaks in
        record {
          bytes = broke.bytes;
          ended = broke.ended;
          gave = broke.gave;
          there =
              inl
              (record {
                front = is.front;
                rest = is.rest;
                stream = is.stream;
                whole = is.whole;
                runs = is.runs;
                lacks = lacks-at broke.ended broke.bytes is.stream is.broken;
              });
        }

  -- all lines were answered, up to what ended them
  pub lacks-composed : {given : ℕ} (ending : Ending (List ℕ))
      → Answers (log_rules following) begun Ran Halted left later taken put_then text ending session
      → is_composed ending ≡ true → LacksMemory following Behind given left later
  lacks-composed ending answers composed = record {
    bytes = answers.bytes;
    ended = answers.ended;
    gave = answers.gave;
    there = inr (ap (λ (s : Streamed (LogRun A) (List ℕ)). is_composed s.ending) answers.ends.streams ∙ composed);
  }
