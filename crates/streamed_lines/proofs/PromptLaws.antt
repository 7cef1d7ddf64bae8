-- The answers to what was read are put before more is read.
use Rattle.std.proofs.Common.{◌≡◌, ℕ, ◌+◌, ◌≤◌, Bool, true, false, if◌then◌else◌, List, [], ◌∷◌, ◌++◌, length, take, Option, Result, Ok, Err, refl, sym, ap, ◌∙◌, subst, arith, append_assoc}
use Rattle.std.specs.Prelude.{◌≢◌}
use Rattle.std.proofs.lemmas.Bool.{false≢true}
use Rattle.std.proofs.lemmas.List.{append-nil, length-take}
use Rattle.streamed_lines.specs.declared.ending.Ending.{Ending}
use Rattle.streamed_lines.specs.declared.ending.Ending.TheVariants.{Complete, BadLine, ReadFault, TooLong}
use Rattle.streamed_lines.specs.declared.ending.Stop.{Stop}
use Rattle.streamed_lines.specs.declared.ending.Stop.TheVariants.{BadLine as BadLineStop, TooLong as TooLongStop, Ends}
use Rattle.streamed_lines.specs.declared.ending.Halt.{Halt}
use Rattle.streamed_lines.specs.Lines.{lines_in, text_of, is_too_long}
use Rattle.streamed_lines.specs.Streams.{Rules, Stream, Streamed, no_lines, next_number, stream_or, goes_on, line_stream, stream_from, stream_of}
use Rattle.streamed_lines.specs.Bounds.{room}
use Rattle.streamed_lines.specs.Outside.{Gave, Wrote, WroteFront}
use Rattle.streamed_lines.specs.Prompt.{answers_so_far, fault_line, AnswersPromptly}
use Rattle.streamed_lines.specs.Reading.{Answers}
use Rattle.streamed_lines.proofs.GoingLaws.{Going}
use Rattle.streamed_lines.proofs.StopLaws.{fault-ends}
use Rattle.streamed_lines.proofs.OutsideLaws.{gave-more, wrote-more}

-- a take gave a room at most, since no more was lent
pub took-few : (n size : ℕ) (bytes : List ℕ) → n ≤ size → size ≤ room → length (take n bytes) ≤ room
took-few n size bytes low most = omega (arith, length-take n bytes)

-- one that gave bytes didn't fail
pub unfailed : (failed : Bool) (bytes : List ℕ) → failed ≡ false → failed ≡ true → bytes ≡ []
unfailed failed bytes gave wrong = absurd (false≢true (sym gave ∙ wrong))

module _ {R C W : Type 0} (rules : Rules R C) (first : R) (Ran : W → R → Type 0)
    (left later taken after : Option (List ℕ)) (text line : List ℕ) (n start : ℕ) (answerer : W)
    (going : Going rules first Ran left later taken after text line n start answerer) where
  -- what was put is the answers to what was read
  put-is : going.put ≡ answers_so_far rules first going.bytes
  put-is =
      let ends =
      fault-ends rules first Ran (λ _ _ _ _. Unit {0}) going.bytes going.put text line n start answerer going.reads
      going.kept in
      sym (append-nil going.put) ∙ ap (λ t. going.put ++ t) (sym going.none) ∙ ends.told
      ∙ ap (λ (s : Streamed R C). s.stream.text) (sym ends.streams)

  -- a last take gave these bytes, and behind it this was written
  pub promptly : (last next : Option (List ℕ)) (bytes more : List ℕ) (failed : Bool) → Gave later last bytes false
      → length bytes ≤ room → (failed ≡ true → bytes ≡ []) → (failed ≡ true → more ≡ []) → Wrote after next more
      → AnswersPromptly (answers_so_far rules first) left last failed taken next
  promptly last next bytes more failed gave few none mute wrote = record {
    earlier = going.bytes;
    last = bytes;
    gave = gave-more left later last going.bytes bytes false going.gave gave;
    few = few;
    none = none;
    more = more;
    wrote =
        subst (λ t. Wrote taken next (t ++ more)) put-is
        (wrote-more taken after next going.put more going.wrote wrote);
    fault = λ is. (fault_line, ap (λ t. t ++ fault_line) (mute is));
  }

-- the same where more was written since and no take failed, and of the same answers
module _ (answers : List ℕ → List ℕ) (left later : Option (List ℕ)) (failed : Bool) (taken after : Option (List ℕ)) where
  pub prompt-more : (next : Option (List ℕ)) (more : List ℕ) → AnswersPromptly answers left later failed taken after
      → Wrote after next more → failed ≡ false → AnswersPromptly answers left later failed taken next
  prompt-more next more prompt wrote went = record {
    earlier = prompt.earlier;
    last = prompt.last;
    gave = prompt.gave;
    few = prompt.few;
    none = prompt.none;
    more = prompt.more ++ more;
    wrote =
        subst (Wrote taken next) (append_assoc (answers prompt.earlier) prompt.more more)
        (wrote-more taken after next (answers prompt.earlier ++ prompt.more) more prompt.wrote wrote);
    fault = λ wrong. absurd (false≢true (sym went ∙ wrong));
  }

  pub prompt-same : (other : List ℕ → List ℕ) → ((bytes : List ℕ) → answers bytes ≡ other bytes)
      → AnswersPromptly answers left later failed taken after → AnswersPromptly other left later failed taken after
  prompt-same other same prompt = record {
    earlier = prompt.earlier;
    last = prompt.last;
    gave = prompt.gave;
    few = prompt.few;
    none = prompt.none;
    more = prompt.more;
    wrote = subst (λ t. Wrote taken after (t ++ prompt.more)) (same prompt.earlier) prompt.wrote;
    fault = prompt.fault;
  }

-- ---- behind a take that failed

-- an input that was read to its end meets no read fault
module _ {R C : Type 0} (rules : Rules R C) where
  abbrev Unfailed : Ending C → Type 0
  Unfailed ending = ending ≢ ReadFault

  NoFault : Result (Stream R) (Ending C) → Type 0
  NoFault (Ok next) = Unit {0}
  NoFault (Err ending) = Unfailed ending

  line-unfailed : (start : ℕ) (stream : Stream R) (line : List ℕ)
      → NoFault (line_stream rules true start stream line)
  unfolding line_stream NoFault
  line-unfailed start stream line =
      by (is_too_long (next_number stream) start line) (rules.next stream.run (text_of line))
    where
      by : (long : Bool) (next : Result (R × List ℕ) (Stop C))
          → NoFault (if long then Err (TooLong (next_number stream)) else stream_or stream next)
      by true next = λ wrong. absurd (cc)
      by false (Ok answered) = tt
      by false (Err BadLineStop) = λ wrong. absurd (cc)
      by false (Err TooLongStop) = λ wrong. absurd (cc)
      by false (Err (Ends cause)) = λ wrong. absurd (cc)

  lines-unfailed : (start : ℕ) (stream : Stream R) (lines : List (List ℕ))
      → Unfailed (stream_from rules true start stream lines).ending
  unfolding stream_from NoFault
  lines-unfailed start stream [] = by (rules.may_end stream.run)
    where
      by : (may : Bool) → Unfailed (if may then Complete else BadLine (next_number stream))
      by true wrong = absurd (cc)
      by false wrong = absurd (cc)
  lines-unfailed start stream (line ∷ lines) =
      (elim (line_stream rules true start stream line) as (λ o. NoFault o
      → (goes_on stream o (λ next. stream_from rules true (start + length line) next lines)).ending ≢ ReadFault) [
        | Err ending ↦ λ other. other
        | Ok next ↦ λ other. lines-unfailed (start + length line) next lines
      ]) (line-unfailed start stream line)

  -- so one that does wasn't
  pub fault-unended : (first : R) (bytes : List ℕ) (ended : Bool)
      → (stream_of rules first bytes ended).ending ≡ ReadFault → ended ≡ false
  unfolding stream_of
  fault-unended first bytes false is = refl
  fault-unended first bytes true is = absurd (lines-unfailed 0 (no_lines first) (lines_in bytes) is)

-- whether the input was read to its end may be left open
pub gave-open : (left later : Option (List ℕ)) (bytes : List ℕ) (ended : Bool) → Gave left later bytes ended
    → Gave left later (bytes ++ []) false
gave-open left later bytes ended gave =
    subst (λ b. Gave left later b false) (sym (append-nil bytes))
    (record { given = gave.given; end = λ wrong. absurd (false≢true wrong) })

module _ {R C W : Type 0} (rules : Rules R C) (first : R) (Ran : W → R → Type 0)
    (Halted : W → R → List ℕ → Halt C → Type 0) (left later taken after : Option (List ℕ)) (answerer : W) where
  -- all lines were answered, their answers were put, and then a take failed: of the line that says so a beginning was
  -- written
  pub fault-prompt : (next : Option (List ℕ)) (failed : Bool)
      → Answers rules first Ran Halted left later taken after [] ReadFault answerer → WroteFront after next fault_line
      → AnswersPromptly (answers_so_far rules first) left later failed taken next
  fault-prompt next failed answers front = record {
    earlier = answers.bytes;
    last = [];
    gave = gave-open left later answers.bytes answers.ended answers.gave;
    few = omega arith;
    none = λ is. refl;
    more = front.front;
    wrote =
        subst (λ t. Wrote taken next (t ++ front.front)) put-is
        (wrote-more taken after next answers.put front.front answers.wrote front.wrote);
    fault = λ is. (front.back, front.whole);
  }
    where
      put-is : answers.put ≡ answers_so_far rules first answers.bytes
      put-is =
          let waits =
          fault-unended rules first answers.bytes answers.ended
          (ap (λ (s : Streamed R C). s.ending) answers.ends.streams) in
          sym (append-nil answers.put) ∙ answers.ends.told
          ∙ ap (λ (s : Streamed R C). s.stream.text) (sym answers.ends.streams)
          ∙ ap (λ (e : Bool). (stream_of rules first answers.bytes e).stream.text) waits
