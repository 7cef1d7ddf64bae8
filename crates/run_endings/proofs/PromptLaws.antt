-- What the last text of a run, put behind its answers, says of its last take.
use Rattle.run_endings.proofs.Words.{◌≡◌, ℕ, Bool, true, false, List, [], ◌++◌, Option, Ok, refl, subst, arith, common_steps, WroteFront}
use Rattle.streamed_lines.specs.declared.ending.Ending.{Ending}
use Rattle.streamed_lines.specs.declared.ending.Ending.TheVariants.{ReadFault}
use Rattle.streamed_lines.specs.declared.ending.Halt.{Halt}
use Rattle.streamed_lines.specs.Streams.{Rules}
use Rattle.streamed_lines.specs.Prompt.{answers_so_far, AnswersPromptly}
use Rattle.streamed_lines.specs.Reading.{is_read_fault, Answers}
use Rattle.streamed_lines.proofs.PromptLaws.{prompt-more, fault-prompt}
use Rattle.run_endings.specs.Texts.{read_fault_text}
use Rattle.run_endings.specs.Endings.{last_text, is_composed}

-- a last line that is made for the run doesn't say that the reading failed
pub composed-reads : (Reads : Bool → Type 0) (ending : Ending (List ℕ)) → is_composed ending ≡ true
    → Reads (is_read_fault (Ok ending)) → Reads false
composed-reads _ ending wrong reads = grind (arith, common_steps) steps 20000

module _ {R W : Type 0} (rules : Rules R (List ℕ)) (first : R) (Ran : W → R → Type 0)
    (Halted : W → R → List ℕ → Halt (List ℕ) → Type 0) (left later taken after next : Option (List ℕ)) (answerer : W)
    (failed : Bool) where
  -- all lines were answered, up to what ended them, and of what is gathered with the last line a beginning was put
  pub prompt-last : (ending : Ending (List ℕ)) (text : List ℕ) → failed ≡ is_read_fault (Ok ending)
      → (ending ≡ ReadFault → text ≡ [])
      → Answers rules first Ran Halted left later taken after text ending answerer
      → AnswersPromptly (answers_so_far rules first) left later failed taken after
      → WroteFront after next (text ++ last_text ending)
      → AnswersPromptly (answers_so_far rules first) left later failed taken next
  unfolding last_text
  prompt-last ReadFault text last put answers prompt front =
      let none : text ≡ [] = put refl in
      fault-prompt rules first Ran Halted left later taken after answerer next failed
      (subst (λ t. Answers rules first Ran Halted left later taken after t ReadFault answerer) none answers)
      (subst (λ t. WroteFront after next (t ++ read_fault_text)) none front)
  prompt-last ending text last put answers prompt front =
      prompt-more _ left later failed taken after next front.front prompt front.wrote last
