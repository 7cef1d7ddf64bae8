-- Lines that keep the rules are all answered.
use Rattle.std.proofs.Common.{◌≡◌, ℕ, zero, suc, ◌+◌, true, false, List, [], ◌∷◌, length, Option, Some, None, inl, inr, sym, ap, ◌∙◌, subst}
use Rattle.std.proofs.lemmas.Bool.{true≢false}
use Rattle.plasma_tx.proofs.Names.{some_same}
use Rattle.schedule_text.specs.declared.line.Line.{Line}
use Rattle.schedule_text.specs.Grammar.{line_in}
use Rattle.world_rules.specs.Steps.{run_of}
use Rattle.world_core.specs.Lines.{is_full, WouldFill}
use Rattle.streamed_lines.specs.declared.ending.Ending.{Ending}
use Rattle.streamed_lines.specs.declared.ending.Ending.TheVariants.{Complete, BadLine, ReadFault, TooLong, Ended}
use Rattle.streamed_lines.specs.Lines.{lines_in, text_of, is_too_long}
use Rattle.replay_run.specs.declared.ending.NoCause.{NoCause}
use Rattle.replay_run.specs.Replays.{replay_of}
use Rattle.replay_run.specs.Endings.{IsAnswered, EndsAt, EndsBy, KeepTheRules, LinesThatKeepTheRulesAreAnswered}
use Rattle.replay_run.proofs.EndingLaws.{endings-have_causes}

-- a value is there, and isn't
some-none : {A : Type 0} (o : Option A) (a : A) → o ≡ Some a → o ≡ None → ⊥
some-none o a some none = none_not (sym some ∙ none)
  where
    none_not : Some a ≡ None → ⊥
    none_not wrong = cc

module _ (dig : List ℕ → List ℕ) (earlier : List Line) (line : List ℕ) (spelled : Line)
    (answered : IsAnswered dig earlier line spelled) where
  -- the line spells no other
  same-line : (other : Line) → line_in (text_of line) ≡ Some other → spelled ≡ other
  same-line other spells = some_same spelled other (sym answered.spells ∙ spells)

  ran-as : (other : Line) → line_in (text_of line) ≡ Some other → run_of dig (other ∷ earlier) ≡ Some answered.run
  ran-as other spells =
      subst (λ (l : Line). run_of dig (l ∷ earlier) ≡ Some answered.run) (same-line other spells) answered.ran

  -- its mail isn't full
  not-full : (other : Line) → line_in (text_of line) ≡ Some other → WouldFill dig earlier other → ⊥
  not-full other spells full =
      let same = some_same full.0 answered.run (sym full.1 ∙ ran-as other spells) in
      true≢false (sym full.2 ∙ ap is_full same ∙ answered.fits)

  -- it ends no replay
  ends-none : (n start : ℕ) (ending : Ending NoCause) → is_too_long n start line ≡ false
      → EndsAt dig earlier true n start line ending → ⊥
  ends-none n start Complete fits never = never
  ends-none n start ReadFault fits at = true≢false at.1
  ends-none n start (TooLong m) fits at =
      elim at.1 [
        | inl long ↦ true≢false (sym long ∙ fits)
        | inr full ↦ not-full full.1.0 full.1.1 full.1.2
      ]
  ends-none n start (BadLine m) fits at =
      elim at.2 [
        | inl none ↦ some-none (line_in (text_of line)) spelled answered.spells none
        | inr bad ↦ some-none (run_of dig (bad.0 ∷ earlier)) answered.run (ran-as bad.0 bad.1) bad.2
      ]
  ends-none n start (Ended m cause) fits never = never

ends-complete : (dig : List ℕ → List ℕ) (earlier : List Line) (n start : ℕ) (lines : List (List ℕ)) (more : ℕ)
    (ending : Ending NoCause) → KeepTheRules dig earlier n start lines
    → EndsBy dig true earlier n start lines more ending → ending ≡ Complete
unfolding KeepTheRules EndsBy
ends-complete dig earlier n start [] zero ending kept ends = ends
ends-complete dig earlier n start [] (suc more) ending kept never = absurd never
ends-complete dig earlier n start (line ∷ lines) zero ending kept ends =
    absurd (ends-none dig earlier line kept.1.0 kept.1.1 n start ending kept.0 ends)
ends-complete dig earlier n start (line ∷ lines) (suc more) ending kept ends =
    ends-complete dig (kept.1.0 ∷ earlier) (n + 1) (start + length line) lines more ending kept.1.2
    (subst (λ (l : Line). EndsBy dig true (l ∷ earlier) (n + 1) (start + length line) lines more ending)
    (sym (same-line dig earlier line kept.1.0 kept.1.1 ends.1.0 ends.1.1.spells)) ends.1.2)

pub kept-are_answered : LinesThatKeepTheRulesAreAnswered
kept-are_answered dig bytes kept =
    ends-complete dig [] 1 0 (lines_in bytes) (length (replay_of dig bytes true).run.entries)
    (replay_of dig bytes true).ending kept (endings-have_causes dig bytes true)
