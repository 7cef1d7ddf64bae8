-- Which nodes are quiet, by facts, is what events say.
use Rattle.std.proofs.Common.{◌≡◌, ℕ, true, false, List, [], ◌∷◌, refl, arith}
use Rattle.std.proofs.lemmas.Bool.{false≢true}
use Rattle.std.proofs.lemmas.Grind.{common_steps}
use Rattle.plasma_tx.specs.Shown.{Tests, Rules}
use Rattle.world_rules.specs.Events.{Event, Joins, Watches, log_of}
use Rattle.world_rules.specs.Safety.{is_quiet}
use Rattle.coin_verdicts.specs.declared.fact.Fact.{Fact}
use Rattle.coin_verdicts.specs.Facts.{IsFact, AreFacts}
use Rattle.coin_verdicts.specs.Notes.{quiet_in}
use Rattle.coin_verdicts.proofs.Forms.{is_of_call, call-form, watch-form}

call-quiet : (fact : Fact) (facts : List Fact) (c n : ℕ) → is_of_call fact ≡ true → quiet_in (fact ∷ facts) c n ≡ false
unfolding quiet_in
call-quiet fact facts c n h = grind (arith, common_steps, false≢true) steps 20000

module _ (tests : Tests) (rules : Rules) where
  quiet-step : (event : Event) (events : List Event) (fact : Fact) (facts : List Fact) (c n : ℕ)
      → IsFact tests rules events event fact → quiet_in facts c n ≡ is_quiet events n c
      → quiet_in (fact ∷ facts) c n ≡ is_quiet (event ∷ events) n c
  unfolding quiet_in is_quiet
  quiet-step (Joins call) events fact facts c n h same =
      call-quiet fact facts c n (call-form tests rules (log_of events) call fact h)
  quiet-step (Watches m calls) events fact facts c n h same =
      grind (arith, common_steps, watch-form) steps 20000
  quiet-step event events fact facts c n h same = grind (arith, common_steps) steps 20000

  -- a node is quiet at a coin exactly where facts say so
  pub quiet-same : (events : List Event) (facts : List Fact) (c n : ℕ) → AreFacts tests rules events facts
      → quiet_in facts c n ≡ is_quiet events n c
  unfolding quiet_in is_quiet
  quiet-same [] [] c n h = refl
  quiet-same [] (fact ∷ facts) c n h = elim h [ ]
  quiet-same (event ∷ events) [] c n h = elim h [ ]
  quiet-same (event ∷ events) (fact ∷ facts) c n h =
      quiet-step event events fact facts c n h.0 (quiet-same events facts c n h.1)
