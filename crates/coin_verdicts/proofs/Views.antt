-- What facts say of the leaves of wallets is what events say.
use Rattle.std.proofs.Common.{◌≡◌, ℕ, ◌==◌, true, if◌then◌else◌, List, [], ◌∷◌, map, refl, ap, arith}
use Rattle.std.proofs.lemmas.Bool.{false≢true}
use Rattle.std.proofs.lemmas.Grind.{common_steps}
use Rattle.plasma_tx.specs.declared.body.Body.{Body}
use Rattle.plasma_tx.specs.Shown.{Tests, Rules}
use Rattle.world_rules.specs.Events.{Event, Joins, Binds, TakesBack, Watches, log_of, bound_by, taken_back}
use Rattle.coin_verdicts.specs.declared.fact.Fact.{Fact}
use Rattle.coin_verdicts.specs.declared.note.Leaf.{Leaf}
use Rattle.coin_verdicts.specs.Facts.{IsFact, AreFacts}
use Rattle.coin_verdicts.specs.Notes.{bound_in, taken_in}
use Rattle.coin_verdicts.proofs.Forms.{is_of_call, call-form, watch-form}

abbrev pub leaf_of : Body → Leaf
leaf_of body = record { coin = body.coin; parent = body.parent }

call-bound : (fact : Fact) (facts : List Fact) (w : ℕ) → is_of_call fact ≡ true
    → bound_in (fact ∷ facts) w ≡ bound_in facts w
unfolding bound_in
call-bound fact facts w h = grind (arith, common_steps, false≢true) steps 20000

call-taken : (fact : Fact) (facts : List Fact) (w : ℕ) → is_of_call fact ≡ true
    → taken_in (fact ∷ facts) w ≡ taken_in facts w
unfolding taken_in
call-taken fact facts w h = grind (arith, common_steps, false≢true) steps 20000

module _ (tests : Tests) (rules : Rules) where
  bound-step : (event : Event) (events : List Event) (fact : Fact) (facts : List Fact) (w : ℕ)
      → IsFact tests rules events event fact → bound_in facts w ≡ map leaf_of (bound_by events w)
      → bound_in (fact ∷ facts) w ≡ map leaf_of (bound_by (event ∷ events) w)
  unfolding bound_in bound_by
  bound-step (Binds v body) events fact facts w h same = grind (arith, common_steps) steps 20000
  bound-step (Joins call) events fact facts w h same =
      rw (call-bound fact facts w (call-form tests rules (log_of events) call fact h)) same
  bound-step (Watches n calls) events fact facts w h same = rw (watch-form n calls fact h).is same
  bound-step event events fact facts w h same = rw h same

  pub bound-same : (events : List Event) (facts : List Fact) (w : ℕ) → AreFacts tests rules events facts
      → bound_in facts w ≡ map leaf_of (bound_by events w)
  unfolding bound_in bound_by
  bound-same [] [] w h = refl
  bound-same [] (fact ∷ facts) w h = elim h [ ]
  bound-same (event ∷ events) [] w h = elim h [ ]
  bound-same (event ∷ events) (fact ∷ facts) w h =
      bound-step event events fact facts w h.0 (bound-same events facts w h.1)

  taken-step : (event : Event) (events : List Event) (fact : Fact) (facts : List Fact) (w : ℕ)
      → IsFact tests rules events event fact → taken_in facts w ≡ taken_back events w
      → taken_in (fact ∷ facts) w ≡ taken_back (event ∷ events) w
  unfolding taken_in taken_back
  taken-step (TakesBack v q bundle) events fact facts w h same =
      rw h (ap (λ numbers. if v == w then q ∷ numbers else numbers) same)
  taken-step (Joins call) events fact facts w h same =
      rw (call-taken fact facts w (call-form tests rules (log_of events) call fact h)) same
  taken-step (Watches n calls) events fact facts w h same = rw (watch-form n calls fact h).is same
  taken-step event events fact facts w h same = rw h same

  pub taken-same : (events : List Event) (facts : List Fact) (w : ℕ) → AreFacts tests rules events facts
      → taken_in facts w ≡ taken_back events w
  unfolding taken_in taken_back
  taken-same [] [] w h = refl
  taken-same [] (fact ∷ facts) w h = elim h [ ]
  taken-same (event ∷ events) [] w h = elim h [ ]
  taken-same (event ∷ events) (fact ∷ facts) w h =
      taken-step event events fact facts w h.0 (taken-same events facts w h.1)
