-- The forms of facts.
use Rattle.std.proofs.Common.{◌≡◌, ℕ, ◌==◌, Bool, true, false, List, [], ◌∷◌, length, suc, Option, Some, None, refl, ap, arith}
use Rattle.std.specs.List.{list_any}
use Rattle.std.proofs.lemmas.Grind.{common_steps}
use Rattle.plasma_tx.specs.declared.call.RootCall.{RootCall}
use Rattle.plasma_tx.specs.Views.{Exit, exit_at}
use Rattle.plasma_tx.specs.Shown.{Tests, Rules}
use Rattle.world_rules.specs.Events.{Event, Joins, coin_of_call}
use Rattle.world_rules.specs.Safety.{meets_deadline}
use Rattle.world_rules.specs.Verdicts.{is_finish_paid}
use Rattle.coin_verdicts.specs.declared.fact.Fact.{Fact}
use Rattle.coin_verdicts.specs.Facts.{AreThose, ended, IsTick, IsFactOfCall, IsWatch, AreFacts}

-- the fact is of a call that was accepted
abbrev pub is_of_call : Fact → Bool
is_of_call (Fact.Deposits coin block owner) = true
is_of_call (Fact.Ticks met) = true
is_of_call (Fact.Ends coin block account paid) = true
is_of_call Fact.Joins = true
is_of_call fact = false

-- the fact of a tick
pub record TickForm (log : List RootCall) (time : ℕ) (fact : Fact) : Type 0 where
  pub met : List ℕ
  pub is : fact ≡ Fact.Ticks met
  pub those : AreThose (λ c. meets_deadline log c (Joins (RootCall.Tick time))) met

pub tick-form : (log : List RootCall) (time : ℕ) (fact : Fact) → IsTick log time fact → TickForm log time fact
tick-form log time (Fact.Ticks met) h = record { met = met; is = refl; those = h }
tick-form log time fact h = elim h [ ]

-- the fact of a watch
pub record WatchForm (n : ℕ) (calls : List RootCall) (fact : Fact) : Type 0 where
  pub coins : List ℕ
  pub is : fact ≡ Fact.Watches n coins
  pub those : AreThose (λ c. list_any (λ call. coin_of_call call == c) calls) coins

pub watch-form : (n : ℕ) (calls : List RootCall) (fact : Fact) → IsWatch n calls fact → WatchForm n calls fact
watch-form n calls fact h = grind (arith, common_steps) steps 20000

ended-of_call : (found : Option Exit) (coin block : ℕ) (paid : Bool) → is_of_call (ended found coin block paid) ≡ true
ended-of_call None coin block paid = refl
ended-of_call (Some exit) coin block paid = refl

pub call-form : (tests : Tests) (rules : Rules) (log : List RootCall) (call : RootCall) (fact : Fact)
    → IsFactOfCall tests rules log call fact → is_of_call fact ≡ true
call-form tests rules log (RootCall.Tick time) fact h = ap is_of_call (tick-form log time fact h).is
call-form tests rules log (RootCall.After account coin block spend) fact h =
    rw h (ended-of_call (exit_at log coin block) coin block false)
call-form tests rules log (RootCall.Between account coin block spend) fact h =
    rw h (ended-of_call (exit_at log coin block) coin block false)
call-form tests rules log (RootCall.Finish account coin block) fact h =
    rw h (ended-of_call (exit_at log coin block) coin block (is_finish_paid tests rules log account coin block))
call-form tests rules log call fact h = ap is_of_call h

-- there are as many facts as events
pub as-many : (tests : Tests) (rules : Rules) (events : List Event) (facts : List Fact)
    → AreFacts tests rules events facts → length facts ≡ length events
as-many tests rules [] [] h = refl
as-many tests rules [] (fact ∷ facts) h = elim h [ ]
as-many tests rules (event ∷ events) [] h = elim h [ ]
as-many tests rules (event ∷ events) (fact ∷ facts) h = ap (λ n. suc n) (as-many tests rules events facts h.1)
