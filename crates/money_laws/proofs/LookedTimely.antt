-- What is looked after comes in time.
use Rattle.money_laws.proofs.Basics.{◌≡◌, ℕ, not, true, false, List, [], ◌∷◌, inl, inr, refl, arith, rules, cases_Bool, eqb-true, leb-true, and_parts, and_from, not-true, not_from_false, true≢false, false_from_ne_true, common_steps}
use Rattle.money_laws.proofs.CoinWords.{now, Exit, exits, Rules, tests_by, rules_of, Has, all-has}
use Rattle.money_laws.proofs.WorldWords.{IsDigest, Event, log_of, seen, strings_of, has_clash, collides, is_forged, holds, IsLegal, is_looked_after, any-some, Holding, holding, none-before, forged-parts, legal-before, is_late, goes_late, is_in_time, LegalLookedAfterIsInTime, LookedAfterIsInTime, legal-to}
use Rattle.world_laws.specs.Invariant.{AllWatched}
use Rattle.world_laws.proofs.Safe.{looked-parts, watched}

module _ (events : List Event) (w c e : ℕ) (h : Holding events w c e)
    (all : AllWatched c h.me e (now (log_of events)) (exits (log_of events))) where
  -- no exit of the coin is late
  not-late : (x : Exit) → Has (exits (log_of events)) x → x.coin ≡ c → is_late h.me e (now (log_of events)) x ≡ true
      → ⊥
  not-late x there coin_is late =
      grind (arith, common_steps, all-has, cases_Bool, and_parts, any-some, eqb-true, not-true, leb-true, true≢false)

  none-goes : goes_late events w c e ≡ false
  none-goes = grind (arith, common_steps, false_from_ne_true, and_parts, any-some, not-late, eqb-true)

module _ (dig : List ℕ → List ℕ) (digest : IsDigest dig) (rules : Rules) (w c e : ℕ) where
  in-time : (events : List Event) → IsLegal (tests_by dig) rules events → is_looked_after events w c e ≡ true
      → has_clash dig (strings_of dig c (seen events c)) ≡ false → is_forged rules.tag events w c ≡ false
      → is_in_time events w c e ≡ true
  unfolding is_in_time
  in-time [] legal looked none unforged = refl
  in-time (event ∷ events) legal looked none unforged =
      and_from (not (goes_late (event ∷ events) w c e)) (is_in_time events w c e)
      (not_from_false (goes_late (event ∷ events) w c e)
      (elim (cases_Bool (holds (event ∷ events) w c e)) [
        | inr isnt ↦ grind (arith, common_steps)
        | inl is ↦
            let h = holding (event ∷ events) w c e is in
            none-goes (event ∷ events) w c e h
            (watched dig digest rules w c e (event ∷ events) legal none unforged looked h)
      ]))
      (in-time events (legal-before (tests_by dig) rules event events legal)
      (looked-parts event events w c e looked).1 (none-before dig event events c none)
      (forged-parts rules.tag event events w c unforged).1)

pub looked_after_is_in_time : LegalLookedAfterIsInTime
unfolding collides
looked_after_is_in_time dig rules events w c e digest legal looked none unforged =
    in-time dig digest rules w c e events legal looked none unforged

pub run_looked_after_is_in_time : LookedAfterIsInTime
run_looked_after_is_in_time dig lines run world later events w c e is split =
    looked_after_is_in_time dig (rules_of world.chain) events w c e is.digest
    (legal-to dig lines run world later events is split)
