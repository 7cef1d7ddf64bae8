-- Where no money is missing, the calls are accepted one after the other.
use Rattle.safety_laws.proofs.Basics.{◌≡◌, ℕ, ◌+◌, ◌<◌, ◌≤◌, true, false, List, [], ◌∷◌, ◌++◌, inl, inr, refl, ap, ◌∙◌, subst, arith, sum_by, le-ltb}
use Rattle.safety_laws.proofs.CoinWords.{ExitView, balance_of, RootCall, Tests, Rules, tests_by, rules_of, IsHistory, Has, has-contains, standing, tip, takes, missing, calls_of, is_poor, with_calls}
use Rattle.safety_laws.proofs.WorldWords.{log_of, legal-log, legal-to, LegalEnoughIsEnough, EnoughOfRunsIsEnough}
use Rattle.std.proofs.lemmas.List.Sums.{sum_by_from}
use Rattle.money_laws.specs.Reserve.{AreAccepted}
use Rattle.coin_safety.proofs.Advised.{none_is_poor}
use Rattle.coin_safety.proofs.Blocks.{after-parent, last-at, none-later}
use Rattle.safety_laws.proofs.Acts.{acts_are_accepted}
use Rattle.safety_laws.proofs.AtLook.{keeps_it}
use Rattle.safety_laws.proofs.StillTaken.{CouldBe, is_move, IsBy, Apart, could-from, could-taken, still-could}
use Rattle.safety_laws.proofs.Pairs.{Pairs}
use Rattle.safety_laws.proofs.OrderOf.{calls-pairs, calls-move}

-- ---- money for one call

sum-cons : (one : RootCall) (calls : List RootCall) → sum_by takes (one ∷ calls) ≡ takes one + sum_by takes calls
sum-cons one calls =
    let e : 0 + takes one + sum_by takes calls ≡ takes one + sum_by takes calls = omega arith in
    sum_by_from takes (0 + takes one) calls ∙ e

sum-has : (calls : List RootCall) (call : RootCall) → Has calls call → takes call ≤ sum_by takes calls
sum-has [] call h = absurd h
sum-has (one ∷ calls) call (inl same) =
    let e : takes one ≡ takes call = ap takes same in omega (arith, e, sum-cons one calls)
sum-has (one ∷ calls) call (inr h) = omega (arith, sum-has calls call h, sum-cons one calls)

-- who has what all take isn't poor for one
rich-all : (log : List RootCall) (account : ℕ) (calls : List RootCall) → missing log account calls ≡ 0
    → (call : RootCall) → Has calls call → is_poor log account call ≡ false
rich-all log account calls none call h =
    let less = sum-has calls call h in
    le-ltb (balance_of log account) (takes call) (omega (arith, less, none))

-- ---- one after the other

module _ (tests : Tests) (rules : Rules) (account : ℕ) where
  pub in-order : (calls log : List RootCall)
      → ((call : RootCall) → Has calls call → CouldBe tests rules log call × (is_move call ≡ true) × IsBy account call)
      → Pairs Apart calls
      → ((earlier : List RootCall) (call : RootCall) (after : List RootCall) → calls ≡ earlier ++ call ∷ after
      → is_poor (with_calls log earlier) account call ≡ false)
      → AreAccepted tests rules log calls
  unfolding AreAccepted with_calls
  in-order [] log could pairs rich = tt
  in-order (call ∷ calls) log could pairs rich =
      let c = could call (inl refl) in (
        could-taken tests rules log account call c.0 c.2 (rich [] call calls refl),
        in-order calls (call ∷ log)
            (λ other h. let o = could other (inr h) in
            (still-could tests rules log call other c.1 (pairs.0 other h) o.0, o.1, o.2))
            pairs.1
            (λ earlier other after is. rich (call ∷ earlier) other after (ap (λ l. call ∷ l) is)),
      )

pub enough_is_enough : LegalEnoughIsEnough
enough_is_enough dig rules events n account kept digest legal by none enough =
    let log : List RootCall = log_of events in
    let calls : List RootCall = calls_of log account kept in
    let k = keeps_it (tests_by dig) rules events n kept legal by in
    let history = subst (IsHistory (tests_by dig) rules log by.bundle) k.links_are k.is.history in
    let ended = none-later (tests_by dig) rules log by.bundle kept.links history in
    let at_link = last-at (tests_by dig) rules log by.bundle kept.links history in
    let after : (v : ExitView) → Has (standing log kept) v → tip kept < v.parent → v.parent < v.block =
    λ v there above. after-parent (tests_by dig) rules log kept.links.coin (tip kept) v
    (legal-log (tests_by dig) rules events legal) there above in
    in-order (tests_by dig) rules account calls log
    (λ call h.
    let m = calls-move log account kept after ended at_link call h in (
      could-from (tests_by dig) rules log call m.1.move
          (acts_are_accepted dig rules events n account kept call digest legal by (has-contains calls call h) none
          (rich-all log account calls enough call h)),
      m.1.move,
      m.1.by,
    ))
    (calls-pairs log account kept after ended at_link)
    (λ earlier call after is. none_is_poor log account calls earlier call after enough is)

pub run_enough_is_enough : EnoughOfRunsIsEnough
run_enough_is_enough dig lines run world later events n account kept is split =
    enough_is_enough dig (rules_of world.chain) events n account kept is.digest
    (legal-to dig lines run world later events is split)
