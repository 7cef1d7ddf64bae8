-- What a plan of faults says of calls to come.
use Rattle.crash_disk.proofs.Words.{◌≡◌, ℕ, zero, suc, ◌+◌, ◌-◌, ◌==◌, ◌||◌, min, Bool, true, false, cond, List, [], Some, None, refl, ◌∙◌, ap, arith, nat_tests, option_map, common_steps, FaultPlan, is_spent, fails_first, after_one, after_calls, passing, MemState, listed_at, plan_of, AfterCalls, NextPassByFuse, PassesByFuse}
use Rattle.plasma_base.specs.Causes.{counted}

-- the calls that pass, where the next one fails
pub passing-fails : (count : ℕ) (plan : FaultPlan) → fails_first plan ≡ true → passing (suc count) plan ≡ 0
unfolding passing
passing-fails count plan fails = ap (λ (b : Bool). cond b 0 (suc (passing count (after_one plan)))) fails

-- and where it passes
pub passing-passes : (count : ℕ) (plan : FaultPlan) → fails_first plan ≡ false
    → passing (suc count) plan ≡ suc (passing count (after_one plan))
unfolding passing
passing-passes count plan passes = ap (λ (b : Bool). cond b 0 (suc (passing count (after_one plan)))) passes

pub passing-zero : (plan : FaultPlan) → passing 0 plan ≡ 0
unfolding passing
passing-zero plan = refl

-- the plan after calls, one by one and together
pub after_calls-zero : (plan : FaultPlan) → after_calls 0 plan ≡ plan
unfolding after_calls
after_calls-zero plan = refl

pub after_calls-suc : (count : ℕ) (plan : FaultPlan) → after_calls (suc count) plan ≡ after_calls count (after_one plan)
unfolding after_calls
after_calls-suc count plan = refl

pub after_calls-add : (count more : ℕ) (plan : FaultPlan)
    → after_calls (count + more) plan ≡ after_calls more (after_calls count plan)
unfolding after_calls
after_calls-add zero more plan = (let e : 0 + more ≡ more = omega arith in ap (λ (n : ℕ). after_calls n plan) e)
after_calls-add (suc count) more plan =
    (let e : suc count + more ≡ suc (count + more) = omega arith in ap (λ (n : ℕ). after_calls n plan) e)
    ∙ after_calls-add count more (after_one plan)

-- what is listed and what may still pass after calls
pub listed-after_calls : (count n : ℕ) (plan : FaultPlan) → (after_calls count plan).listed n ≡ plan.listed (count + n)
unfolding after_calls
listed-after_calls zero n plan = (let e : n ≡ 0 + n = omega arith in ap plan.listed e)
listed-after_calls (suc count) n plan =
    grind (arith, common_steps, listed-after_calls count n (after_one plan)) steps 20000

pub fuse-after_calls : (count : ℕ) (plan : FaultPlan)
    → (after_calls count plan).fuse ≡ option_map (λ calls. calls - count) plan.fuse
unfolding after_calls
fuse-after_calls zero plan = grind (arith, common_steps) steps 20000
fuse-after_calls (suc count) plan = grind (arith, common_steps, fuse-after_calls count (after_one plan)) steps 20000

-- a fuse of so many lets so many pass
pub passing-fuse : (count calls : ℕ) (plan : FaultPlan) → ((n : ℕ) → plan.listed n ≡ false) → plan.fuse ≡ Some calls
    → passing count plan ≡ min count calls
passing-fuse zero calls plan none fuse = passing-zero plan ∙ omega arith
passing-fuse (suc count) zero plan none fuse = grind (arith, common_steps, passing-fails) steps 20000
passing-fuse (suc count) (suc calls) plan none fuse =
    let some : (suc calls == 0) ≡ false = grind (arith, nat_tests) in
    let passes : fails_first plan ≡ false = ap (λ f. is_spent f || plan.listed 0) fuse ∙ (λ i. some i || none 0 i) in
    let on : (after_one plan).fuse ≡ Some calls = grind (arith, common_steps) steps 20000 in
    omega (arith, passing-passes count plan passes, passing-fuse count calls (after_one plan) (λ n. none (suc n)) on)

pub passing-no_fuse : (count : ℕ) (plan : FaultPlan) → ((n : ℕ) → plan.listed n ≡ false) → plan.fuse ≡ None
    → passing count plan ≡ count
passing-no_fuse zero plan none fuse = passing-zero plan
passing-no_fuse (suc count) plan none fuse =
    let passes : fails_first plan ≡ false = ap (λ f. is_spent f || plan.listed 0) fuse ∙ none 0 in
    passing-passes count plan passes
    ∙ ap suc (passing-no_fuse count (after_one plan) (λ n. none (suc n))
    (ap (option_map (λ calls. calls - 1)) fuse))

pub plan_after : AfterCalls
plan_after count plan = ((λ n. listed-after_calls count n plan), fuse-after_calls count plan)

-- a fuse lets so many of the next calls pass
pub next_by_fuse : NextPassByFuse
next_by_fuse plan count none = grind (arith, common_steps, passing-no_fuse, passing-fuse) steps 20000

-- what is left of a fuse lets so many more pass
pub passing-by_fuse : PassesByFuse
passing-by_fuse plan made count none =
    grind (arith, common_steps, next_by_fuse, listed-after_calls, fuse-after_calls) steps 20000

-- an empty list lists no call
pub none_listed : (disk : MemState) → disk.fails ≡ [] → (n : ℕ) → (plan_of disk).listed n ≡ false
none_listed disk empty n = ap (λ (fails : List ℕ). listed_at fails disk.made n) empty ∙ on_none disk.made n
  where
    on_none : (made n : ℕ) → listed_at [] made n ≡ false
    on_none made zero = refl
    on_none made (suc n) = on_none (counted made) n
