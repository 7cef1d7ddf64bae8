-- How device calls go on, one by one and together.
use Rattle.crash_disk.proofs.Words.{◌≡◌, ◌<◌, ℕ, zero, suc, ◌+◌, true, false, List, [], ◌∷◌, ◌++◌, length, take, Option, Some, None, refl, sym, ◌∙◌, ap, subst, inl, inr, arith, length-append, option_map, cases_Bool, common_steps, Step, DeviceCall, History, content, with_call, FaultPlan, fails_first, after_one, after_calls, passing, WhereTold, Called, IsStill, Course, passed, failed_after, stopped_after, made_of, with_made, after_course, Passes, GoesByPlan, Made}
use Rattle.crash_disk.proofs.Plans.{passing-fails, passing-passes, passing-zero, after_calls-zero, after_calls-suc, after_calls-add}

-- the course of a call before which so many more passed
abbrev pub later : ℕ → Course → Course
later more passed = passed
later more (failed_after count) = failed_after (more + count)
later more (stopped_after count) = stopped_after (more + count)

no_more : (plan : Option FaultPlan) → plan ≡ option_map (after_calls 0) plan
no_more plan = grind (arith, common_steps, after_calls-zero) steps 20000

one_more : (made : ℕ) (plan : Option FaultPlan)
    → option_map (after_calls made) (option_map after_one plan) ≡ option_map (after_calls (suc made)) plan
one_more made plan = grind (arith, common_steps, after_calls-suc) steps 20000

-- calls that all passed, and further ones
passing-add : (count more : ℕ) (plan : FaultPlan) → passing count plan ≡ count
    → passing (count + more) plan ≡ count + passing more (after_calls count plan)
passing-add zero more plan all = grind (arith, common_steps, after_calls-zero) steps 20000
passing-add (suc count) more plan all = elim (cases_Bool (fails_first plan)) [
  | inl fails ↦ absurd (omega (arith, passing-fails count plan fails, all))
  | inr passes ↦
      let rest : passing count (after_one plan) ≡ count = omega (arith, passing-passes count plan passes, all) in
      let e : suc count + more ≡ suc (count + more) = omega arith in
      grind (
        arith,
        common_steps,
        passing-add count more (after_one plan) rest,
        after_calls-suc,
        passing-passes,
      ) steps 20000
]

-- where one fails, further ones don't count
passing-short : (count more fewer : ℕ) (plan : FaultPlan) → passing count plan ≡ fewer → fewer < count
    → passing (count + more) plan ≡ fewer
passing-short zero more fewer plan is lt = absurd (omega (arith, lt))
passing-short (suc count) more fewer plan is lt =
    let e : suc count + more ≡ suc (count + more) = omega arith in
    ap (λ (n : ℕ). passing n plan) e ∙ elim (cases_Bool (fails_first plan)) [
      | inl fails ↦ omega (arith, passing-fails (count + more) plan fails, passing-fails count plan fails, is)
      | inr passes ↦
          let one = passing-passes count plan passes in
          let rest = passing-short count more (passing count (after_one plan)) (after_one plan) refl
          (omega (arith, one, is, lt)) in
          omega (arith, passing-passes (count + more) plan passes, one, rest, is)
    ]

-- calls that all passed, and then the calls behind them
made_of-all : (front back : List Step) (count : ℕ) (calls : List DeviceCall)
    → made_of count back (made_of (length front) front calls) ≡ made_of (length front + count) (front ++ back) calls
made_of-all [] back count calls = (let e : count ≡ 0 + count = omega arith in ap (λ (n : ℕ). made_of n back calls) e)
made_of-all (step ∷ front) back count calls =
    let e : suc (length front + count) ≡ suc (length front) + count = omega arith in
    made_of-all front back count (record { step = step; failed = false } ∷ calls)
    ∙ ap (λ (n : ℕ). made_of n (step ∷ (front ++ back)) calls) e

-- calls that one ended don't come to those behind them
made_of-some : (front back : List Step) (count : ℕ) (calls : List DeviceCall) → count < length front
    → made_of count front calls ≡ made_of count (front ++ back) calls
made_of-some [] back count calls lt = absurd (omega (arith, lt))
made_of-some (step ∷ front) back zero calls lt = refl
made_of-some (step ∷ front) back (suc count) calls lt =
    made_of-some front back count (record { step = step; failed = false } ∷ calls) (omega (arith, lt))

-- the first calls behind ones that all passed
take-append_all : (front back : List Step) (count : ℕ)
    → front ++ take count back ≡ take (length front + count) (front ++ back)
take-append_all [] back count = (let e : count ≡ 0 + count = omega arith in ap (λ (n : ℕ). take n back) e)
take-append_all (step ∷ front) back count =
    let e : suc (length front + count) ≡ suc (length front) + count = omega arith in
    grind (arith, common_steps, take-append_all front back count) steps 20000

planned_after : (count more : ℕ) (plan : Option FaultPlan)
    → option_map (after_calls more) (option_map (after_calls count) plan) ≡ option_map (after_calls (count + more)) plan
planned_after count more plan = grind (arith, common_steps, after_calls-add) steps 20000

-- the calls behind ones that all passed, however they went
after_all : (course : Course) (front back : List Step) (history : History)
    → after_course course back (with_made (length front) front history)
    ≡ after_course (later (length front) course) (front ++ back) history
after_all passed front back history = grind (arith, common_steps, made_of-all) steps 20000
after_all (failed_after count) front back history = grind (arith, common_steps, made_of-all) steps 20000
after_all (stopped_after count) front back history =
    grind (arith, common_steps, made_of-all, take-append_all) steps 20000

module _ {D : Type 0} (told : D → Option History) (plan : D → Option FaultPlan) where
  -- from a disk that is still the same
  pub made_from : {faults : D → ℕ} {steps : List ℕ → List Step} {most : ℕ} {course : Course} {first old new : D}
      → IsStill told plan faults first old → Made told plan steps most course old new
      → Made told plan steps most course first new
  made_from {steps = steps} {most = most} {course = course} {new = new} still made =
      grind (arith, common_steps) steps 20000

  -- the same calls, over what the disk holds
  pub made_same : (steps others : List ℕ → List Step) {most : ℕ} {course : Course} {old new : D}
      → WhereTold (told old) (λ before. steps (content before) ≡ others (content before))
      → Made told plan steps most course old new → Made told plan others most course old new
  made_same steps others {course = course} {old = old} {new = new} same made = grind (arith, common_steps) steps 20000

  -- the calls over some image, the one that the disk holds
  pub made_over : (steps : List ℕ → List Step) (image : List ℕ) {course : Course} {old new : D}
      → WhereTold (told old) (λ before. image ≡ content before)
      → Made told plan (λ any. steps image) (length (steps image)) course old new
      → Made told plan steps (length (steps image)) course old new
  made_over steps image same made = made_same (λ any. steps image) steps (λ before is. ap steps (same before is)) made

  -- and back
  pub made_there : (steps : List ℕ → List Step) (image : List ℕ) {most : ℕ} {course : Course} {old new : D}
      → WhereTold (told old) (λ before. image ≡ content before)
      → Made told plan steps most course old new → Made told plan (λ any. steps image) most course old new
  made_there steps image same made =
      made_same steps (λ any. steps image) (λ before is. sym (ap steps (same before is))) made

  -- no call
  pub made_none : (disk : D) → Made told plan (λ any. []) 0 passed disk disk
  made_none disk = grind (arith, common_steps, passing-zero, no_more) steps 20000

  -- no other call, for want of memory or of power
  pub made_stop : (steps : List Step) (most : ℕ) (disk : D)
      → Made told plan (λ any. steps) most (stopped_after 0) disk disk
  made_stop steps most disk = grind (arith, common_steps, passing-zero, no_more) steps 20000

  -- the first call failed
  pub made_fault : {step : Step} (rest : List Step) (most : ℕ) {old new : D}
      → Called told plan step true old new
      → Made told plan (λ any. step ∷ rest) (suc most) (failed_after 0) old new
  made_fault rest most {old = old} {new = new} call =
      grind (arith, common_steps, passing-fails, no_more, one_more) steps 20000

  -- the first call passed
  pub made_more : {step : Step} (rest : List Step) (most : ℕ) (course : Course) {old mid new : D}
      → Called told plan step false old mid → Made told plan (λ any. rest) most course mid new
      → Made told plan (λ any. step ∷ rest) (suc most) (later 1 course) old new
  made_more {step = step} rest most course {old = old} {mid = mid} {new = new} call made =
      grind (arith, common_steps, at, by) steps 20000
    where
      here : (course : Course) (before : History)
          → after_course course rest (with_call step false before) ≡ after_course (later 1 course) (step ∷ rest) before
      here course before = after_all course (step ∷ []) rest before

      at : (t : Option History)
          → option_map (λ before. after_course course rest before) (option_map (with_call step false) t)
          ≡ option_map (λ before. after_course (later 1 course) (step ∷ rest) before) t
      at None = refl
      at (Some before) = ap (λ (h : History). Some h) (here course before)

      pass : (count n : ℕ) → Passes (plan mid) count n → Passes (plan old) (suc count) (suc n)
      pass count n passes foretold some = grind (arith, common_steps, passing-passes) steps 20000

      on : (count : ℕ) → plan new ≡ option_map (after_calls count) (plan mid)
          → plan new ≡ option_map (after_calls (suc count)) (plan old)
      on count is = is ∙ ap (option_map (after_calls count)) call.goes_on ∙ one_more count (plan old)

      by : (course : Course) → GoesByPlan most course (plan mid) (plan new)
          → GoesByPlan (suc most) (later 1 course) (plan old) (plan new)
      by passed rest = (pass most most rest.0, on most rest.1)
      by (failed_after count) rest =
          let same : suc count ≡ 1 + count = omega arith in
          let made : suc (count + 1) ≡ 1 + count + 1 = omega arith in (
            omega (arith, rest.0),
            subst (λ (n : ℕ). Passes (plan old) (suc most) n) same (pass most count rest.1),
            on (count + 1) rest.2 ∙ ap (λ (n : ℕ). option_map (after_calls n) (plan old)) made,
          )
      by (stopped_after count) rest =
          let same : suc count ≡ 1 + count = omega arith in (
            omega (arith, rest.0),
            subst (λ (n : ℕ). Passes (plan old) n n) same (pass count count rest.1),
            on count rest.2 ∙ ap (λ (n : ℕ). option_map (after_calls n) (plan old)) same,
          )

  -- calls that all passed, and then further ones
  pub made_after : (front back : List Step) (course : Course) {old mid new : D}
      → Made told plan (λ any. front) (length front) passed old mid
      → Made told plan (λ any. back) (length back) course mid new
      → Made told plan (λ any. front ++ back) (length (front ++ back)) (later (length front) course) old new
  made_after front back course {old = old} {mid = mid} {new = new} first made = record {
    calls = made.calls ∙ ap (option_map (λ before. after_course course back before)) first.calls ∙ at (told old);
    planned = by course made.planned;
  }
    where
      len : length front + length back ≡ length (front ++ back)
      len = sym (length-append front back)

      at : (t : Option History)
          → option_map (λ before. after_course course back before)
          (option_map (λ before. after_course passed front before) t)
          ≡ option_map (λ before. after_course (later (length front) course) (front ++ back) before) t
      at None = refl
      at (Some before) = ap (λ (h : History). Some h) (after_all course front back before)

      pass : (count n : ℕ) → Passes (plan mid) count n → Passes (plan old) (length front + count) (length front + n)
      pass count n passes foretold some = grind (arith, common_steps, passing-add) steps 20000

      on : (count : ℕ) → plan new ≡ option_map (after_calls count) (plan mid)
          → plan new ≡ option_map (after_calls (length front + count)) (plan old)
      on count is =
          is ∙ ap (option_map (after_calls count)) first.planned.1 ∙ planned_after (length front) count (plan old)

      by : (course : Course) → GoesByPlan (length back) course (plan mid) (plan new)
          → GoesByPlan (length (front ++ back)) (later (length front) course) (plan old) (plan new)
      by passed rest = (
        subst (λ (n : ℕ). Passes (plan old) n n) len (pass (length back) (length back) rest.0),
        on (length back) rest.1 ∙ ap (λ (n : ℕ). option_map (after_calls n) (plan old)) len,
      )
      by (failed_after count) rest =
          let made : length front + (count + 1) ≡ length front + count + 1 = omega arith in (
            omega (arith, rest.0, len),
            subst (λ (n : ℕ). Passes (plan old) n (length front + count)) len (pass (length back) count rest.1),
            on (count + 1) rest.2 ∙ ap (λ (n : ℕ). option_map (after_calls n) (plan old)) made,
          )
      by (stopped_after count) rest = (omega (arith, rest.0, len), pass count count rest.1, on count rest.2)

  -- calls that one ended are the first of longer ones
  pub made_within : (front back : List Step) (count : ℕ) {old new : D}
      → Made told plan (λ any. front) (length front) (failed_after count) old new
      → Made told plan (λ any. front ++ back) (length (front ++ back)) (failed_after count) old new
  made_within front back count {old = old} {new = new} made =
      grind (arith, common_steps, passing-short, made_of-some) steps 20000
