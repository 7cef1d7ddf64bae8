-- Device calls behind others.
use Rattle.node_journal.proofs.Words.{◌≡◌, ◌<◌, ◌≤◌, ◌⊎◌, ◌+◌, ◌-◌, ℕ, zero, suc, false, List, [], ◌∷◌, ◌++◌, length, take, refl, ◌∙◌, ap, inl, inr, arith, cases_lt, take-append-le, common_steps, Step, DeviceCall, History, Course, passed, failed_after, stopped_after, made_of, after_course}

-- calls that all passed, and then the ones behind them
made_of-all : (front back : List Step) (count : ℕ) (calls : List DeviceCall)
    → made_of (length front + count) (front ++ back) calls ≡ made_of count back (made_of (length front) front calls)
made_of-all [] back count calls = (let e : 0 + count ≡ count = omega arith in ap (λ (n : ℕ). made_of n back calls) e)
made_of-all (step ∷ front) back count calls =
    let e : suc (length front) + count ≡ suc (length front + count) = omega arith in
    ap (λ (n : ℕ). made_of n (step ∷ (front ++ back)) calls) e
    ∙ made_of-all front back count (record { step = step; failed = false } ∷ calls)

-- calls that one ended don't come to those behind them
made_of-some : (front back : List Step) (count : ℕ) (calls : List DeviceCall) → count < length front
    → made_of count (front ++ back) calls ≡ made_of count front calls
made_of-some [] back count calls lt = absurd (omega (arith, lt))
made_of-some (step ∷ front) back zero calls lt = refl
made_of-some (step ∷ front) back (suc count) calls lt = made_of-some front back count
    (record { step = step; failed = false } ∷ calls) (omega (arith, lt))

take-append_all : (front back : List Step) (count : ℕ)
    → take (length front + count) (front ++ back) ≡ front ++ take count back
take-append_all [] back count = (let e : 0 + count ≡ count = omega arith in ap (λ (n : ℕ). take n back) e)
take-append_all (step ∷ front) back count =
    let e : suc (length front) + count ≡ suc (length front + count) = omega arith in
    grind (arith, common_steps, take-append_all front back count) steps 20000

module _ (front back : List Step) (history : History) where
  abbrev with_calls : List DeviceCall → History
  with_calls calls = record { began = history.began; calls = calls }

  over : (calls others : List DeviceCall) → calls ≡ others → with_calls calls ≡ with_calls others
  over calls others same = ap with_calls same

  -- all of them
  pub after_both : after_course passed (front ++ back) history ≡ after_course passed back
      (after_course passed front history)
  after_both = grind (arith, common_steps, over, made_of-all) steps 20000

  -- however they went, they came to those behind or not
  pub course_split : (course : Course)
      → ((first : Course) × (after_course course (front ++ back) history ≡ after_course first front history))
      ⊎ ((second : Course) × (after_course course (front ++ back) history ≡ after_course second back
      (after_course passed front history)))
  course_split passed = inr (passed, after_both)
  course_split (failed_after count) = elim (cases_lt count (length front)) [
    | inl less ↦ inl (failed_after count, over _ _ (made_of-some front back count history.calls less))
    | inr more ↦
        let is : count ≡ length front + (count - length front) = omega arith in
        inr (
          failed_after (count - length front),
          grind (arith, common_steps, over, made_of-all) steps 20000,
        )
  ]
  course_split (stopped_after count) = elim (cases_lt count (length front)) [
    | inl less ↦
        let le : count ≤ length front = omega (arith, less) in
        inl (
          stopped_after count,
          grind (arith, common_steps, over, take-append-le) steps 20000,
        )
    | inr more ↦
        let rest : ℕ = count - length front in
        let is : count ≡ length front + rest = omega arith in
        inr (
          stopped_after rest,
          grind (arith, common_steps, over, take-append_all, made_of-all) steps 20000,
        )
  ]
