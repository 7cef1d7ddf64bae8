use Rattle.plasma_tx.proofs.Words.{◌≡◌, ℕ, zero, suc, ◌+◌, ◌<◌, Bool, true, false, if◌then◌else◌, List, [], ◌∷◌, ◌++◌, map, length, take, drop, slice_set, slice_index_or, refl, sym, ap, ◌∙◌, arith, eq-eqb, ne_eqb, ChallengeView, view_with_answer_at}
use Rattle.plasma_tx.proofs.views.answer_all.Goals as goal
use Rattle.plasma_tx.proofs.views.answer_all.Goals.{then-challenge-block, else-challenge-block}

-- one more element is changed
more : {X : Type 0} (f : X → X) (xs : List X) (i : ℕ) (d : X) → i < length xs
    → slice_set (map f (take i xs) ++ drop i xs) i (f (slice_index_or (map f (take i xs) ++ drop i xs) i d))
    ≡ map f (take (i + 1) xs) ++ drop (i + 1) xs
more f [] i d lt = absurd (omega arith)
more f (x ∷ xs) zero d lt = refl
more f (x ∷ xs) (suc i) d lt =
    let e : suc i + 1 ≡ suc (i + 1) = omega arith in
    rw e (ap (λ l. f x ∷ l) (more f xs i d (omega arith)))

pub loop-challenge-preserved : goal.loop-challenge-preserved
loop-challenge-preserved c =
    let b : ℕ = c.args.block in
    let i : ℕ = c.loop-challenge.challenge-index in
    let xs : List ChallengeView = c.args.challenges.now.items in
    let now : List ChallengeView = c.loop-challenge.challenge-items in
    let nothing : ChallengeView = record { block = 0; at = 0; by = 0; answered = false } in
    let item : ChallengeView = slice_index_or now i nothing in
    let within : i < length xs =
    omega (arith, c.loop-challenge-test.true, ap length c.deref_mut-challenge-items.ensures.value) in
    let known : now ≡ map (view_with_answer_at b) (take i xs) ++ drop i xs = c.loop-challenge.invariant in
    let next : slice_set now i (view_with_answer_at b item)
    ≡ map (view_with_answer_at b) (take (i + 1) xs) ++ drop (i + 1) xs =
    ap (λ l. slice_set l i (view_with_answer_at b (slice_index_or l i nothing))) known
    ∙ more (view_with_answer_at b) xs i nothing within in
    elim c.if-challenge-block.branch [
      | then-challenge-block w ↦
          let is : c.if-challenge-block.challenge-items ≡ slice_set now i (record item { answered = true }) =
          w.challenge-items-is in
          is ∙ ap (λ (t : Bool). slice_set now i (if t then record item { answered = true } else item))
          (sym (eq-eqb item.block b w.if-challenge-block.true)) ∙ next
      | else-challenge-block w ↦
          let is : c.if-challenge-block.challenge-items ≡ slice_set now i item = w.challenge-items-is in
          is ∙ ap (λ (t : Bool). slice_set now i (if t then record item { answered = true } else item))
          (sym (ne_eqb item.block b w.if-challenge-block.false)) ∙ next
    ]
