use Rattle.exit_game.proofs.Words.{◌≡◌, ℕ, zero, suc, ◌+◌, ◌<◌, Bool, true, false, if◌then◌else◌, List, [], ◌∷◌, ◌++◌, map, length, take, drop, slice_set, slice_index_or, refl, sym, ap, ◌∙◌, arith, eq-eqb, ne_eqb, Challenge, answered_at}
use Rattle.exit_game.proofs.challenges.answer_all.Goals as goal
use Rattle.exit_game.proofs.challenges.answer_all.Goals.{then-challenge-block, else-challenge-block}

-- one more element is changed
more : {X : Type 0} (f : X → X) (xs : List X) (i : ℕ) (d : X) → i < length xs
    → slice_set (map f (take i xs) ++ drop i xs) i (f (slice_index_or (map f (take i xs) ++ drop i xs) i d))
    ≡ map f (take (i + 1) xs) ++ drop (i + 1) xs
more f [] i d lt = absurd (omega arith)
more f (x ∷ xs) zero d lt = refl
more f (x ∷ xs) (suc i) d lt =
    let e : suc i + 1 ≡ suc (i + 1) = omega arith in
    rw e (ap (λ l. f x ∷ l) (more f xs i d (omega arith)))

pub loop-challenge-preserved : goal.loop-challenge-preserved
loop-challenge-preserved c =
    let b : ℕ = c.args.block in
    let i : ℕ = c.loop-challenge.challenge-index in
    let xs : List Challenge = c.args.challenges.now.items in
    let now : List Challenge = c.loop-challenge.challenge-items in
    let nothing : Challenge =
    record { block = 0; owner = record { account = 0; key = [] }; by = 0; at = 0; answered = false } in
    let item : Challenge = slice_index_or now i nothing in
    let within : i < length xs =
    omega (arith, c.loop-challenge-test.true, ap length c.deref_mut-challenge-items.ensures.value) in
    let known : now ≡ map (answered_at b) (take i xs) ++ drop i xs = c.loop-challenge.invariant in
    let next : slice_set now i (answered_at b item) ≡ map (answered_at b) (take (i + 1) xs) ++ drop (i + 1) xs =
    ap (λ l. slice_set l i (answered_at b (slice_index_or l i nothing))) known
    ∙ more (answered_at b) xs i nothing within in
    elim c.if-challenge-block.branch [
      | then-challenge-block w ↦
          let is : c.if-challenge-block.challenge-items ≡ slice_set now i (record item { answered = true }) =
          w.challenge-items-is in
          is ∙ ap (λ (t : Bool). slice_set now i (if t then record item { answered = true } else item))
          (sym (eq-eqb item.block b w.if-challenge-block.true)) ∙ next
      | else-challenge-block w ↦
          let is : c.if-challenge-block.challenge-items ≡ slice_set now i item = w.challenge-items-is in
          is ∙ ap (λ (t : Bool). slice_set now i (if t then record item { answered = true } else item))
          (sym (ne_eqb item.block b w.if-challenge-block.false)) ∙ next
    ]
