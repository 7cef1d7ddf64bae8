-- When a Finish is Paid, and that this withdraws its coin.
use Rattle.plasma_tx.proofs.Words.{◌≡◌, ℕ, ◌+◌, ◌&&◌, ◌||◌, not, Bool, true, false, if◌then◌else◌, List, [], ◌∷◌, Option, Some, None, refl, arith, nat_lt, eqb-true, ltb-false, le-ltb, common_steps, EXIT_PERIOD, RootCall, Finish, Answer, Paid, Dropped, Refused, now, Exit, exit_at, has_no_open_challenge, is_withdrawn, decided, finish_causes, is_payable, finish_effect, where_exit, answer_to, is_accepted, IsLegal, Finishes}
use Rattle.plasma_tx.specs.declared.answer.Refusal.TheVariants.{Early}
use Rattle.plasma_tx.specs.RuleLaws.{is_paid, was_paid, PaidExactly, WithdrawnIsAnsweredPaid}

-- the answer to a Finish of an exit of the coin that was looked for
abbrev finish_answer : List RootCall → ℕ → Option Exit → Answer
finish_answer log c found = where_exit found (λ exit. decided (finish_causes log exit) (finish_effect log c exit))

paid_shows : (log : List RootCall) (c e : ℕ) (found : Option Exit) → exit_at log c e ≡ found
    → finish_answer log c found ≡ Paid → (finish : Finishes log c e) × (is_payable log c finish.exit ≡ true)
paid_shows log c e None stands is = absurd (cc)
paid_shows log c e (Some exit) stands is =
    (elim (nat_lt (now log) (exit.start + EXIT_PERIOD)) as (λ early. nat_lt (now log) (exit.start + EXIT_PERIOD) ≡ early
    → (if early then Refused (Early (exit.start + EXIT_PERIOD)) else finish_effect log c exit) ≡ Paid
    → (finish : Finishes log c e) × (is_payable log c finish.exit ≡ true)) [
      | true ↦ λ early wrong. absurd (cc)
      | false ↦ λ late. elim (is_payable log c exit) as (λ b. is_payable log c exit ≡ b
          → (if b then Paid else Dropped) ≡ Paid
          → (finish : Finishes log c e) × (is_payable log c finish.exit ≡ true)) [
            | true ↦ λ payable same. (record { exit = exit; stands = stands; in_time = ltb-false _ _ late }, payable)
            | false ↦ λ isnt wrong. absurd (cc)
          ] refl
    ]) refl is

paid_by : (log : List RootCall) (c e : ℕ) (finish : Finishes log c e) → is_payable log c finish.exit ≡ true
    → finish_answer log c (exit_at log c e) ≡ Paid
paid_by log c e finish payable = grind (arith, common_steps, le-ltb) steps 20000

pub paid_exactly : PaidExactly
unfolding answer_to
paid_exactly tests rules log account c e =
    (paid_shows log c e (exit_at log c e) refl, λ shown. paid_by log c e shown.0 shown.1)

-- ---- coins

-- an accepted Finish is Paid where the exit is payable
accepted_paid : (log : List RootCall) (c : ℕ) (found : Option Exit) → is_accepted (finish_answer log c found) ≡ true
    → is_paid (finish_answer log c found) ≡ (has_no_open_challenge found && not (is_withdrawn log c))
accepted_paid log c found is = grind (arith, common_steps) steps 20000

-- a coin that a Finish without open challenges names is withdrawn by it, or was before
finished : (own unchallenged paid before was : Bool) → (own ≡ true → paid ≡ (unchallenged && not before)) → before ≡ was
    → ((own && unchallenged) || before) ≡ ((own && paid) || was)
finished own unchallenged paid before was is same = grind (arith, common_steps) steps 20000

pub withdrawn_is_paid : WithdrawnIsAnsweredPaid
unfolding is_withdrawn was_paid IsLegal answer_to
withdrawn_is_paid rules [] c legal = refl
withdrawn_is_paid rules (Finish account k m ∷ log) c legal =
    grind (arith, common_steps, withdrawn_is_paid rules log c legal.1, finished, accepted_paid, eqb-true) steps 20000
withdrawn_is_paid rules (call ∷ log) c legal = withdrawn_is_paid rules log c legal.1
