-- What is due is nothing without exits, and at most one challenge for an exit.
use Rattle.watch_duty.proofs.Words.{◌≡◌, ℕ, ◌≤◌, cond, true, false, List, [], ◌∷◌, ◌++◌, length, filter, Option, Some, None, refl, ap, ◌∙◌, arith, unwrap_or, flat_map, option_map, option_or, filter-append, common_steps, Link, Links, RootCall, ChallengeView, ExitView, CHALLENGE_WINDOW, within, old_owner, second_spend, planted_parent, answer, answers, due_for, is_challenge, NothingIsDueWithoutExits, OneChallengeIsDue}

pub nothing_is_due_without_exits : NothingIsDueWithoutExits
nothing_is_due_without_exits log account guard none = ap (flat_map (due_for log account guard.links)) none

-- ---- one challenge

-- at most one of the calls is a challenge
abbrev HasOne : List RootCall → Type 0
HasOne calls = length (filter is_challenge calls) ≤ 1

one-rule : (rule rest : Option (List RootCall)) → HasOne (unwrap_or rule []) → HasOne (unwrap_or rest [])
    → HasOne (unwrap_or (option_or rule rest) [])
one-rule None rest one other = other
one-rule (Some calls) rest one other = one

one-single : (call : RootCall) → HasOne (call ∷ [])
one-single call =
    elim (is_challenge call) as (λ b. length (cond b (call ∷ []) []) ≤ 1) [ true ↦ omega arith | false ↦ omega arith ]

module _ (log : List RootCall) (account : ℕ) (links : Links) (exit : ExitView) where
  one-within : (time window : ℕ) (call : RootCall) → HasOne (within log time window call)
  one-within time window call = grind (arith, common_steps, one-single) steps 20000

  one-mapped : (found : Option Link) (make : Link → RootCall)
      → HasOne (unwrap_or (option_map (λ link. within log exit.start CHALLENGE_WINDOW (make link)) found) [])
  one-mapped None make = omega arith
  one-mapped (Some link) make = one-within exit.start CHALLENGE_WINDOW (make link)

  one-second : HasOne (unwrap_or (second_spend log account links exit) [])
  one-second = grind (arith, common_steps, one-mapped) steps 20000

  one-third : HasOne (unwrap_or (planted_parent log account links exit) [])
  one-third = grind (arith, common_steps, one-within) steps 20000

  -- an answer is no challenge
  answer-none : (challenge : ChallengeView) → filter is_challenge (answer log account links exit challenge) ≡ []
  answer-none challenge = grind (arith, common_steps) steps 20000

  answers-none : (challenges : List ChallengeView)
      → filter is_challenge (flat_map (answer log account links exit) challenges) ≡ []
  answers-none [] = refl
  answers-none (challenge ∷ challenges) =
      filter-append is_challenge (answer log account links exit challenge)
      (flat_map (answer log account links exit) challenges)
      ∙ (λ i. answer-none challenge i ++ answers-none challenges i)

  one-fourth : HasOne (unwrap_or (answers log account links exit) [])
  one-fourth = grind (arith, common_steps, answers-none) steps 20000

pub one_challenge_is_due : OneChallengeIsDue
one_challenge_is_due log account links exit =
    one-rule (old_owner log account links exit)
    (option_or (second_spend log account links exit)
    (option_or (planted_parent log account links exit) (answers log account links exit)))
    (grind (arith, common_steps, one-mapped) steps 20000)
    (grind (arith, common_steps, one-rule, one-second, one-third, one-fourth) steps 20000)
