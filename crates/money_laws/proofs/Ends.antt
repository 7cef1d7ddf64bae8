-- What each account has after an exit ended.
use Rattle.money_laws.proofs.Basics.{◌≡◌, ℕ, ◌+◌, ◌==◌, ◌&&◌, cond, not, Bool, true, false, if◌then◌else◌, List, [], ◌∷◌, Some, refl, filter, arith, list_all, eqb-true, and_parts, false≢true, common_steps}
use Rattle.money_laws.proofs.CoinWords.{EXIT_BOND, RootCall, After, Between, Finish, Challenge, Exit, exit_at, challenge_bonds, cancel_pays, payout, pays, takes, share_of, balance_of}
use Rattle.money_laws.proofs.WorldWords.{bonds_at, first_or, if_to, EndsPayBonds}

-- the amount, where it is so
abbrev part : Bool → ℕ → ℕ
part b amount = if b then amount else 0

pub none-to : (account paid : ℕ) → if_to account paid 0 ≡ 0
none-to account paid = grind (arith, common_steps)

sum-to : (account paid one other : ℕ)
    → if_to account paid (one + other) ≡ if_to account paid other + if_to account paid one
sum-to account paid one other = grind (arith, common_steps)

-- the call names the exit
named : (log : List RootCall) (c block k f : ℕ) (exit : Exit) → exit_at log c block ≡ Some exit
    → ((k == c) && (f == block)) ≡ true → exit_at log k f ≡ Some exit
named log c block k f exit found is = grind (arith, common_steps, and_parts, eqb-true)

-- who cancels an exit gets its bond, and the open challenges' bonds go back
cancelled : (account by : ℕ) (exit : Exit)
    → share_of account (cancel_pays by (Some exit)) ≡ if_to account by EXIT_BOND + bonds_at account exit
unfolding share_of
cancelled account by exit = refl

-- what a Finish pays
finished : (account : ℕ) (exit : Exit) (withdrawn : Bool) (amount : ℕ) (challenges : List Challenge)
    → share_of account (payout exit withdrawn amount (filter (λ challenge. not challenge.answered) challenges))
    ≡ share_of account (challenge_bonds (filter (λ challenge. not challenge.answered) challenges))
    + if_to account (first_or exit.account (filter (λ challenge. not challenge.answered) challenges)) EXIT_BOND
    + if_to account exit.account
    (if list_all (λ challenge. challenge.answered) challenges && not withdrawn then amount else 0)
unfolding share_of
finished account exit true amount [] = omega (arith, none-to account exit.account)
finished account exit false amount [] = omega (arith, sum-to account exit.account amount EXIT_BOND)
finished account exit withdrawn amount (y ∷ ys) =
    elim (y.answered) as (λ b.
    share_of account (payout exit withdrawn amount (cond (not b) (y ∷ filter (λ (x : Challenge). not x.answered) ys)
    (filter (λ (x : Challenge). not x.answered) ys)))
    ≡ share_of account (challenge_bonds (cond (not b) (y ∷ filter (λ (x : Challenge). not x.answered) ys)
    (filter (λ (x : Challenge). not x.answered) ys)))
    + if_to account (first_or exit.account (cond (not b) (y ∷ filter (λ (x : Challenge). not x.answered) ys)
    (filter (λ (x : Challenge). not x.answered) ys))) EXIT_BOND
    + if_to account exit.account
    (if (b && list_all (λ (x : Challenge). x.answered) ys) && not withdrawn then amount else 0)) [
      | true ↦ finished account exit withdrawn amount ys
      | false ↦ omega (arith, none-to account exit.account)
    ]

pub ends_pay_bonds : EndsPayBonds
unfolding balance_of pays takes share_of
ends_pay_bonds log (After by k f spend) c block account exit found is =
    grind (arith, common_steps, named, cancelled, none-to)
ends_pay_bonds log (Between by k f spend) c block account exit found is =
    grind (arith, common_steps, named, cancelled, none-to)
ends_pay_bonds log (Finish by k f) c block account exit found is = grind (arith, common_steps, named, finished)
ends_pay_bonds log call c block account exit found is = absurd (false≢true is)
