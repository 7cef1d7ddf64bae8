-- No money is made or lost.
use Rattle.plasma_tx.proofs.Words.{◌≡◌, ℕ, ◌+◌, ◌<◌, ◌≤◌, Bool, true, List, [], ◌∷◌, ◌++◌, Option, refl, ◌∙◌, arith, AllByRecursion, common_steps, EXIT_BOND, CHALLENGE_BOND, RootCall, Fund, Deposit, StartDeposit, StartSpend, After, Between, Before, Respond, Finish, CoinView, coin_at, Challenge, Exit, exit_at, is_withdrawn, Tests, Rules, answer_to, is_accepted, IsLegal, moved, amount_of, challenge_bonds, cancel_pays, payout, finish_pays, pays, takes, exit_bonds, amount_released, finish_releases, releases, share_of, balance_of, held_of, funded, sum_below, callers, AccountsBelow, MoneyIsKept, HeldIsOfAccounts, BalancesSuffice, HeldSuffices, BalancesAreCovered}
use Rattle.plasma_tx.proofs.Accepted.{accepted_calls_show}
use Rattle.plasma_tx.proofs.Bounds.{funded-le}
use Rattle.plasma_tx.proofs.Weights.{weight_of, weight_of-append, by_amount, by_share, total, share_of-is}
use Rattle.plasma_tx.proofs.Sums.{sum_below-zero, sum_below-term, sum_below-moved, share_of-le}
use Rattle.plasma_tx.proofs.Held.{held_weight, held_moves, held_weight-none, held-is, one_way}
use Rattle.plasma_tx.proofs.Below.{paid-below, taken-below, released-below}

-- ---- balances suffice

enough : (tests : Tests) (rules : Rules) (log : List RootCall) (call : RootCall) (account : ℕ)
    → is_accepted (answer_to tests rules log call) ≡ true → share_of account (takes call) ≤ balance_of log account
unfolding takes share_of
enough tests rules log (Deposit caller amount key) account is =
    share_of-le (balance_of log) caller amount
    (accepted_calls_show tests rules log (Deposit caller amount key) is).covered account
enough tests rules log (StartDeposit caller c block) account is =
    share_of-le (balance_of log) caller EXIT_BOND
    (accepted_calls_show tests rules log (StartDeposit caller c block) is).covered account
enough tests rules log (StartSpend caller c parent exit) account is =
    share_of-le (balance_of log) caller EXIT_BOND
    (accepted_calls_show tests rules log (StartSpend caller c parent exit) is).covered account
enough tests rules log (Before caller c e shown) account is =
    share_of-le (balance_of log) caller CHALLENGE_BOND
    (accepted_calls_show tests rules log (Before caller c e shown) is).covered account
enough tests rules log call account is = omega arith

pub balances_suffice : BalancesSuffice
unfolding IsLegal
balances_suffice rules log call account legal = enough legal.0.0 rules log call account legal.0.1

-- ---- what is held of an account

held_of-is : (rules : Rules) (log : List RootCall) (account : ℕ) → IsLegal rules log
    → held_of log account ≡ held_weight (by_share account) log
unfolding IsLegal held_of
held_of-is rules [] account legal = omega (arith, held_weight-none (by_share account))
held_of-is rules (call ∷ log) account legal =
    grind (arith, common_steps, held_of-is rules log account legal.1, held_moves, by_share, share_of-is) steps 20000

pub held_suffices : HeldSuffices
unfolding IsLegal share_of
held_suffices rules log call account legal =
    let moves = held_moves (by_share account) legal.0.0 rules log call legal.1 legal.0.1 in
    grind (arith, common_steps, share_of-is, one_way, weight_of, by_share, held_of-is) steps 20000

held_by_all : (rules : Rules) (n : ℕ) (log : List RootCall) → IsLegal rules log → AccountsBelow n log
    → sum_below (held_of log) n ≡ held_weight by_amount log
unfolding IsLegal held_of
held_by_all rules n [] legal below = omega (arith, sum_below-zero n, held_weight-none by_amount)
held_by_all rules n (call ∷ log) legal below =
    omega (
      arith,
      held_by_all rules n log legal.1 below.1,
      held_moves by_amount legal.0.0 rules log call legal.1 legal.0.1,
      sum_below-moved n (held_of log) (takes call) (releases log call)
          (λ account. held_suffices rules log call account legal) (taken-below n log call below)
          (released-below n log call below),
    )

pub held_is_of_accounts : HeldIsOfAccounts
held_is_of_accounts rules n log legal below = held_by_all rules n log legal below ∙ held-is log

-- ---- what is paid is what is let go, and what is funded

even-cancel : (account : ℕ) (found : Option Exit) → total (cancel_pays account found) ≡ total (exit_bonds found)
even-cancel account found = grind (arith, common_steps) steps 20000

even-payout : (exit : Exit) (withdrawn : Bool) (coin : Option CoinView) (challenges : List Challenge)
    → total (payout exit withdrawn (amount_of coin) challenges)
    ≡ total (moved exit.account EXIT_BOND ∷ challenge_bonds challenges ++ amount_released challenges withdrawn coin)
even-payout exit withdrawn coin challenges = grind (arith, common_steps, weight_of-append, by_amount) steps 20000

even-finish : (withdrawn : Bool) (coin : Option CoinView) (found : Option Exit)
    → total (finish_pays withdrawn (amount_of coin) found) ≡ total (finish_releases withdrawn coin found)
even-finish withdrawn coin found = grind (arith, common_steps, even-payout) steps 20000

even : (tests : Tests) (rules : Rules) (log : List RootCall) (call : RootCall)
    → is_accepted (answer_to tests rules log call) ≡ true
    → total (pays log call) + funded log ≡ total (releases log call) + funded (call ∷ log)
unfolding pays releases funded
even tests rules log (Fund account amount) is = omega arith
even tests rules log (After account c e spend) is = omega (arith, even-cancel account (exit_at log c e))
even tests rules log (Between account c e spend) is = omega (arith, even-cancel account (exit_at log c e))
even tests rules log (Respond account c e challenged spend) is =
    let shown = accepted_calls_show tests rules log (Respond account c e challenged spend) is in
    grind (arith, common_steps, total) steps 20000
even tests rules log (Finish account c e) is =
    omega (arith, even-finish (is_withdrawn log c) (coin_at log c) (exit_at log c e))
even tests rules log call is = refl

funded-none : funded [] ≡ 0
unfolding funded
funded-none = refl

kept : (rules : Rules) (n : ℕ) (log : List RootCall) → IsLegal rules log → AccountsBelow n log
    → sum_below (balance_of log) n + held_weight by_amount log ≡ funded log
unfolding IsLegal balance_of
kept rules n [] legal below = omega (arith, sum_below-zero n, held_weight-none by_amount, funded-none)
kept rules n (call ∷ log) legal below =
    omega (
      arith,
      kept rules n log legal.1 below.1,
      held_moves by_amount legal.0.0 rules log call legal.1 legal.0.1,
      even legal.0.0 rules log call legal.0.1,
      sum_below-moved n (balance_of log) (pays log call) (takes call)
          (λ account. enough legal.0.0 rules log call account legal.0.1) (paid-below n log call below)
          (taken-below n log call below),
    )

pub money_is_kept : MoneyIsKept
money_is_kept rules n log legal below = omega (arith, kept rules n log legal below, held-is log)

-- ---- one balance

abbrev sum_of : List ℕ → ℕ
sum_of [] = 0
sum_of (account ∷ accounts) = account + sum_of accounts

-- a number above the account and those of all calls
above : ℕ → List RootCall → ℕ
above account [] = account + 1
above account (call ∷ log) = above account log + sum_of (callers call) + 1

all-below : (n : ℕ) (accounts : List ℕ) → sum_of accounts < n → AllByRecursion (λ account. account < n) accounts
all-below n [] less = tt
all-below n (account ∷ accounts) less = (omega arith, all-below n accounts (omega arith))

below-above : (account more : ℕ) (log : List RootCall) → AccountsBelow (above account log + more) log
unfolding above
below-above account more [] = tt
below-above account more (call ∷ log) =
    grind (arith, common_steps, below-above account (sum_of (callers call) + 1 + more) log, all-below) steps 20000

own-above : (account : ℕ) (log : List RootCall) → account < above account log
unfolding above
own-above account [] = omega arith
own-above account (call ∷ log) = omega (arith, own-above account log)

pub balances_are_covered : BalancesAreCovered
balances_are_covered rules log account legal =
    let n : ℕ = above account log + 0 in (
      omega (
        arith,
        money_is_kept rules n log legal (below-above account 0 log),
        sum_below-term (balance_of log) n account (omega (arith, own-above account log)),
      ),
      funded-le rules log legal,
    )
