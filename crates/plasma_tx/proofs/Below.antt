-- Each movement of a call is of one of the first n accounts, where each account that makes a call is.
use Rattle.plasma_tx.proofs.Words.{◌≡◌, ℕ, ◌+◌, ◌<◌, not, Bool, List, [], ◌∷◌, ◌++◌, Option, Some, None, inl, inr, refl, arith, AllByRecursion, cases_eq, eq-eqb, ne_eqb, common_steps, Movement, RootCall, Deposit, Fund, StartDeposit, StartSpend, After, Between, Before, Respond, Finish, CoinView, coins, coin_at, Challenge, Exit, is_exit, with_answer_at, exits, exit_at, is_withdrawn, amount_of, open_challenges, challenge_bonds, cancel_pays, payout, finish_pays, pays, takes, exit_bonds, answered_bond, challenge_of, amount_released, finish_releases, releases, AccountsBelow}
use Rattle.plasma_tx.proofs.Each.{some_same, all-append, all-filter, all-map, all-found, each-exit}
use Rattle.plasma_tx.proofs.RuleNames.{is_at}
use Rattle.plasma_tx.proofs.Sums.{MovedBelow}

-- the account that made the challenge is one of the first n
abbrev IsChallengerBelow : ℕ → Challenge → Type 0
IsChallengerBelow n challenge = challenge.by < n

abbrev IsExitBelow : ℕ → Exit → Type 0
IsExitBelow n x = (x.account < n) × AllByRecursion (IsChallengerBelow n) x.challenges

answered-below : (n block : ℕ) (challenge : Challenge) → IsChallengerBelow n challenge
    → IsChallengerBelow n (with_answer_at block challenge)
answered-below n block challenge h = grind (arith, common_steps) steps 20000

exits-below : (n : ℕ) (log : List RootCall) → AccountsBelow n log → AllByRecursion (IsExitBelow n) (exits log)
unfolding exits
exits-below n [] below = tt
exits-below n (StartDeposit account c block ∷ log) below =
    each-exit (IsExitBelow n) log (StartDeposit account c block) (below.0.0, tt) tt (exits-below n log below.1)
exits-below n (StartSpend account c parent exit ∷ log) below =
    each-exit (IsExitBelow n) log (StartSpend account c parent exit) (below.0.0, tt) tt (exits-below n log below.1)
exits-below n (Before account c e shown ∷ log) below =
    each-exit (IsExitBelow n) log (Before account c e shown) tt
    (grind (arith, common_steps, all-append) steps 20000) (exits-below n log below.1)
exits-below n (Respond account c e challenged spend ∷ log) below =
    each-exit (IsExitBelow n) log (Respond account c e challenged spend) tt
    (grind (arith, common_steps, all-map, answered-below) steps 20000) (exits-below n log below.1)
exits-below n (call ∷ log) below = each-exit (IsExitBelow n) log call tt tt (exits-below n log below.1)

exit-below : (n : ℕ) (log : List RootCall) → AccountsBelow n log → (c e : ℕ) (x : Exit) → exit_at log c e ≡ Some x
    → IsExitBelow n x
unfolding exit_at
exit-below n log below c e x stands =
    (all-found (IsExitBelow n) (is_exit c e) (exits log) x (exits-below n log below) stands).0

coin-below : (n : ℕ) (log : List RootCall) → AccountsBelow n log → (c : ℕ) (coin : CoinView)
    → coin_at log c ≡ Some coin → coin.owner.account < n
unfolding coin_at
coin-below n [] below c coin is = absurd (cc is)
coin-below n (Deposit account amount key ∷ log) below c coin is =
    elim (cases_eq c (coins log + 1)) [
      | inl last ↦ grind (arith, common_steps, some_same, eq-eqb) steps 20000
      | inr other ↦ coin-below n log below.1 c coin (simp (ne_eqb c (coins log + 1) other) at is)
    ]
coin-below n (call ∷ log) below c coin is = coin-below n log below.1 c coin is

-- ---- movements

bonds-below : (n : ℕ) (challenges : List Challenge) → AllByRecursion (IsChallengerBelow n) challenges
    → MovedBelow n (challenge_bonds challenges)
bonds-below n [] h = tt
bonds-below n (y ∷ ys) h = (h.0, bonds-below n ys h.1)

open-below : (n : ℕ) (x : Exit) → IsExitBelow n x → AllByRecursion (IsChallengerBelow n) (open_challenges x)
open-below n x h = all-filter (IsChallengerBelow n) (λ challenge. not challenge.answered) x.challenges h.1

both-below : (n : ℕ) (xs ys : List Movement) → MovedBelow n xs → MovedBelow n ys → MovedBelow n (xs ++ ys)
both-below n [] ys h j = j
both-below n (x ∷ xs) ys h j = (h.0, both-below n xs ys h.1 j)

cancel-below : (n account : ℕ) (found : Option Exit) → account < n → ((x : Exit) → found ≡ Some x → IsExitBelow n x)
    → MovedBelow n (cancel_pays account found)
cancel-below n account None below in_exit = tt
cancel-below n account (Some x) below in_exit =
    (below, bonds-below n (open_challenges x) (open-below n x (in_exit x refl)))

payout-below : (n : ℕ) (x : Exit) (withdrawn : Bool) (amount : ℕ) (challenges : List Challenge) → x.account < n
    → AllByRecursion (IsChallengerBelow n) challenges → MovedBelow n (payout x withdrawn amount challenges)
payout-below n x withdrawn amount challenges below h = grind (arith, common_steps, bonds-below) steps 20000

finish-below : (n : ℕ) (withdrawn : Bool) (amount : ℕ) (found : Option Exit)
    → ((x : Exit) → found ≡ Some x → IsExitBelow n x) → MovedBelow n (finish_pays withdrawn amount found)
finish-below n withdrawn amount None in_exit = tt
finish-below n withdrawn amount (Some x) in_exit =
    let h = in_exit x refl in
    payout-below n x withdrawn amount (open_challenges x) h.0 (open-below n x h)

exit_bonds-below : (n : ℕ) (found : Option Exit) → ((x : Exit) → found ≡ Some x → IsExitBelow n x)
    → MovedBelow n (exit_bonds found)
exit_bonds-below n None in_exit = tt
exit_bonds-below n (Some x) in_exit =
    let h = in_exit x refl in
    (h.0, bonds-below n (open_challenges x) (open-below n x h))

answered_bond-below : (n : ℕ) (found : Option Challenge)
    → ((y : Challenge) → found ≡ Some y → IsChallengerBelow n y) → MovedBelow n (answered_bond found)
answered_bond-below n found in_one = grind (arith, common_steps) steps 20000

challenge-below : (n block : ℕ) (found : Option Exit) → ((x : Exit) → found ≡ Some x → IsExitBelow n x)
    → (y : Challenge) → challenge_of found block ≡ Some y → IsChallengerBelow n y
challenge-below n block found in_exit y is = grind (arith, common_steps, all-found, is_at) steps 20000

amount-below : (n : ℕ) (challenges : List Challenge) (withdrawn : Bool) (found : Option CoinView)
    → ((coin : CoinView) → found ≡ Some coin → coin.owner.account < n)
    → MovedBelow n (amount_released challenges withdrawn found)
amount-below n challenges withdrawn found in_coin = grind (arith, common_steps) steps 20000

finish_releases-below : (n : ℕ) (withdrawn : Bool) (coin : Option CoinView) (found : Option Exit)
    → ((made : CoinView) → coin ≡ Some made → made.owner.account < n)
    → ((x : Exit) → found ≡ Some x → IsExitBelow n x) → MovedBelow n (finish_releases withdrawn coin found)
finish_releases-below n withdrawn coin None in_coin in_exit = tt
finish_releases-below n withdrawn coin (Some x) in_coin in_exit =
    both-below n (exit_bonds (Some x)) (amount_released (open_challenges x) withdrawn coin)
    (exit_bonds-below n (Some x) in_exit) (amount-below n (open_challenges x) withdrawn coin in_coin)

-- ---- calls

pub paid-below : (n : ℕ) (log : List RootCall) (call : RootCall) → AccountsBelow n (call ∷ log)
    → MovedBelow n (pays log call)
unfolding pays
paid-below n log (After account c e spend) below =
    cancel-below n account (exit_at log c e) below.0.0 (exit-below n log below.1 c e)
paid-below n log (Between account c e spend) below =
    cancel-below n account (exit_at log c e) below.0.0 (exit-below n log below.1 c e)
paid-below n log (Finish account c e) below =
    finish-below n (is_withdrawn log c) (amount_of (coin_at log c)) (exit_at log c e) (exit-below n log below.1 c e)
paid-below n log (Fund account amount) below = (below.0.0, tt)
paid-below n log (Respond account c e challenged spend) below = (below.0.0, tt)
paid-below n log call below = tt

pub taken-below : (n : ℕ) (log : List RootCall) (call : RootCall) → AccountsBelow n (call ∷ log)
    → MovedBelow n (takes call)
unfolding takes
taken-below n log call below = grind (arith, common_steps) steps 20000

pub released-below : (n : ℕ) (log : List RootCall) (call : RootCall) → AccountsBelow n (call ∷ log)
    → MovedBelow n (releases log call)
unfolding releases
released-below n log (After account c e spend) below =
    exit_bonds-below n (exit_at log c e) (exit-below n log below.1 c e)
released-below n log (Between account c e spend) below =
    exit_bonds-below n (exit_at log c e) (exit-below n log below.1 c e)
released-below n log (Respond account c e challenged spend) below =
    answered_bond-below n (challenge_of (exit_at log c e) challenged)
    (challenge-below n challenged (exit_at log c e) (exit-below n log below.1 c e))
released-below n log (Finish account c e) below =
    finish_releases-below n (is_withdrawn log c) (coin_at log c) (exit_at log c e) (coin-below n log below.1 c)
    (exit-below n log below.1 c e)
released-below n log call below = tt
