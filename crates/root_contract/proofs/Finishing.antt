-- The money of a finish by what is unpaid of the coin is that of the rules.
use Rattle.root_contract.proofs.Words.{◌≡◌, ℕ, ◌+◌, ◌-◌, ◌≤◌, Bool, List, [], Option, arith, common_steps, Ledger, balance_in, held_in, funded_in, HasSums, CoinView, Challenge, Exit, Movement, share_of, amount_of, payout, finish_pays, amount_released, finish_releases, SameMoney, unpaid_of, payout_of, finish_paid, released_of, finish_released}
use Rattle.root_contract.proofs.Agreeing.{Moves, moves-paid}

payout-is : (a : ℕ) (exit : Exit) (withdrawn : Bool) (coin : Option CoinView) (open_ones : List Challenge)
    → share_of a (payout_of (unpaid_of withdrawn coin) exit.account open_ones)
    ≡ share_of a (payout exit withdrawn (amount_of coin) open_ones)
unfolding share_of
payout-is a exit withdrawn coin open_ones = grind (arith, common_steps) steps 20000

pub finish_paid-is : (a : ℕ) (withdrawn : Bool) (coin : Option CoinView) (exit : Option Exit)
    → share_of a (finish_paid (unpaid_of withdrawn coin) exit)
    ≡ share_of a (finish_pays withdrawn (amount_of coin) exit)
finish_paid-is a withdrawn coin exit = grind (arith, common_steps, payout-is) steps 20000

released-is : (withdrawn : Bool) (coin : Option CoinView) (open_ones : List Challenge)
    → released_of (unpaid_of withdrawn coin) open_ones ≡ amount_released open_ones withdrawn coin
released-is withdrawn coin open_ones = grind (arith, common_steps) steps 20000

pub finish_released-is : (withdrawn : Bool) (coin : Option CoinView) (exit : Option Exit)
    → finish_released (unpaid_of withdrawn coin) exit ≡ finish_releases withdrawn coin exit
finish_released-is withdrawn coin exit = grind (arith, common_steps, released-is) steps 20000

-- the money of a finish moves as the rules say
pub moves-finished : (old mid new : Ledger) (withdrawn : Bool) (coin : Option CoinView) (exit : Option Exit)
    (unpaid : Option Movement) → unpaid ≡ unpaid_of withdrawn coin → SameMoney old mid
    → HasSums mid new (λ a. balance_in mid a + share_of a (finish_paid unpaid exit))
    (λ a. held_in mid a - share_of a (finish_released unpaid exit)) (funded_in mid)
    → Moves old new (finish_pays withdrawn (amount_of coin) exit) [] (finish_releases withdrawn coin exit)
moves-finished old mid new withdrawn coin exit unpaid is same sums =
    let paid = moves-paid old mid new (finish_paid unpaid exit) (finish_released unpaid exit) same sums in
    record {
      balances = grind (arith, common_steps, finish_paid-is) steps 20000;
      helds = grind (arith, common_steps, finish_released-is) steps 20000;
      funds = paid.funds;
    }

-- what a finish lets go is held
pub finish-covered : (old mid : Ledger) (withdrawn : Bool) (coin : Option CoinView) (exit : Option Exit)
    (unpaid : Option Movement) → unpaid ≡ unpaid_of withdrawn coin → SameMoney old mid
    → ((a : ℕ) → share_of a (finish_releases withdrawn coin exit) ≤ held_in old a)
    → (a : ℕ) → share_of a (finish_released unpaid exit) ≤ held_in mid a
finish-covered old mid withdrawn coin exit unpaid is same all a =
    grind (arith, common_steps, finish_released-is) steps 20000
