-- Money by the calls of a log: what each call pays to balances and takes from them, what it holds and lets go, and
-- the sums.
use Rattle.std.specs.Prelude.{ℕ, zero, suc, ◌+◌, ◌-◌, ◌*◌, ◌<◌, ◌==◌, not, Bool, true, false, if◌then◌else◌, List, [], ◌∷◌, ◌++◌, length, map, filter, Option, Some, None}
use Rattle.std.specs.List.{AllByRecursion}
use Rattle.plasma_tx.specs.{declared.rules.TheConstants.{EXIT_BOND, CHALLENGE_BOND}, declared.movement.Movement.{Movement}, declared.call.RootCall.{RootCall}}
use Rattle.plasma_tx.specs.{declared.call.RootCall.TheVariants.{Fund, Tick, Deposit, Commit, StartDeposit, StartSpend, After, Between, Before, Respond, Finish}, declared.views.CoinView.{CoinView}}
use Rattle.plasma_tx.specs.Views.{coins, coin_at, Challenge, Exit, exits, exit_at, challenge_at, is_withdrawn}

-- the movement of an amount to or from an account
abbrev pub moved : ℕ → ℕ → Movement
moved account amount = record { account = account; amount = amount }

-- the coin's amount, 0 where there is no such coin
abbrev pub amount_of : Option CoinView → ℕ
amount_of None = 0
amount_of (Some coin) = coin.amount

-- the challenges that are open, in the order in which they were made
abbrev pub open_challenges : Exit → List Challenge
open_challenges exit = filter (λ challenge. not challenge.answered) exit.challenges

-- each of these challenges' bonds, at the account that made it
abbrev pub challenge_bonds : List Challenge → List Movement
challenge_bonds challenges = map (λ challenge. moved challenge.by CHALLENGE_BOND) challenges

-- the bonds that an exit which is cancelled gives out: its own to the challenger, and those of the open challenges
-- back
abbrev pub cancel_pays : ℕ → Option Exit → List Movement
cancel_pays challenger None = []
cancel_pays challenger (Some exit) = moved challenger EXIT_BOND ∷ challenge_bonds (open_challenges exit)

-- What a finish pays, by the open challenges: where there are some, the exit's bond goes to the first of them, and
-- each of theirs goes back; where there is none, the exit's account gets the bond, and the coin's amount if the
-- coin isn't withdrawn.
abbrev pub payout : Exit → Bool → ℕ → List Challenge → List Movement
payout exit withdrawn amount (challenge ∷ challenges) =
    moved challenge.by EXIT_BOND ∷ challenge_bonds (challenge ∷ challenges)
payout exit true amount [] = moved exit.account EXIT_BOND ∷ []
payout exit false amount [] = moved exit.account (amount + EXIT_BOND) ∷ []

abbrev pub finish_pays : Bool → ℕ → Option Exit → List Movement
finish_pays withdrawn amount None = []
finish_pays withdrawn amount (Some exit) = payout exit withdrawn amount (open_challenges exit)

-- what the call, after these calls, pays to balances
unfoldable pub pays : List RootCall → RootCall → List Movement
pays log (Fund account amount) = moved account amount ∷ []
pays log (After account c exit_block spend) = cancel_pays account (exit_at log c exit_block)
pays log (Between account c exit_block spend) = cancel_pays account (exit_at log c exit_block)
pays log (Respond account c exit_block challenged spend) = moved account CHALLENGE_BOND ∷ []
pays log (Finish account c exit_block) =
    finish_pays (is_withdrawn log c) (amount_of (coin_at log c)) (exit_at log c exit_block)
pays log call = []

-- what the call takes from balances, and holds
unfoldable pub takes : RootCall → List Movement
takes (Deposit account amount key) = moved account amount ∷ []
takes (StartDeposit account c block) = moved account EXIT_BOND ∷ []
takes (StartSpend account c parent exit) = moved account EXIT_BOND ∷ []
takes (Before account c exit_block shown) = moved account CHALLENGE_BOND ∷ []
takes call = []

-- the bonds that are held for an exit: its own, of the account that started it, and those of its open challenges
abbrev pub exit_bonds : Option Exit → List Movement
exit_bonds None = []
exit_bonds (Some exit) = moved exit.account EXIT_BOND ∷ challenge_bonds (open_challenges exit)

-- the bond of the challenge that a response names
abbrev pub answered_bond : Option Challenge → List Movement
answered_bond None = []
answered_bond (Some challenge) = moved challenge.by CHALLENGE_BOND ∷ []

abbrev pub challenge_of : Option Exit → ℕ → Option Challenge
challenge_of None block = None
challenge_of (Some exit) block = challenge_at block exit.challenges

-- What a finish lets go of beside the bonds, by the open challenges: the amount of the coin, of its depositor,
-- where there is no open challenge and the coin isn't withdrawn.
abbrev pub amount_released : List Challenge → Bool → Option CoinView → List Movement
amount_released (challenge ∷ challenges) withdrawn coin = []
amount_released [] true coin = []
amount_released [] false None = []
amount_released [] false (Some coin) = moved coin.owner.account coin.amount ∷ []

abbrev pub finish_releases : Bool → Option CoinView → Option Exit → List Movement
finish_releases withdrawn coin None = []
finish_releases withdrawn coin (Some exit) =
    exit_bonds (Some exit) ++ amount_released (open_challenges exit) withdrawn coin

-- what the call, after these calls, lets go of what is held of accounts
unfoldable pub releases : List RootCall → RootCall → List Movement
releases log (After account c exit_block spend) = exit_bonds (exit_at log c exit_block)
releases log (Between account c exit_block spend) = exit_bonds (exit_at log c exit_block)
releases log (Respond account c exit_block challenged spend) =
    answered_bond (challenge_of (exit_at log c exit_block) challenged)
releases log (Finish account c exit_block) =
    finish_releases (is_withdrawn log c) (coin_at log c) (exit_at log c exit_block)
releases log call = []

-- the part of the movements that is the account's
unfoldable pub share_of : ℕ → List Movement → ℕ
share_of account [] = 0
share_of account (movement ∷ movements) =
    (if movement.account == account then movement.amount else 0) + share_of account movements

-- an account's balance: what the calls paid to it, less what they took
unfoldable pub balance_of : List RootCall → ℕ → ℕ
balance_of [] account = 0
balance_of (call ∷ log) account =
    balance_of log account + share_of account (pays log call) - share_of account (takes call)

-- what is held of an account: what the calls took from it, less what they let go
unfoldable pub held_of : List RootCall → ℕ → ℕ
held_of [] account = 0
held_of (call ∷ log) account =
    held_of log account + share_of account (takes call) - share_of account (releases log call)

-- all money ever funded
unfoldable pub funded : List RootCall → ℕ
funded [] = 0
funded (Fund account amount ∷ log) = funded log + amount
funded (call ∷ log) = funded log

-- f 0 + f 1 + .. + f (n - 1)
unfoldable pub sum_below : (ℕ → ℕ) → ℕ → ℕ
sum_below f zero = 0
sum_below f (suc n) = sum_below f n + f n

-- the coin's amount, where the coin isn't withdrawn
abbrev pub unpaid : List RootCall → ℕ → ℕ
unpaid log c = if is_withdrawn log c then 0 else amount_of (coin_at log c)

-- the bonds of these exits: 100 for each, and 40 for each of its open challenges
unfoldable pub bonds : List Exit → ℕ
bonds [] = 0
bonds (exit ∷ exits) = EXIT_BOND + CHALLENGE_BOND * length (open_challenges exit) + bonds exits

-- the money that no balance has: the amounts of the coins that aren't withdrawn, and the bonds of the standing exits
abbrev pub held : List RootCall → ℕ
held log = sum_below (unpaid log) (coins log + 1) + bonds (exits log)

-- the account that makes the call; nobody makes a Tick
abbrev pub callers : RootCall → List ℕ
callers (Fund account amount) = account ∷ []
callers (Tick time) = []
callers (Deposit account amount key) = account ∷ []
callers (Commit account root) = account ∷ []
callers (StartDeposit account c block) = account ∷ []
callers (StartSpend account c parent exit) = account ∷ []
callers (After account c exit_block spend) = account ∷ []
callers (Between account c exit_block spend) = account ∷ []
callers (Before account c exit_block shown) = account ∷ []
callers (Respond account c exit_block challenged spend) = account ∷ []
callers (Finish account c exit_block) = account ∷ []

-- each account that makes one of these calls is one of the first n
abbrev pub AccountsBelow : ℕ → List RootCall → Type 0
AccountsBelow n log = AllByRecursion (λ call. AllByRecursion (λ account. account < n) (callers call)) log
