-- A lean log is one without the bytes that its calls show. It says the same of the exits, and is followed beside a log
-- to know what stood at each of the log's calls.
use Rattle.std.specs.Prelude.{◌≡◌, ℕ, ◌+◌, ◌==◌, ◌&&◌, not, Bool, true, false, if◌then◌else◌, List, [], Option, Some, None, find, filter, map}
use Rattle.std.specs.Option.{option_map_or}
use Rattle.plasma_tx.specs.declared.opening.RawOpening.{RawOpening}
use Rattle.plasma_tx.specs.declared.call.Shown.TheVariants.{Deposit as AtDeposit}
use Rattle.plasma_tx.specs.declared.call.RootCall.{RootCall}
use Rattle.plasma_tx.specs.declared.call.RootCall.TheVariants.{Fund, Tick, Deposit, StartDeposit, StartSpend, After, Between, Before, Respond, Finish}
use Rattle.plasma_tx.specs.declared.rules.TheConstants.{CHALLENGE_BOND, EXIT_BOND}
use Rattle.plasma_tx.specs.declared.views.ChallengeView.{ChallengeView}
use Rattle.plasma_tx.specs.declared.views.ExitView.{ExitView}
use Rattle.plasma_tx.specs.Money.{amount_of, moved, share_of}
use Rattle.plasma_tx.specs.Standing.{standing_of, has_no_open_view}
use Rattle.plasma_tx.specs.Views.{now, blocks, coins, coin_at, block_of, exits_of, is_withdrawn}
use Rattle.coin_safety.specs.declared.payment.Payment.{Payment}
use Rattle.coin_safety.specs.Advice.{exit_in}

-- an opening at the block, without bytes
abbrev pub bare : ℕ → RawOpening
bare block = record { block = block; bytes = [] }

-- the call without the bytes of its openings
abbrev pub lean : RootCall → RootCall
lean (StartSpend account coin parent exit) =
    StartSpend account coin (AtDeposit (block_of parent)) (bare exit.block)
lean (After account coin exit spend) = After account coin exit (bare spend.block)
lean (Between account coin exit spend) = Between account coin exit (bare spend.block)
lean (Before account coin exit shown) = Before account coin exit (AtDeposit (block_of shown))
lean (Respond account coin exit challenged spend) = Respond account coin exit challenged (bare spend.block)
lean call = call

-- the other log says of coin c what the log says
pub record Follows (log other : List RootCall) (c : ℕ) : Type 0 where
  pub clock : now other ≡ now log
  pub standing : standing_of other c ≡ standing_of log c

-- it says so of all coins, and has the same coins
pub record FollowsAll (log other : List RootCall) : Type 0 where
  pub each : (c : ℕ) → Follows log other c
  pub block_count : blocks other ≡ blocks log
  pub coin_count : coins other ≡ coins log
  pub coins_are : (c : ℕ) → coin_at other c ≡ coin_at log c

-- the call may change what stands of coin c, or sets the clock
abbrev pub concerns : ℕ → RootCall → Bool
concerns c (Tick time) = true
concerns c (StartDeposit account coin block) = coin == c
concerns c (StartSpend account coin parent exit) = coin == c
concerns c (After account coin exit spend) = coin == c
concerns c (Between account coin exit spend) = coin == c
concerns c (Before account coin exit shown) = coin == c
concerns c (Respond account coin exit challenged spend) = coin == c
concerns c (Finish account coin exit) = coin == c
concerns c call = false

-- ---- what a call does, where these exits stand

-- the payment of coin c by the call in this line
abbrev pub payment_by : ℕ → ℕ → List ExitView → RootCall → Option Payment
payment_by c line exits (Finish account coin block) =
    if (coin == c) && has_no_open_view (exit_in exits block)
    then Some (record { account = option_map_or (λ exit. exit.account) (exit_in exits block) 0; line = line })
    else None
payment_by c line exits call = None

-- the amount, where it is the account's
abbrev pub share : ℕ → ℕ → ℕ → ℕ
share account whose amount = if whose == account then amount else 0

-- the bonds of the account's open challenges
abbrev pub own_bonds : ℕ → List ChallengeView → ℕ
own_bonds account challenges =
    share_of account
    (map (λ challenge. moved challenge.by CHALLENGE_BOND) (filter (λ challenge. not challenge.answered) challenges))

-- what the account gets where the exit is cancelled by a call of an account
abbrev pub cancel_share : ℕ → ℕ → Option ExitView → ℕ
cancel_share account by exit =
    option_map_or (λ it. share account by EXIT_BOND + own_bonds account it.challenges) exit 0

-- and where it is finished: the bond of the exit goes to who made the first open challenge; with none, to the exit's
-- account, and the amount too where the coin isn't withdrawn
abbrev pub payout_share : ℕ → Bool → ℕ → ExitView → Option ChallengeView → ℕ
payout_share account withdrawn amount exit (Some challenge) =
    share account challenge.by EXIT_BOND + own_bonds account exit.challenges
payout_share account true amount exit None = share account exit.account EXIT_BOND
payout_share account false amount exit None = share account exit.account (amount + EXIT_BOND)

abbrev pub finish_share : ℕ → Bool → ℕ → Option ExitView → ℕ
finish_share account withdrawn amount exit =
    option_map_or (λ it. payout_share account withdrawn amount it (find (λ challenge. not challenge.answered)
    it.challenges)) exit 0

-- what the call pays to the account, after the calls of a log
abbrev pub paid_to : ℕ → List RootCall → RootCall → ℕ
paid_to account log (Fund whose amount) = share account whose amount
paid_to account log (After by c block spend) = cancel_share account by (exit_in (exits_of log c) block)
paid_to account log (Between by c block spend) = cancel_share account by (exit_in (exits_of log c) block)
paid_to account log (Respond by c block challenged spend) = share account by CHALLENGE_BOND
paid_to account log (Finish by c block) =
    finish_share account (is_withdrawn log c) (amount_of (coin_at log c)) (exit_in (exits_of log c) block)
paid_to account log call = 0

-- what it takes of the account
abbrev pub taken_of : ℕ → RootCall → ℕ
taken_of account (Deposit by amount key) = share account by amount
taken_of account (StartDeposit by c block) = share account by EXIT_BOND
taken_of account (StartSpend by c parent exit) = share account by EXIT_BOND
taken_of account (Before by c block shown) = share account by CHALLENGE_BOND
taken_of account call = 0
