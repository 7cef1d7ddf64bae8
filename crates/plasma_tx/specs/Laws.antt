-- What holds of the views of every list of calls, in the words of the calls themselves.
use Rattle.std.specs.Prelude.{◌≡◌, ℕ, ◌+◌, ◌<◌, ◌==◌, ◌&&◌, ◌||◌, not, Bool, true, false, if◌then◌else◌, List, [], ◌∷◌, length, reverse, filter, find, slice_get, Option, Some, None, is_some}
use Rattle.std.specs.List.{AllPairs}
use Rattle.std.specs.Option.{option_map, option_map_or, option_or}
use Rattle.plasma_tx.specs.{declared.call.RootCall.{RootCall}, declared.call.RootCall.TheVariants.{Tick, Deposit, Commit, StartDeposit, StartSpend, After, Between, Before, Respond, Finish}, declared.views.BlockView.{BlockView}}
use Rattle.plasma_tx.specs.{declared.views.BlockView.TheVariants.{DepositOf, Root}, declared.views.CoinView.{CoinView}}
use Rattle.plasma_tx.specs.Views.{now, blocks, coins, block_at, coin_at, Challenge, Exit, block_of, owner_of, deposit_exit, spend_exit, challenge_at, exits, exit_at, has_no_open_challenge, is_withdrawn, is_responded, responses}

-- ---- the clock, blocks and coins

-- the call sets the clock, and to what time
abbrev pub is_tick : RootCall → Bool
is_tick (Tick time) = true
is_tick call = false

abbrev pub time_of : RootCall → ℕ
time_of (Tick time) = time
time_of call = 0

-- the clock is the time of the last Tick, or 0
abbrev pub ClocksAreTicks : Type 0
ClocksAreTicks = (log : List RootCall) → now log ≡ option_map_or time_of (find is_tick log) 0

-- the call makes a block
abbrev pub is_block_call : RootCall → Bool
is_block_call (Deposit account amount key) = true
is_block_call (Commit account root) = true
is_block_call call = false

-- the Deposit and Commit calls, the oldest first
abbrev pub block_calls : List RootCall → List RootCall
block_calls log = filter is_block_call (reverse log)

-- what such calls make as blocks: a Commit its root, and a Deposit a coin, of which the first has this number
unfoldable pub blocks_made : ℕ → List RootCall → List BlockView
blocks_made c [] = []
blocks_made c (Deposit account amount key ∷ calls) = DepositOf c ∷ blocks_made (c + 1) calls
blocks_made c (Commit account root ∷ calls) = Root root ∷ blocks_made c calls
blocks_made c (call ∷ calls) = blocks_made c calls

-- the coins that the Deposits of such calls make, each in the block of its call's place, which for the first call is n
unfoldable pub coins_made : ℕ → List RootCall → List CoinView
coins_made n [] = []
coins_made n (Deposit account amount key ∷ calls) =
    record { deposit = n; amount = amount; owner = record { account = account; key = key } } ∷ coins_made (n + 1) calls
coins_made n (call ∷ calls) = coins_made (n + 1) calls

-- what these are, counted from 1
abbrev pub AreNumbered : {A : Type 0} → (ℕ → Option A) → List A → Type 0
AreNumbered at items = (at 0 ≡ None) × ((n : ℕ) → at (n + 1) ≡ slice_get items n)

-- There are as many blocks as Deposits and Commits. Block n is the n-th of these calls: the root of a Commit, or the
-- coin of a Deposit, which has the number that the Deposit has among the Deposits.
abbrev pub BlocksAreCalls : Type 0
BlocksAreCalls = (log : List RootCall)
    → (blocks log ≡ length (block_calls log)) × AreNumbered (block_at log) (blocks_made 1 (block_calls log))

-- There are as many coins as Deposits. Coin c is the c-th Deposit: its amount and its owner are those of that call, and
-- its deposit block is the call's place among the Deposits and Commits.
abbrev pub CoinsAreDeposits : Type 0
CoinsAreDeposits = (log : List RootCall)
    → (coins log ≡ length (coins_made 1 (block_calls log)))
    × AreNumbered (coin_at log) (coins_made 1 (block_calls log))

-- ---- exits and challenges

-- the exit that the call, after these calls, starts; None where it doesn't start that of coin c at block e
abbrev pub start_by : List RootCall → ℕ → ℕ → RootCall → Option Exit
start_by log c e (StartDeposit account coin block) =
    if (coin == c) && (block == e) then Some (deposit_exit log account coin block) else None
start_by log c e (StartSpend account coin parent exit) =
    if (coin == c) && (exit.block == e) then Some (spend_exit log account coin parent exit) else None
start_by log c e call = None

-- the call cancels or finishes the exit of coin c at block e
abbrev pub is_end : ℕ → ℕ → RootCall → Bool
is_end c e (After account coin exit spend) = (coin == c) && (exit == e)
is_end c e (Between account coin exit spend) = (coin == c) && (exit == e)
is_end c e (Finish account coin exit) = (coin == c) && (exit == e)
is_end c e call = false

-- the call starts it
abbrev pub is_start : ℕ → ℕ → RootCall → Bool
is_start c e (StartDeposit account coin block) = (coin == c) && (block == e)
is_start c e (StartSpend account coin parent exit) = (coin == c) && (exit.block == e)
is_start c e call = false

-- the exit by the last call that starts, cancels or finishes it: that call's, where it is a start
unfoldable pub last_start : List RootCall → ℕ → ℕ → Option Exit
last_start [] c e = None
last_start (call ∷ log) c e =
    if is_start c e call then start_by log c e call
    else if is_end c e call then None
    else last_start log c e

-- an exit as it was started
abbrev pub without_challenges : Exit → Exit
without_challenges exit = record exit { challenges = [] }

-- An exit stands exactly where the last call that starts, cancels or finishes it is a start. Its account, parent,
-- owners and time are those of that call and of the calls before it.
abbrev pub ExitsStand : Type 0
ExitsStand = (log : List RootCall) (c e : ℕ) → option_map without_challenges (exit_at log c e) ≡ last_start log c e

-- the challenge that the call, after these calls, makes of the exit at block b, not answered yet
abbrev pub before_by : List RootCall → ℕ → ℕ → ℕ → RootCall → Option Challenge
before_by log c e b (Before account coin exit shown) =
    if (coin == c) && (exit == e) && (block_of shown == b)
    then Some (record { block = b; owner = owner_of log coin shown; by = account; at = now log; answered = false })
    else None
before_by log c e b call = None

-- the call is a Respond to the exit, to its challenge at block b
abbrev pub is_respond : ℕ → ℕ → ℕ → RootCall → Bool
is_respond c e b (Respond account coin exit challenged spend) = (coin == c) && (exit == e) && (challenged == b)
is_respond c e b call = false

-- the first Before of the exit at block b after its last start
unfoldable pub first_before : List RootCall → ℕ → ℕ → ℕ → Option Challenge
first_before [] c e b = None
first_before (call ∷ log) c e b =
    if is_start c e call then None else option_or (first_before log c e b) (before_by log c e b call)

-- a Respond to its challenge at block b after its last start
unfoldable pub was_responded : List RootCall → ℕ → ℕ → ℕ → Bool
was_responded [] c e b = false
was_responded (call ∷ log) c e b = if is_start c e call then false else is_respond c e b call || was_responded log c e b

-- the challenge, answered or not
abbrev pub with_answered : Bool → Challenge → Challenge
with_answered answered challenge = record challenge { answered = answered }

-- A standing exit is challenged at b exactly where after its start there is a Before of it at b; the challenge's
-- account, owner and time are those of the first such Before, and it is answered exactly where after that start there
-- is a Respond to it at b.
abbrev pub ChallengesStand : Type 0
ChallengesStand = (log : List RootCall) (c e b : ℕ) (exit : Exit) → exit_at log c e ≡ Some exit
    → challenge_at b exit.challenges ≡ option_map (with_answered (was_responded log c e b)) (first_before log c e b)

-- how many calls there were before the last start of the exit
unfoldable pub start_place : List RootCall → ℕ → ℕ → ℕ
start_place [] c e = 0
start_place (call ∷ log) c e = if is_start c e call then length log else start_place log c e

-- how many calls there were before the first Before of the exit at block b after its last start
unfoldable pub before_place : List RootCall → ℕ → ℕ → ℕ → ℕ
before_place [] c e b = 0
before_place (call ∷ log) c e b =
    if is_start c e call then 0
    else if is_some (first_before log c e b) then before_place log c e b
    else length log

-- the standing exits are in the order of their starts
abbrev pub ExitsAreInOrder : Type 0
ExitsAreInOrder = (log : List RootCall)
    → AllPairs (λ earlier later. start_place log earlier.coin earlier.block < start_place log later.coin later.block)
    (exits log)

-- the challenges of a standing exit are in the order of their Befores
abbrev pub ChallengesAreInOrder : Type 0
ChallengesAreInOrder = (log : List RootCall) (c e : ℕ) (exit : Exit) → exit_at log c e ≡ Some exit
    → AllPairs (λ earlier later. before_place log c e earlier.block < before_place log c e later.block) exit.challenges

-- a Finish of coin c was paid: its exit had no open challenge, and no earlier Finish of the coin was paid
unfoldable pub was_paid : List RootCall → ℕ → Bool
was_paid [] c = false
was_paid (Finish account coin exit ∷ log) c =
    ((coin == c) && has_no_open_challenge (exit_at log coin exit) && not (was_paid log c)) || was_paid log c
was_paid (call ∷ log) c = was_paid log c

-- a coin is withdrawn exactly where a Finish of it was paid
abbrev pub WithdrawnIsPaid : Type 0
WithdrawnIsPaid = (log : List RootCall) (c : ℕ) → is_withdrawn log c ≡ was_paid log c

-- the exit is challenged at the block, where it stands
abbrev pub is_challenged_at : ℕ → Option Exit → Bool
is_challenged_at b None = false
is_challenged_at b (Some exit) = is_some (challenge_at b exit.challenges)

-- each Respond named a challenge of a standing exit
unfoldable pub RespondsAnswer : List RootCall → Type 0
RespondsAnswer [] = Unit {0}
RespondsAnswer (Respond account coin exit challenged spend ∷ log) =
    (is_challenged_at challenged (exit_at log coin exit) ≡ true) × RespondsAnswer log
RespondsAnswer (call ∷ log) = RespondsAnswer log

-- where each Respond named a challenge, the challenge that a first Before at a block makes is open
abbrev pub NewChallengesAreOpen : Type 0
NewChallengesAreOpen = (log : List RootCall) (c e b : ℕ) → RespondsAnswer log → is_some (exit_at log c e) ≡ true
    → is_challenged_at b (exit_at log c e) ≡ false → is_responded c e b (responses log) ≡ false
