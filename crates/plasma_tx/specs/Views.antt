-- What a log of accepted calls says. A log is the list of these calls, the newest first. It is taken at its word: each
-- view is what it is for every list of calls, also one that no contract accepted.
use Rattle.std.specs.Prelude.{ℕ, ◌+◌, ◌==◌, ◌&&◌, ◌||◌, not, Bool, true, false, if◌then◌else◌, List, [], ◌∷◌, ◌++◌, Option, Some, None, is_some, find, filter, map}
use Rattle.std.specs.List.{list_all, list_any}
use Rattle.std.specs.Str.{bytes_eq}
use Rattle.plasma_tx.specs.{declared.owner.Owner.{Owner}, declared.opening.RawOpening.{RawOpening}, declared.call.Shown.{Shown}, declared.call.Shown.TheVariants.{Deposit as AtDeposit, Spend}, declared.call.RootCall.{RootCall}}
use Rattle.plasma_tx.specs.{declared.call.RootCall.TheVariants.{Tick, Deposit, Commit, StartDeposit, StartSpend, After, Between, Before, Respond, Finish}, declared.views.BlockView.{BlockView}}
use Rattle.plasma_tx.specs.{declared.views.BlockView.TheVariants.{DepositOf, Root}, declared.views.CoinView.{CoinView}, declared.views.ChallengeView.{ChallengeView}, declared.views.ExitView.{ExitView}, declared.views.Response.{Response}}
use Rattle.plasma_tx.specs.{Transfer.{nobody, recipient_in}, Openings.{leaf_in}}

-- ---- the clock, blocks and coins

-- the clock: the time of the last Tick, or 0
unfoldable pub now : List RootCall → ℕ
now [] = 0
now (Tick time ∷ log) = time
now (call ∷ log) = now log

-- how many blocks there are: each Deposit and each Commit makes one
unfoldable pub blocks : List RootCall → ℕ
blocks [] = 0
blocks (Deposit account amount key ∷ log) = blocks log + 1
blocks (Commit account root ∷ log) = blocks log + 1
blocks (call ∷ log) = blocks log

-- how many coins there are: each Deposit makes one
unfoldable pub coins : List RootCall → ℕ
coins [] = 0
coins (Deposit account amount key ∷ log) = coins log + 1
coins (call ∷ log) = coins log

-- block n, counted from 1: the coin of the Deposit that made it, or the root of the Commit
unfoldable pub block_at : List RootCall → ℕ → Option BlockView
block_at [] n = None
block_at (Deposit account amount key ∷ log) n =
    if n == blocks log + 1 then Some (DepositOf (coins log + 1)) else block_at log n
block_at (Commit account root ∷ log) n = if n == blocks log + 1 then Some (Root root) else block_at log n
block_at (call ∷ log) n = block_at log n

-- the call commits the root
abbrev pub commits : List ℕ → RootCall → Bool
commits root (Commit account committed) = bytes_eq committed root
commits root call = false

-- a call commits the root
abbrev pub is_root_committed : List RootCall → List ℕ → Bool
is_root_committed log root = list_any (commits root) log

-- what a Deposit after these calls makes
abbrev pub new_coin : List RootCall → ℕ → ℕ → List ℕ → CoinView
new_coin log account amount key =
    record { deposit = blocks log + 1; amount = amount; owner = record { account = account; key = key } }

-- coin c, counted from 1: what the c-th Deposit made
unfoldable pub coin_at : List RootCall → ℕ → Option CoinView
coin_at [] c = None
coin_at (Deposit account amount key ∷ log) c =
    if c == coins log + 1 then Some (new_coin log account amount key) else coin_at log c
coin_at (call ∷ log) c = coin_at log c

-- the coins that an account deposited, rising
unfoldable pub deposits_of : List RootCall → ℕ → List ℕ
deposits_of [] a = []
deposits_of (Deposit account amount key ∷ log) a =
    if a == account then deposits_of log a ++ (coins log + 1) ∷ [] else deposits_of log a
deposits_of (call ∷ log) a = deposits_of log a

-- ---- exits and challenges

-- a challenge of an exit at a block: who owned the coin after that block, who made it and when, and whether it is
-- answered
pub record Challenge : Type 0 where
  pub block : ℕ
  pub owner : Owner
  pub by : ℕ
  pub at : ℕ
  pub answered : Bool

-- an exit of a coin at a block: the parent's block (0 for an exit of the deposit), who owned the coin after the block
-- and after its parent, who started it and when, and its challenges in the order in which they were made
pub record Exit : Type 0 where
  pub coin : ℕ
  pub block : ℕ
  pub parent : ℕ
  pub owner : Owner
  pub parent_owner : Owner
  pub account : ℕ
  pub start : ℕ
  pub challenges : List Challenge

-- the depositor
abbrev pub owner_of_coin : Option CoinView → Owner
owner_of_coin None = nobody
owner_of_coin (Some coin) = coin.owner

-- to whom the transfer in an opening goes, by the bytes of its leaf alone
abbrev pub owner_of_opening : RawOpening → Owner
owner_of_opening opening = recipient_in (leaf_in opening.bytes)

-- the block that is shown
abbrev pub block_of : Shown → ℕ
block_of (AtDeposit block) = block
block_of (Spend opening) = opening.block

-- who owns the coin after what is shown
abbrev pub owner_of : List RootCall → ℕ → Shown → Owner
owner_of log c (AtDeposit block) = owner_of_coin (coin_at log c)
owner_of log c (Spend opening) = owner_of_opening opening

-- the exit that a start of the deposit's exit makes; the depositor counts as the owner after its parent too
abbrev pub deposit_exit : List RootCall → ℕ → ℕ → ℕ → Exit
deposit_exit log account coin block = record {
  coin = coin;
  block = block;
  parent = 0;
  owner = owner_of_coin (coin_at log coin);
  parent_owner = owner_of_coin (coin_at log coin);
  account = account;
  start = now log;
  challenges = [];
}

-- the exit that a start of a transfer's exit makes
abbrev pub spend_exit : List RootCall → ℕ → ℕ → Shown → RawOpening → Exit
spend_exit log account coin parent exit = record {
  coin = coin;
  block = exit.block;
  parent = block_of parent;
  owner = owner_of_opening exit;
  parent_owner = owner_of log coin parent;
  account = account;
  start = now log;
  challenges = [];
}

-- the exit is that of coin c at block e
abbrev pub is_exit : ℕ → ℕ → Exit → Bool
is_exit c e exit = (exit.coin == c) && (exit.block == e)

-- the exits without that of coin c at block e
abbrev pub without_exit : ℕ → ℕ → List Exit → List Exit
without_exit c e exits = filter (λ exit. not (is_exit c e exit)) exits

-- the exits with a change of that of coin c at block e
abbrev pub with_exit_changed : ℕ → ℕ → (Exit → Exit) → List Exit → List Exit
with_exit_changed c e change exits = map (λ exit. if is_exit c e exit then change exit else exit) exits

-- the challenge at the block
abbrev pub challenge_at : ℕ → List Challenge → Option Challenge
challenge_at block challenges = find (λ challenge. challenge.block == block) challenges

-- the exit challenged once more; where it was challenged at that block the earlier challenge counts
abbrev pub with_challenge : Challenge → Exit → Exit
with_challenge challenge exit =
    if is_some (challenge_at challenge.block exit.challenges) then exit
    else record exit { challenges = exit.challenges ++ challenge ∷ [] }

-- the challenge, answered where it is at that block
abbrev pub with_answer_at : ℕ → Challenge → Challenge
with_answer_at block challenge = if challenge.block == block then record challenge { answered = true } else challenge

-- the exit with its challenge at that block answered
abbrev pub with_answer : ℕ → Exit → Exit
with_answer block exit = record exit { challenges = map (with_answer_at block) exit.challenges }

-- the response is to the exit of coin c at block e
abbrev pub is_response_to : ℕ → ℕ → Response → Bool
is_response_to c e response = (response.coin == c) && (response.exit == e)

-- the responses without those to the exit of coin c at block e
abbrev pub without_responses : ℕ → ℕ → List Response → List Response
without_responses c e responses = filter (λ response. not (is_response_to c e response)) responses

-- the responses to each exit since it was last started, cancelled or finished, in order
unfoldable pub responses : List RootCall → List Response
responses [] = []
responses (StartDeposit account coin block ∷ log) = without_responses coin block (responses log)
responses (StartSpend account coin parent exit ∷ log) = without_responses coin exit.block (responses log)
responses (After account coin exit spend ∷ log) = without_responses coin exit (responses log)
responses (Between account coin exit spend ∷ log) = without_responses coin exit (responses log)
responses (Finish account coin exit ∷ log) = without_responses coin exit (responses log)
responses (Respond account coin exit challenged spend ∷ log) =
    responses log ++ record { coin = coin; exit = exit; block = challenged } ∷ []
responses (call ∷ log) = responses log

-- whether one of the responses to the exit names the block
abbrev pub is_responded : ℕ → ℕ → ℕ → List Response → Bool
is_responded c e block responses =
    list_any (λ response. is_response_to c e response && (response.block == block)) responses

-- the challenge that a Before of the exit makes; it is answered already where a Respond came first
abbrev pub new_challenge : List RootCall → ℕ → ℕ → ℕ → Shown → Challenge
new_challenge log account coin exit shown = record {
  block = block_of shown;
  owner = owner_of log coin shown;
  by = account;
  at = now log;
  answered = is_responded coin exit (block_of shown) (responses log);
}

-- The standing exits in the order of their starts: a start adds its exit, in place of one of that name; After, Between
-- and Finish take it out; Before challenges it and Respond answers a challenge.
unfoldable pub exits : List RootCall → List Exit
exits [] = []
exits (StartDeposit account coin block ∷ log) =
    without_exit coin block (exits log) ++ deposit_exit log account coin block ∷ []
exits (StartSpend account coin parent exit ∷ log) =
    without_exit coin exit.block (exits log) ++ spend_exit log account coin parent exit ∷ []
exits (After account coin exit spend ∷ log) = without_exit coin exit (exits log)
exits (Between account coin exit spend ∷ log) = without_exit coin exit (exits log)
exits (Finish account coin exit ∷ log) = without_exit coin exit (exits log)
exits (Before account coin exit shown ∷ log) =
    with_exit_changed coin exit (with_challenge (new_challenge log account coin exit shown)) (exits log)
exits (Respond account coin exit challenged spend ∷ log) =
    with_exit_changed coin exit (with_answer challenged) (exits log)
exits (call ∷ log) = exits log

-- the standing exit of coin c at block e
unfoldable pub exit_at : List RootCall → ℕ → ℕ → Option Exit
exit_at log c e = find (is_exit c e) (exits log)

-- whether the exit has no open challenge; so it is of an exit that doesn't stand
abbrev pub has_no_open_challenge : Option Exit → Bool
has_no_open_challenge None = true
has_no_open_challenge (Some exit) = list_all (λ challenge. challenge.answered) exit.challenges

-- the coin is withdrawn: there was a Finish of it whose exit had no open challenge
unfoldable pub is_withdrawn : List RootCall → ℕ → Bool
is_withdrawn [] c = false
is_withdrawn (Finish account coin exit ∷ log) c =
    ((coin == c) && has_no_open_challenge (exit_at log coin exit)) || is_withdrawn log c
is_withdrawn (call ∷ log) c = is_withdrawn log c

-- ---- what is shown of them

abbrev pub challenge_view : Challenge → ChallengeView
challenge_view challenge =
    record { block = challenge.block; at = challenge.at; by = challenge.by; answered = challenge.answered }

abbrev pub exit_view : Exit → ExitView
exit_view exit = record {
  block = exit.block;
  parent = exit.parent;
  start = exit.start;
  account = exit.account;
  challenges = map challenge_view exit.challenges;
}

-- the standing exits of coin c, in the order of their starts
unfoldable pub exits_of : List RootCall → ℕ → List ExitView
exits_of log c = map exit_view (filter (λ exit. exit.coin == c) (exits log))

-- there is one of them
abbrev pub has_exits : List ExitView → Bool
has_exits [] = false
has_exits (exit ∷ exits) = true

-- an exit of coin c stands
abbrev pub is_exiting : List RootCall → ℕ → Bool
is_exiting log c = has_exits (exits_of log c)
