-- The answers of the root contract: the first cause in order that holds, else the effect.
use Rattle.std.specs.Prelude.{◌≡◌, ℕ, ◌+◌, ◌==◌, ◌&&◌, ◌||◌, not, Bool, true, false, if◌then◌else◌, nat_lt, nat_le, List, [], ◌∷◌, Option, Some, None, is_some, is_none}
use Rattle.lms_sign.specs.{Types.{is_supported}, Valid.{types_of}}
use Rattle.plasma_tx.specs.{declared.rules.TheConstants.{EXIT_BOND, CHALLENGE_BOND, CHALLENGE_WINDOW, RESPONSE_WINDOW, EXIT_PERIOD, MOST_MONEY, LAST_TIME}, declared.owner.Owner.{Owner}, declared.signed_tx.SignedTx.{SignedTx}}
use Rattle.plasma_tx.specs.{declared.call.Shown.{Shown}, declared.call.Shown.TheVariants.{Deposit as AtDeposit, Spend}, declared.call.RootCall.{RootCall}}
use Rattle.plasma_tx.specs.{declared.call.RootCall.TheVariants.{Fund, Tick, Deposit, Commit, StartDeposit, StartSpend, After, Between, Before, Respond, Finish}, declared.answer.Answer.{Answer}}
use Rattle.plasma_tx.specs.{declared.answer.Answer.TheVariants.{Funded, Ticked, Deposited, Committed, Started, Cancelled, Challenged, Responded, Paid, Dropped, Refused, NoMemory}, declared.answer.Refusal.{Refusal}}
use Rattle.plasma_tx.specs.declared.answer.Refusal.TheVariants.{SumTooLarge, ClockBack, ClockTooLarge, BadAmount, BadKey, NoFunds, TooManyBlocks, NotOperator, NoCoin, Withdrawn, BadBlock, NotOwner, ExitStands, BadOpening, NotChild, BadSignature, NoExit, Late, ChallengeStands, NoChallenge, Answered, Early}
use Rattle.plasma_tx.specs.{declared.views.CoinView.{CoinView}, Views.{now, blocks, coins, coin_at, Challenge, Exit, exit_at, challenge_at, block_of, has_no_open_challenge, is_withdrawn}}
use Rattle.plasma_tx.specs.{Shown.{Tests, Rules, root_at, shown_tx, shown_owner, spends, signs, goes_to}, Money.{balance_of, funded}}

-- ---- causes, and what decides

-- a cause: whether it holds, and the refusal that it gives
abbrev pub Cause : Type 0
Cause = Bool × Refusal

-- the first cause that holds, else the effect
abbrev pub decided : List Cause → Answer → Answer
decided [] effect = effect
decided (cause ∷ causes) effect = if cause.0 then Refused cause.1 else decided causes effect

-- the account's balance is less than what is needed
abbrev pub too_poor : List RootCall → ℕ → ℕ → Cause
too_poor log account needs = (nat_lt (balance_of log account) needs, NoFunds (balance_of log account) needs)

-- the key reads: its two types are a supported pair
abbrev pub is_key : List ℕ → Bool
is_key key = is_supported (types_of key)

-- there are as many blocks as the contract takes
abbrev pub is_full : Rules → List RootCall → Bool
is_full rules log = nat_le rules.most_blocks (blocks log)

-- block n is a committed one after block low and before block high
abbrev pub is_committed_between : List RootCall → ℕ → ℕ → ℕ → Bool
is_committed_between log low high n = is_some (root_at log n) && nat_lt low n && nat_lt n high

-- block n is a committed one after block low
abbrev pub is_committed_after : List RootCall → ℕ → ℕ → Bool
is_committed_after log low n = is_some (root_at log n) && nat_lt low n

-- a window that was opened at a time, and is so many seconds long, is over
abbrev pub is_over : List RootCall → ℕ → ℕ → Bool
is_over log time window = nat_le (time + window) (now log)

-- an opening of the call shows no transfer of the coin
abbrev pub shows_none : {A : Type 0} → Option A → Cause
shows_none shown = (is_none shown, BadOpening)

-- ---- money, the clock, coins and blocks

abbrev pub fund_causes : List RootCall → ℕ → List Cause
fund_causes log amount = (nat_lt MOST_MONEY (funded log + amount), SumTooLarge) ∷ []

abbrev pub tick_causes : List RootCall → ℕ → List Cause
tick_causes log time = (nat_lt time (now log), ClockBack (now log)) ∷ (nat_lt LAST_TIME time, ClockTooLarge) ∷ []

abbrev pub deposit_causes : Rules → List RootCall → ℕ → ℕ → List ℕ → List Cause
deposit_causes rules log account amount key =
    (
    (amount == 0, BadAmount)
    ∷ (not (is_key key), BadKey)
    ∷ too_poor log account amount
    ∷ (is_full rules log, TooManyBlocks)
    ∷ []
    )

abbrev pub commit_causes : Rules → List RootCall → ℕ → List Cause
commit_causes rules log account =
    (not (account == rules.operator), NotOperator) ∷ (is_full rules log, TooManyBlocks) ∷ []

-- ---- the starts of exits

-- the start of the exit of a deposit
abbrev pub start_deposit_causes : List RootCall → ℕ → ℕ → ℕ → CoinView → List Cause
start_deposit_causes log account c block coin =
    (
    (is_withdrawn log c, Withdrawn)
    ∷ (not (block == coin.deposit), BadBlock)
    ∷ (not (account == coin.owner.account), NotOwner)
    ∷ (is_some (exit_at log c block), ExitStands)
    ∷ too_poor log account EXIT_BOND
    ∷ []
    )

-- what may be the parent of an exit at a block: the deposit, or a committed block between the two
abbrev pub is_parent_of : List RootCall → CoinView → ℕ → Shown → Bool
is_parent_of log coin exit_block (AtDeposit block) = block == coin.deposit
is_parent_of log coin exit_block (Spend opening) = is_committed_between log coin.deposit exit_block opening.block

-- the blocks of the exit of a transfer: it is in a committed block after the deposit, and its parent may be one
abbrev pub may_exit_at : List RootCall → CoinView → Shown → ℕ → Bool
may_exit_at log coin parent exit_block =
    is_committed_after log coin.deposit exit_block && is_parent_of log coin exit_block parent

-- the start of the exit of a transfer that is shown, whose parent's owner is shown
abbrev pub start_spend_causes : Tests → List RootCall → ℕ → ℕ → Shown → ℕ → Option Owner → Option SignedTx → CoinView
    → List Cause
start_spend_causes tests log account c parent exit_block parent_owner spend coin =
    (
    (is_withdrawn log c, Withdrawn)
    ∷ (not (may_exit_at log coin parent exit_block), BadBlock)
    ∷ (is_none parent_owner || is_none spend, BadOpening)
    ∷ (not (spends (block_of parent) spend), NotChild)
    ∷ (not (signs tests parent_owner spend), BadSignature)
    ∷ (not (goes_to account spend), NotOwner)
    ∷ (is_some (exit_at log c exit_block), ExitStands)
    ∷ too_poor log account EXIT_BOND
    ∷ []
    )

-- ---- the challenges of an exit

-- a spend of the exit's block in a later block
abbrev pub after_causes : Tests → List RootCall → Exit → ℕ → Option SignedTx → List Cause
after_causes tests log exit block spend =
    (
    (is_over log exit.start CHALLENGE_WINDOW, Late)
    ∷ (not (is_committed_after log exit.block block), BadBlock)
    ∷ shows_none spend
    ∷ (not (spends exit.block spend), NotChild)
    ∷ (not (signs tests (Some exit.owner) spend), BadSignature)
    ∷ []
    )

-- a spend of the exit's parent in a block before the exit's
abbrev pub between_causes : Tests → List RootCall → Exit → ℕ → Option SignedTx → List Cause
between_causes tests log exit block spend =
    (
    (is_over log exit.start CHALLENGE_WINDOW, Late)
    ∷ ((exit.parent == 0) || not (is_committed_between log exit.parent exit.block block), BadBlock)
    ∷ shows_none spend
    ∷ (not (spends exit.parent spend), NotChild)
    ∷ (not (signs tests (Some exit.parent_owner) spend), BadSignature)
    ∷ []
    )

-- what may challenge an exit: the deposit, or a committed block after it, before the exit's parent
abbrev pub is_before_parent : List RootCall → Option CoinView → Exit → Shown → Bool
is_before_parent log None exit shown = false
is_before_parent log (Some coin) exit (AtDeposit block) = (block == coin.deposit) && nat_lt coin.deposit exit.parent
is_before_parent log (Some coin) exit (Spend opening) = is_committed_between log coin.deposit exit.parent opening.block

-- something before the exit's parent, that no challenge of this exit named
abbrev pub before_causes : List RootCall → ℕ → ℕ → Exit → Shown → Option Owner → List Cause
before_causes log account c exit shown owner =
    (
    (is_over log exit.start CHALLENGE_WINDOW, Late)
    ∷ (not (is_before_parent log (coin_at log c) exit shown), BadBlock)
    ∷ shows_none owner
    ∷ (is_some (challenge_at (block_of shown) exit.challenges), ChallengeStands)
    ∷ too_poor log account CHALLENGE_BOND
    ∷ []
    )

-- block n is a committed one after the challenged block, and at most the exit's parent
abbrev pub may_respond_at : List RootCall → ℕ → ℕ → ℕ → Bool
may_respond_at log challenged parent n = is_committed_after log challenged n && nat_le n parent

-- a spend of what the challenge showed
abbrev pub respond_causes : Tests → List RootCall → Exit → Challenge → ℕ → Option SignedTx → List Cause
respond_causes tests log exit challenge block spend =
    (
    (challenge.answered, Answered)
    ∷ (is_over log challenge.at RESPONSE_WINDOW, Late)
    ∷ (not (may_respond_at log challenge.block exit.parent block), BadBlock)
    ∷ shows_none spend
    ∷ (not (spends challenge.block spend), NotChild)
    ∷ (not (signs tests (Some challenge.owner) spend), BadSignature)
    ∷ []
    )

-- ---- the end of an exit

abbrev pub finish_causes : List RootCall → Exit → List Cause
finish_causes log exit = (nat_lt (now log) (exit.start + EXIT_PERIOD), Early (exit.start + EXIT_PERIOD)) ∷ []

-- an exit is paid where no challenge of it is open and its coin isn't withdrawn
abbrev pub is_payable : List RootCall → ℕ → Exit → Bool
is_payable log c exit = has_no_open_challenge (Some exit) && not (is_withdrawn log c)

abbrev pub finish_effect : List RootCall → ℕ → Exit → Answer
finish_effect log c exit = if is_payable log c exit then Paid else Dropped

-- ---- the table

-- the answer of a coin that may not be there, and of an exit and a challenge that may not be
abbrev pub where_coin : Option CoinView → (CoinView → Answer) → Answer
where_coin None answer = Refused NoCoin
where_coin (Some coin) answer = answer coin

abbrev pub where_exit : Option Exit → (Exit → Answer) → Answer
where_exit None answer = Refused NoExit
where_exit (Some exit) answer = answer exit

abbrev pub where_challenged : Option Challenge → (Challenge → Answer) → Answer
where_challenged None answer = Refused NoChallenge
where_challenged (Some challenge) answer = answer challenge

-- the answer to a call after these calls
unfoldable pub answer_to : Tests → Rules → List RootCall → RootCall → Answer
answer_to tests rules log (Fund account amount) = decided (fund_causes log amount) Funded
answer_to tests rules log (Tick time) = decided (tick_causes log time) Ticked
answer_to tests rules log (Deposit account amount key) =
    decided (deposit_causes rules log account amount key) (Deposited (coins log + 1) (blocks log + 1))
answer_to tests rules log (Commit account root) = decided (commit_causes rules log account) (Committed (blocks log + 1))
answer_to tests rules log (StartDeposit account c block) =
    where_coin (coin_at log c)
    (λ coin. decided (start_deposit_causes log account c block coin) (Started (now log + EXIT_PERIOD)))
answer_to tests rules log (StartSpend account c parent exit) =
    where_coin (coin_at log c)
    (λ coin. decided
    (start_spend_causes tests log account c parent exit.block (shown_owner tests rules log c parent)
    (shown_tx tests rules log c exit) coin)
    (Started (now log + EXIT_PERIOD)))
answer_to tests rules log (After account c exit_block spend) =
    where_exit (exit_at log c exit_block)
    (λ exit. decided (after_causes tests log exit spend.block (shown_tx tests rules log c spend)) Cancelled)
answer_to tests rules log (Between account c exit_block spend) =
    where_exit (exit_at log c exit_block)
    (λ exit. decided (between_causes tests log exit spend.block (shown_tx tests rules log c spend)) Cancelled)
answer_to tests rules log (Before account c exit_block shown) =
    where_exit (exit_at log c exit_block)
    (λ exit. decided (before_causes log account c exit shown (shown_owner tests rules log c shown))
    (Challenged (now log + RESPONSE_WINDOW)))
answer_to tests rules log (Respond account c exit_block challenged spend) =
    where_exit (exit_at log c exit_block)
    (λ exit. where_challenged (challenge_at challenged exit.challenges)
    (λ challenge. decided (respond_causes tests log exit challenge spend.block (shown_tx tests rules log c spend))
    Responded))
answer_to tests rules log (Finish account c exit_block) =
    where_exit (exit_at log c exit_block) (λ exit. decided (finish_causes log exit) (finish_effect log c exit))

-- the call was accepted
abbrev pub is_accepted : Answer → Bool
is_accepted (Refused why) = false
is_accepted NoMemory = false
is_accepted effect = true

-- the log after the call: an accepted call is appended, a refused one changes nothing
unfoldable pub log_after : Tests → Rules → List RootCall → RootCall → List RootCall
log_after tests rules log call = if is_accepted (answer_to tests rules log call) then call ∷ log else log

-- each call of the log was accepted after those before it, under some tests, which may differ from call to call: so
-- it is of a contract, whichever digest each of its calls was handed
unfoldable pub IsLegal : Rules → List RootCall → Type 0
IsLegal rules [] = Unit {0}
IsLegal rules (call ∷ log) =
    ((tests : Tests) × (is_accepted (answer_to tests rules log call) ≡ true)) × IsLegal rules log
