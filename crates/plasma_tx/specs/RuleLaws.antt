-- What holds of every list of calls.
use Rattle.std.specs.Prelude.{◌≡◌, ◌⊎◌, ◌↔◌, ℕ, ◌+◌, ◌≤◌, ◌==◌, ◌&&◌, ◌||◌, Bool, true, false, List, [], ◌∷◌, Some, None}
use Rattle.std.specs.List.{AllByRecursion}
use Rattle.plasma_tx.specs.{declared.rules.TheConstants.{LAST_TIME, MOST_MONEY}, declared.owner.Owner.{Owner}, declared.opening.RawOpening.{RawOpening}, declared.signed_tx.SignedTx.{SignedTx}, declared.call.Shown.{Shown}}
use Rattle.plasma_tx.specs.{declared.call.RootCall.{RootCall}, declared.call.RootCall.TheVariants.{Fund, Tick, Deposit, Commit, StartDeposit, StartSpend, After, Between, Before, Respond, Finish}, declared.answer.Answer.{Answer}}
use Rattle.plasma_tx.specs.{declared.answer.Answer.TheVariants.{Paid, Refused}, declared.answer.Refusal.{Refusal}, Views.{now, Exit, exits, exit_at, owner_of, is_withdrawn}, Shown.{Tests, Rules, shown_tx, shown_owner}}
use Rattle.plasma_tx.specs.{Table.{answer_to, is_accepted, is_payable, log_after, IsLegal}, Money.{sum_below, share_of, takes, releases, balance_of, held_of, held, funded, AccountsBelow}}
use Rattle.plasma_tx.specs.Accepted.{ShowsTx, Deposits, Commits, StartsDeposit, StartsSpend, CancelsAfter, CancelsBetween, Challenges, Responds, Finishes}

-- ---- legal logs

-- the log after these calls, the first of them first, each under its own tests
unfoldable pub log_after_all : Rules → List RootCall → List (Tests × RootCall) → List RootCall
log_after_all rules log [] = log
log_after_all rules log (call ∷ calls) = log_after_all rules (log_after call.0 rules log call.1) calls

-- whatever calls come, the log is one of accepted calls
abbrev pub LogsAreLegal : Type 0
LogsAreLegal = (rules : Rules) (calls : List (Tests × RootCall)) → IsLegal rules (log_after_all rules [] calls)

-- ---- money

-- no money is made or lost: the balances of the first n accounts, with what is held, are all that was funded
abbrev pub MoneyIsKept : Type 0
MoneyIsKept = (rules : Rules) (n : ℕ) (log : List RootCall) → IsLegal rules log → AccountsBelow n log
    → sum_below (balance_of log) n + held log ≡ funded log

-- what is held of the first n accounts is all that is held: the coins that aren't withdrawn, and the bonds of
-- standing exits
abbrev pub HeldIsOfAccounts : Type 0
HeldIsOfAccounts = (rules : Rules) (n : ℕ) (log : List RootCall) → IsLegal rules log → AccountsBelow n log
    → sum_below (held_of log) n ≡ held log

-- no balance is overdrawn: what an accepted call takes from an account, the account had
abbrev pub BalancesSuffice : Type 0
BalancesSuffice = (rules : Rules) (log : List RootCall) (call : RootCall) (account : ℕ)
    → IsLegal rules (call ∷ log) → share_of account (takes call) ≤ balance_of log account

-- what an accepted call lets go of what is held of an account was held of it
abbrev pub HeldSuffices : Type 0
HeldSuffices = (rules : Rules) (log : List RootCall) (call : RootCall) (account : ℕ)
    → IsLegal rules (call ∷ log) → share_of account (releases log call) ≤ held_of log account

-- one balance, with all that is held, is no more than all that was funded, and that is at most 2 ^ 62
abbrev pub BalancesAreCovered : Type 0
BalancesAreCovered = (rules : Rules) (log : List RootCall) (account : ℕ) → IsLegal rules log
    → (balance_of log account + held log ≤ funded log) × (funded log ≤ MOST_MONEY)

-- ---- bounds

-- the clock keeps its limit, and no exit or challenge is from a time that the clock hasn't shown
abbrev pub IsDatedBy : ℕ → Exit → Type 0
IsDatedBy time exit = (exit.start ≤ time) × AllByRecursion (λ challenge. challenge.at ≤ time) exit.challenges

abbrev pub TimesAreBounded : Type 0
TimesAreBounded = (rules : Rules) (log : List RootCall) → IsLegal rules log
    → (now log ≤ LAST_TIME) × AllByRecursion (IsDatedBy (now log)) (exits log)

-- the account that started a standing exit is its owner's
abbrev pub ExitsAreTheirOwners : Type 0
ExitsAreTheirOwners = (rules : Rules) (log : List RootCall) (c e : ℕ) (exit : Exit) → IsLegal rules log
    → exit_at log c e ≡ Some exit → exit.account ≡ exit.owner.account

-- ---- what accepted calls show

-- an opening that shows a transfer opens its block's root, and its leaf spells the transfer
abbrev pub OpeningsShow : Type 0
OpeningsShow = (tests : Tests) (rules : Rules) (log : List RootCall) (c : ℕ) (opening : RawOpening) (tx : SignedTx)
    → shown_tx tests rules log c opening ≡ Some tx → ShowsTx tests rules log c opening tx

-- and an opening that opens its block's root, and whose leaf spells a transfer, shows that transfer
abbrev pub TransfersAreShown : Type 0
TransfersAreShown = (tests : Tests) (rules : Rules) (log : List RootCall) (c : ℕ) (opening : RawOpening) (tx : SignedTx)
    → ShowsTx tests rules log c opening tx → shown_tx tests rules log c opening ≡ Some tx

-- the owner that is shown is the one that the views read, by the bytes alone
abbrev pub OwnersAreRead : Type 0
OwnersAreRead = (tests : Tests) (rules : Rules) (log : List RootCall) (c : ℕ) (shown : Shown) (owner : Owner)
    → shown_owner tests rules log c shown ≡ Some owner → owner_of log c shown ≡ owner

-- what each kind of accepted call shows
abbrev pub Shows : Tests → Rules → List RootCall → RootCall → Type 0
Shows tests rules log (Fund account amount) = funded log + amount ≤ MOST_MONEY
Shows tests rules log (Tick time) = (now log ≤ time) × (time ≤ LAST_TIME)
Shows tests rules log (Deposit account amount key) = Deposits rules log account amount key
Shows tests rules log (Commit account root) = Commits rules log account
Shows tests rules log (StartDeposit account c block) = StartsDeposit log account c block
Shows tests rules log (StartSpend account c parent exit) = StartsSpend tests rules log account c parent exit
Shows tests rules log (After account c exit_block spend) = CancelsAfter tests rules log c exit_block spend
Shows tests rules log (Between account c exit_block spend) = CancelsBetween tests rules log c exit_block spend
Shows tests rules log (Before account c exit_block shown) = Challenges tests rules log account c exit_block shown
Shows tests rules log (Respond account c exit_block challenged spend) =
    Responds tests rules log c exit_block challenged spend
Shows tests rules log (Finish account c exit_block) = Finishes log c exit_block

-- an accepted call shows what its kind has to show
abbrev pub AcceptedCallsShow : Type 0
AcceptedCallsShow = (tests : Tests) (rules : Rules) (log : List RootCall) (call : RootCall)
    → is_accepted (answer_to tests rules log call) ≡ true → Shows tests rules log call

-- and a call that shows what its kind has to show is accepted
abbrev pub ShownCallsAreAccepted : Type 0
ShownCallsAreAccepted = (tests : Tests) (rules : Rules) (log : List RootCall) (call : RootCall)
    → Shows tests rules log call → is_accepted (answer_to tests rules log call) ≡ true

-- each answer accepts the call or refuses it; none is want of memory
abbrev pub AnswersDecide : Type 0
AnswersDecide = (tests : Tests) (rules : Rules) (log : List RootCall) (call : RootCall)
    → (is_accepted (answer_to tests rules log call) ≡ true)
    ⊎ ((why : Refusal) × (answer_to tests rules log call ≡ Refused why))

-- ---- exits

-- the call names the exit of coin c at block e
abbrev pub is_of_exit : ℕ → ℕ → RootCall → Bool
is_of_exit c e (StartDeposit account coin block) = (coin == c) && (block == e)
is_of_exit c e (StartSpend account coin parent exit) = (coin == c) && (exit.block == e)
is_of_exit c e (After account coin exit spend) = (coin == c) && (exit == e)
is_of_exit c e (Between account coin exit spend) = (coin == c) && (exit == e)
is_of_exit c e (Before account coin exit shown) = (coin == c) && (exit == e)
is_of_exit c e (Respond account coin exit challenged spend) = (coin == c) && (exit == e)
is_of_exit c e (Finish account coin exit) = (coin == c) && (exit == e)
is_of_exit c e call = false

-- the call cancels or finishes an exit
abbrev pub is_last : RootCall → Bool
is_last (After account coin exit spend) = true
is_last (Between account coin exit spend) = true
is_last (Finish account coin exit) = true
is_last call = false

-- only its own calls change an exit
abbrev pub OthersLeaveExits : Type 0
OthersLeaveExits = (log : List RootCall) (call : RootCall) (c e : ℕ) → is_of_exit c e call ≡ false
    → exit_at (call ∷ log) c e ≡ exit_at log c e

-- an exit leaves the standing ones only by an After, a Between or a Finish of it
abbrev pub ExitsLeaveBy : Type 0
ExitsLeaveBy = (log : List RootCall) (call : RootCall) (c e : ℕ) (exit : Exit) → exit_at log c e ≡ Some exit
    → exit_at (call ∷ log) c e ≡ None → (is_of_exit c e call ≡ true) × (is_last call ≡ true)

-- a Finish is Paid exactly where its exit stands, its period is over, no challenge of it is open and its coin isn't
-- withdrawn
abbrev pub PaidExactly : Type 0
PaidExactly = (tests : Tests) (rules : Rules) (log : List RootCall) (account c e : ℕ)
    → (answer_to tests rules log (Finish account c e) ≡ Paid)
    ↔ ((finish : Finishes log c e) × (is_payable log c finish.exit ≡ true))

-- whether an answer is Paid
abbrev pub is_paid : Answer → Bool
is_paid Paid = true
is_paid answer = false

-- the call, after these calls, is a finish of coin c that is answered Paid; no test has a say in it
abbrev pub pays_coin : Rules → List RootCall → ℕ → RootCall → Bool
pays_coin rules log c (Finish account coin exit) =
    (coin == c) && is_paid (answer_to (record { opens = λ root c opening. false; is_signed = λ tx owner. false }) rules
    log (Finish account coin exit))
pays_coin rules log c call = false

-- a finish of the coin was answered Paid
unfoldable pub was_paid : Rules → List RootCall → ℕ → Bool
was_paid rules [] c = false
was_paid rules (call ∷ log) c = pays_coin rules log c call || was_paid rules log c

-- in a log of accepted calls, a coin is withdrawn exactly where a finish of it was answered Paid
abbrev pub WithdrawnIsAnsweredPaid : Type 0
WithdrawnIsAnsweredPaid = (rules : Rules) (log : List RootCall) (c : ℕ) → IsLegal rules log
    → is_withdrawn log c ≡ was_paid rules log c
