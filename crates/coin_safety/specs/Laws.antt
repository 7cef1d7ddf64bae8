-- What holds of the calls and the words.
use Rattle.std.specs.Prelude.{◌≡◌, ◌≢◌, ◌⊎◌, ℕ, nat_lt, ◌+◌, ◌-◌, ◌<◌, ◌≤◌, ◌==◌, ◌&&◌, Bool, true, false, List, [], ◌∷◌, ◌++◌, map, Some, None}
use Rattle.std.specs.List.{Contains, flat_map, sum_by}
use Rattle.std.specs.Option.{option_map}
use Rattle.plasma_tx.specs.declared.call.RootCall.{RootCall}
use Rattle.plasma_tx.specs.declared.call.RootCall.TheVariants.{After, Between, Before, Finish}
use Rattle.plasma_tx.specs.declared.views.ExitView.{ExitView}
use Rattle.plasma_tx.specs.declared.rules.TheConstants.{CHALLENGE_WINDOW, RESPONSE_WINDOW, EXIT_PERIOD}
use Rattle.plasma_tx.specs.Money.{balance_of}
use Rattle.plasma_tx.specs.Shown.{Tests, Rules}
use Rattle.plasma_tx.specs.Table.{answer_to, is_accepted}
use Rattle.plasma_tx.specs.Views.{now, exit_at, has_no_open_challenge, is_withdrawn}
use Rattle.coin_history.specs.declared.bundle.Bundle.{Bundle}
use Rattle.coin_history.specs.History.{IsHistory}
use Rattle.watch_duty.specs.Duty.{due_for, due_of}
use Rattle.watch_duty.specs.Laws.{IsLegalBy, HaveOneLeaf, openings_of_call}
use Rattle.coin_safety.specs.declared.kept.Kept.{Kept}
use Rattle.coin_safety.specs.declared.word.Word.{Word}
use Rattle.coin_safety.specs.declared.word.Word.TheVariants.{Safe, Act, Sent, Leaving, Paid, Gone, Late, Frozen, Stale}
use Rattle.coin_safety.specs.Numbers.{later}
use Rattle.coin_safety.specs.Advice.{standing, tip, holder, shown_again, start_of, may_leave, timed, calls_of, takes, missing}
use Rattle.coin_safety.specs.Words.{next_line, starter, ends_of, end_of_call, left_leaf, word_of}

-- ---- the calls

-- the call cancels the exit of coin c at block e
abbrev pub is_cancel : ℕ → ℕ → RootCall → Bool
is_cancel c e (After account coin exit spend) = (coin == c) && (exit == e)
is_cancel c e (Between account coin exit spend) = (coin == c) && (exit == e)
is_cancel c e call = false

-- The call is among these. In place of a Before there may be one that cancels its exit.
abbrev pub IsMet : List RootCall → RootCall → Type 0
IsMet calls (Before account c e shown) =
    Contains calls (Before account c e shown)
    ⊎ ((other : RootCall) × Contains calls other × (is_cancel c e other ≡ true))
IsMet calls call = Contains calls call

-- Each call that is due for a coin that wasn't signed away is among those that are advised, or one of these does
-- better.
abbrev pub NothingDueIsLeftOut : Type 0
NothingDueIsLeftOut = (log : List RootCall) (account : ℕ) (kept : Kept) (call : RootCall) → kept.sent ≡ None
    → Contains (due_of log account (record { links = kept.links })) call → IsMet (calls_of log account kept) call

-- the account's balance is less than what the call takes
abbrev pub is_poor : List RootCall → ℕ → RootCall → Bool
is_poor log account call = nat_lt (balance_of log account) (takes call)

-- Each call that is advised for the history of a coin is accepted, unless it takes money that isn't there, in a log of
-- calls that were accepted under these tests, where no two openings of that history and of the log's calls of the coin
-- show two leaves of one root.
abbrev pub ActsAreAccepted : Type 0
ActsAreAccepted = (tests : Tests) (rules : Rules) (log : List RootCall) (account : ℕ) (bundle : Bundle) (kept : Kept)
    (call : RootCall)
    → IsLegalBy tests rules log → IsHistory tests rules log bundle kept.links
    → HaveOneLeaf tests log bundle.coin (flat_map (openings_of_call bundle.coin) log ++ bundle.openings)
    → Contains (calls_of log account kept) call
    → is_poor log account call ≡ false → is_accepted (answer_to tests rules log call) ≡ true

-- ---- money

-- the log with these calls entered, one after the other
unfoldable pub with_calls : List RootCall → List RootCall → List RootCall
with_calls log [] = log
with_calls log (call ∷ calls) = with_calls (call ∷ log) calls

-- Who has what calls take together has what each takes, when its turn comes: what the others do meanwhile takes no
-- more.
abbrev pub EnoughIsEnough : Type 0
EnoughIsEnough = (log : List RootCall) (account : ℕ) (earlier : List RootCall) (call : RootCall)
    (after : List RootCall)
    → sum_by takes (earlier ++ call ∷ after) ≤ balance_of log account
    → takes call ≤ balance_of (with_calls log earlier) account

-- So where no money is missing, none is when the turn of a call comes.
abbrev pub NoneIsPoor : Type 0
NoneIsPoor = (log : List RootCall) (account : ℕ) (calls earlier : List RootCall) (call : RootCall)
    (after : List RootCall)
    → missing log account calls ≡ 0 → calls ≡ earlier ++ call ∷ after
    → is_poor (with_calls log earlier) account call ≡ false

-- ---- the words

-- the coin wasn't signed away, and isn't paid out
abbrev pub IsHere : List RootCall → Kept → Type 0
IsHere log kept = (kept.sent ≡ None) × (is_withdrawn log kept.links.coin ≡ false)

-- the ends of the windows of the coin's exits
abbrev pub ends : List RootCall → Kept → List ℕ
ends log kept = flat_map (ends_of (tip kept)) (standing log kept)

-- none of them has come by that clock
abbrev pub AreAhead : List RootCall → ℕ → Kept → Type 0
AreAhead log clock kept = (end : ℕ) → Contains (ends log kept) end → clock < end

-- the number is among these, and none of them is less
pub record IsFirst (numbers : List ℕ) (first : ℕ) : Type 0 where
  pub among : Contains numbers first
  pub no_less : (n : ℕ) → Contains numbers n → first ≤ n

-- nothing is due for any exit of the coin, and nothing is shown again
pub record NothingIsDue (log : List RootCall) (account : ℕ) (kept : Kept) : Type 0 where
  pub due : (exit : ExitView) → Contains (standing log kept) exit → due_for log account kept.links exit ≡ []
  pub again : shown_again log account kept ≡ []

-- Nothing is due, but the operator hides a block from the holder, who may leave: his start is advised, at once.
pub record IsToLeave (log : List RootCall) (account : ℕ) (kept : Kept) (by : ℕ) : Type 0 where
  pub none : NothingIsDue log account kept
  pub hidden : kept.hidden ≡ true
  pub may : may_leave log account kept ≡ true
  pub advised : Contains (calls_of log account kept) (start_of account (tip kept) kept.links)
  pub at_once : by ≡ now log

-- The time is the last second before the first window of a call that is due, or shown again, ends; or nothing is due,
-- and the holder is to leave.
abbrev pub IsActBy : List RootCall → ℕ → Kept → ℕ → Type 0
IsActBy log account kept by =
    ((end : ℕ) × IsFirst (map (end_of_call (standing log kept)) (timed log account kept)) end × (by ≡ end - 1))
    ⊎ IsToLeave log account kept by

-- The coin is here, the log is fresh by the clock, and no window ended unseen.
pub record IsFresh (log : List RootCall) (clock : ℕ) (kept : Kept) : Type 0 where
  pub here : IsHere log kept
  pub in_time : AreAhead log (now log) kept
  pub by_clock : AreAhead log clock kept
  pub young : clock ≤ now log + RESPONSE_WINDOW

-- A Finish that paid the coin stands in this line, of an exit that the account started: no challenge of it was open,
-- and the coin wasn't paid out before.
pub record IsPaidOut (log : List RootCall) (c account line : ℕ) : Type 0 where
  pub newer : List RootCall
  pub older : List RootCall
  pub by : ℕ
  pub exit : ℕ
  pub stands : log ≡ newer ++ Finish by c exit ∷ older
  pub unpaid : is_withdrawn older c ≡ false
  pub unchallenged : has_no_open_challenge (exit_at older c exit) ≡ true
  pub whose : starter (exit_at older c exit) ≡ account
  pub place : line ≡ next_line older

-- The leaf signed the coin away: the node's own; or one that an answer shows, and then the log is fresh, and nothing is
-- due.
abbrev pub IsAway : List RootCall → ℕ → ℕ → Kept → ℕ → Type 0
IsAway log account clock kept leaf =
    (option_map (λ sent. sent.leaf) kept.sent ≡ Some leaf)
    ⊎ (IsFresh log clock kept × NothingIsDue log account kept × (left_leaf log kept ≡ Some leaf))

-- what each word tells
abbrev pub Tells : List RootCall → ℕ → ℕ → Kept → Word → Type 0
Tells log account clock kept (Sent leaf) =
    IsAway log account clock kept leaf
    × ((exit : ExitView) → Contains (standing log kept) exit → exit.parent ≡ tip kept)
Tells log account clock kept Frozen =
    ((leaf : ℕ) × IsAway log account clock kept leaf)
    × ((exit : ExitView) × Contains (standing log kept) exit × (exit.parent ≢ tip kept))
Tells log account clock kept Paid = (kept.sent ≡ None) × ((line : ℕ) × IsPaidOut log kept.links.coin (holder kept) line)
Tells log account clock kept (Gone whose line) =
    (kept.sent ≡ None) × (whose ≢ holder kept) × IsPaidOut log kept.links.coin whose line
Tells log account clock kept (Late since) =
    IsHere log kept × IsFirst (ends log kept) since × (since ≤ now log)
Tells log account clock kept Stale =
    IsHere log kept × AreAhead log (now log) kept
    × ((now log + RESPONSE_WINDOW < clock) ⊎ ((end : ℕ) × Contains (ends log kept) end × (end ≤ clock)))
Tells log account clock kept (Act by money) =
    IsFresh log clock kept × IsActBy log account kept by
    × (money ≡ missing log account (calls_of log account kept))
Tells log account clock kept (Leaving opens) =
    IsFresh log clock kept × NothingIsDue log account kept
    × ((exit : ExitView) × Contains (standing log kept) exit × (exit.block ≡ tip kept)
    × (opens ≡ later exit.start EXIT_PERIOD))
    × (left_leaf log kept ≡ None)
Tells log account clock kept (Safe until) =
    IsFresh log clock kept × NothingIsDue log account kept
    × ((exit : ExitView) → Contains (standing log kept) exit → exit.block ≢ tip kept)
    × (until ≡ later (now log) (CHALLENGE_WINDOW - 1))
    × (left_leaf log kept ≡ None)
    × (kept.hidden ≡ true → may_leave log account kept ≡ false)

-- each word tells what it says
abbrev pub WordsTell : Type 0
WordsTell = (log : List RootCall) (account clock : ℕ) (kept : Kept)
    → Tells log account clock kept (word_of log account clock kept)
