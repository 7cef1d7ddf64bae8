-- Whether a coin is safe, in a word: by the log, the account that would enter calls, the caller's clock, and what is
-- kept of the coin. The rules are tried in the order in which they stand here, and the first that speaks gives it.
use Rattle.std.specs.Prelude.{ℕ, ◌+◌, ◌-◌, ◌==◌, ◌&&◌, not, Bool, if◌then◌else◌, nat_lt, nat_le, List, [], ◌∷◌, length, Option, Some, None, unwrap_or, find, filter, map, slice_range, Result, Ok, Err}
use Rattle.std.specs.List.{list_any, flat_map}
use Rattle.std.specs.Option.{option_and_then, option_map, option_map_or, option_or}
use Rattle.std.specs.Int.{w32}
use Rattle.plasma_base.specs.Fields.{field_at}
use Rattle.plasma_tx.specs.declared.opening.RawOpening.{RawOpening}
use Rattle.plasma_tx.specs.declared.signed_tx.SignedTx.{SignedTx}
use Rattle.plasma_tx.specs.declared.signed_tx.TxRefusal.{TxRefusal}
use Rattle.plasma_tx.specs.declared.call.RootCall.{RootCall}
use Rattle.plasma_tx.specs.declared.call.RootCall.TheVariants.{After, Between, Before, Respond, Finish}
use Rattle.plasma_tx.specs.declared.views.ChallengeView.{ChallengeView}
use Rattle.plasma_tx.specs.declared.views.ExitView.{ExitView}
use Rattle.plasma_tx.specs.declared.rules.TheConstants.{CHALLENGE_WINDOW, RESPONSE_WINDOW, EXIT_PERIOD}
use Rattle.plasma_tx.specs.ChallengeLists.{is_challenged}
use Rattle.plasma_tx.specs.Openings.{leaf_in}
use Rattle.plasma_tx.specs.Spelling.{signed_in}
use Rattle.plasma_tx.specs.Views.{now, Exit, exit_at, has_no_open_challenge}
use Rattle.coin_safety.specs.declared.kept.Kept.{Kept}
use Rattle.coin_safety.specs.declared.payment.Payment.{Payment}
use Rattle.coin_safety.specs.declared.word.Word.{Word}
use Rattle.coin_safety.specs.declared.word.Word.TheVariants.{Safe, Act, Sent, Leaving, Paid, Gone, Late, Frozen, Stale}
use Rattle.coin_safety.specs.Numbers.{later, least}
use Rattle.coin_safety.specs.Advice.{standing, tip, holder, left_by, exit_in, may_leave, timed, calls_of, missing}

-- ---- sent

-- an exit that isn't of the transfer by which the coin was signed away
abbrev pub is_strange : Kept → ExitView → Bool
is_strange kept exit = not (exit.parent == tip kept)

-- The leaf signed the coin away. It can't be accepted while a strange exit of it stands.
abbrev pub away : List RootCall → Kept → ℕ → Word
away log kept leaf = if list_any (is_strange kept) (standing log kept) then Frozen else Sent leaf

-- The node signed the coin away.
abbrev pub sent_word : List RootCall → Kept → Option Word
sent_word log kept = option_map (λ sent. away log kept sent.leaf) kept.sent

-- ---- paid out

-- The line of the call that comes after these: the first line of a log's file is what the contract was made with.
abbrev pub next_line : List RootCall → ℕ
next_line log = length log + 2

-- who started the exit; 0 where it doesn't stand, in a log that no contract accepted
abbrev pub starter : Option Exit → ℕ
starter exit = option_map_or (λ it. it.account) exit 0

-- the payment by a Finish of the exit after these calls, where no challenge of it is open
abbrev pub paid_by : List RootCall → Option Exit → Option Payment
paid_by log exit =
    if has_no_open_challenge exit then Some (record { account = starter exit; line = next_line log }) else None

-- by which exit coin c was paid out: by the first Finish of an exit of it that had no open challenge
unfoldable pub payment : List RootCall → ℕ → Option Payment
payment [] c = None
payment (Finish account coin exit ∷ log) c =
    option_or (payment log c) (if coin == c then paid_by log (exit_at log coin exit) else None)
payment (call ∷ log) c = payment log c

-- The coin was paid out: to its holder, or to another.
abbrev pub paid_word : List RootCall → Kept → Option Word
paid_word log kept =
    option_map (λ paid. if paid.account == holder kept then Paid else Gone paid.account paid.line)
    (payment log kept.links.coin)

-- ---- windows that end

-- the ends of the times in which these challenges are to be answered
abbrev pub answer_ends : List ChallengeView → List ℕ
answer_ends challenges =
    map (λ challenge. later challenge.at RESPONSE_WINDOW) (filter (λ challenge. not challenge.answered) challenges)

-- When it is too late for the exit: where it is of the tip, when an open challenge of it wasn't answered in time; else
-- when its window ended, and nobody challenged it at the tip.
abbrev pub ends_of : ℕ → ExitView → List ℕ
ends_of at exit =
    if exit.block == at then answer_ends exit.challenges
    else if is_challenged at exit.challenges then []
    else later exit.start CHALLENGE_WINDOW ∷ []

-- the first of these ends
abbrev pub first_end : List RootCall → Kept → Option ℕ
first_end log kept = least (flat_map (ends_of (tip kept)) (standing log kept))

-- that end, where it has come by the clock
abbrev pub come : ℕ → Option ℕ → Option ℕ
come clock end = option_and_then (λ time. if nat_le time clock then Some time else None) end

-- A window ended unseen.
abbrev pub late_word : List RootCall → Kept → Option Word
late_word log kept = option_map Late (come (now log) (first_end log kept))

-- The log is old: it ends longer ago than a challenge may stay unanswered, or a window ended since.
abbrev pub stale_word : List RootCall → ℕ → Kept → Option Word
stale_word log clock kept =
    if nat_lt (now log + RESPONSE_WINDOW) clock then Some Stale
    else option_map (λ end. Stale) (come clock (first_end log kept))

-- ---- what is to be entered

-- from when on the challenge at the block can't be answered
abbrev pub answer_end : List ChallengeView → ℕ → ℕ
answer_end challenges block =
    option_map_or (λ challenge. later challenge.at RESPONSE_WINDOW)
    (find (λ challenge. challenge.block == block) challenges) 0

-- from when on the exit can't be cancelled or challenged
abbrev pub window_end : Option ExitView → ℕ
window_end exit = option_map_or (λ it. later it.start CHALLENGE_WINDOW) exit 0

-- from when on a call can't be entered that has to be for one of these exits
abbrev pub end_of_call : List ExitView → RootCall → ℕ
end_of_call exits (Respond account coin block challenged spend) =
    option_map_or (λ exit. answer_end exit.challenges challenged) (exit_in exits block) 0
end_of_call exits (After account coin block spend) = window_end (exit_in exits block)
end_of_call exits (Between account coin block spend) = window_end (exit_in exits block)
end_of_call exits (Before account coin block shown) = window_end (exit_in exits block)
end_of_call exits call = 0

-- Calls are due, or shown again: until the last second before the first of their windows ends.
abbrev pub due_by : List RootCall → ℕ → Kept → Option ℕ
due_by log account kept =
    option_map (λ end. end - 1) (least (map (end_of_call (standing log kept)) (timed log account kept)))

-- The operator hides a block from the holder, who had better leave at once: an exit planted there may be started at any
-- second from now on.
abbrev pub at_once : List RootCall → ℕ → Kept → Option ℕ
at_once log account kept = if may_leave log account kept && kept.hidden then Some (now log) else None

-- until when calls are to be entered
abbrev pub act_by : List RootCall → ℕ → Kept → Option ℕ
act_by log account kept = option_or (due_by log account kept) (at_once log account kept)

-- Until then, and with so much more money.
abbrev pub act_word : List RootCall → ℕ → Kept → Option Word
act_word log account kept =
    option_map (λ by. Act by (missing log account (calls_of log account kept))) (act_by log account kept)

-- ---- left

-- the leaf that a transfer was signed by, if it reads: the number that its signature begins with
abbrev pub leaf_of : Result SignedTx TxRefusal → Option ℕ
leaf_of (Err why) = None
leaf_of (Ok tx) = field_at w32 tx.signature 0

-- the leaf that signed the transfer in an opening, whatever the transfer's tag
abbrev pub signing_leaf : RawOpening → Option ℕ
signing_leaf opening = leaf_of (signed_in (slice_range (leaf_in opening.bytes) 4 36) (leaf_in opening.bytes))

-- the leaf that signed the coin away from the tip, by what an answer showed
abbrev pub left_leaf : List RootCall → Kept → Option ℕ
left_leaf log kept = option_and_then signing_leaf (left_by log kept.links.coin (tip kept))

-- An answer shows that the coin has left the tip.
abbrev pub left_word : List RootCall → Kept → Option Word
left_word log kept = option_map (away log kept) (left_leaf log kept)

-- ---- the rest

-- The holder's exit stands: from when on it may be finished.
abbrev pub leaving_word : List RootCall → Kept → Option Word
leaving_word log kept =
    option_map (λ exit. Leaving (later exit.start EXIT_PERIOD)) (exit_in (standing log kept) (tip kept))

-- Nothing is to be done: an exit that begins after this look can be met till then.
abbrev pub safe_word : List RootCall → Word
safe_word log = Safe (later (now log) (CHALLENGE_WINDOW - 1))

-- ---- all of it

abbrev pub word_of : List RootCall → ℕ → ℕ → Kept → Word
word_of log account clock kept =
    unwrap_or
    (option_or (sent_word log kept)
    (option_or (paid_word log kept)
    (option_or (late_word log kept)
    (option_or (stale_word log clock kept)
    (option_or (act_word log account kept)
    (option_or (left_word log kept)
    (leaving_word log kept)))))))
    (safe_word log)
