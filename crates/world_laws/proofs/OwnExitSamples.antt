-- Small lists of events on which it is computed what becomes of a wallet's own exit.
use Rattle.world_laws.proofs.Basics.{◌&&◌, ◌≡◌, Bool, true, false, List, [], ◌∷◌, Some, None, refl}
use Rattle.world_laws.proofs.CoinWords.{AtDeposit, Spend, RootCall, Fund, Tick, Deposit, Commit, StartDeposit, StartSpend, After, Between, Before, Respond, Finish, owner_text, body_text, owner_in, body_in, signed_in, leaf_in, transfer_in, recipient_in, now, blocks, coins, block_at, coin_at, responses, exits, exit_at, is_withdrawn, Tests, shown_tx, answer_to, is_accepted, u32_at}
use Rattle.world_laws.proofs.WorldWords.{VerdictKind, Event, Declares, Joins, Bounces, Watches, Leaves, log_of, wallet_owner, accepted, bound_by, taken_back, not_taken, guarded_by, watchers, holds, is_quiet, is_guarded, is_attended, is_safe, call_harms, verdict_at, exit_was_paid, before_taking, first_unattended}
use Rattle.plasma_tx.specs.Money.{balance_of, funded, share_of, pays, takes}
use Rattle.world_laws.proofs.Samples.{key, me, rules, blank, spend, judged, deposited, received}

-- the wallet starts the deposit's exit; block 2 was committed before
abbrev pub own_started : List Event
own_started = Joins (StartDeposit 21 1 1) ∷ Joins (Commit 9 []) ∷ deposited

-- it is paid at its end, to a watching wallet: the coin is withdrawn, and no longer held
pub own-paid-judged : judged (Joins (Finish 21 1 1) ∷ Joins (Tick 907200) ∷ Watches 1 [] ∷ own_started) 1
    ≡ record { held = false; attended = true; safe = true; unattended = None; verdict = VerdictKind.Paid }
unfolding holds is_attended is_guarded is_quiet is_safe call_harms first_unattended verdict_at exit_was_paid
    before_taking answer_to guarded_by watchers block_at responses log_of wallet_owner accepted bound_by taken_back
    not_taken now blocks coins coin_at exits exit_at is_withdrawn
own-paid-judged = refl

-- nobody watched, and it is paid all the same; who finishes it doesn't matter
pub own-unwatched-judged : judged (Joins (Finish 30 1 1) ∷ Joins (Tick 907200) ∷ own_started) 1
    ≡ record { held = false; attended = false; safe = true; unattended = Some 5; verdict = VerdictKind.Paid }
unfolding holds is_attended is_guarded is_quiet is_safe call_harms first_unattended verdict_at exit_was_paid
    before_taking answer_to guarded_by watchers block_at responses log_of wallet_owner accepted bound_by taken_back
    not_taken now blocks coins coin_at exits exit_at is_withdrawn
own-unwatched-judged = refl

-- a Finish before its end is refused, and does no harm
pub own-early-judged : judged (Bounces (Finish 21 1 1) ∷ Joins (Tick 907199) ∷ Watches 1 [] ∷ own_started) 1
    ≡ record { held = true; attended = true; safe = true; unattended = None; verdict = VerdictKind.Held }
unfolding holds is_attended is_guarded is_quiet is_safe call_harms first_unattended verdict_at exit_was_paid
    before_taking answer_to guarded_by watchers block_at responses log_of wallet_owner accepted bound_by taken_back
    not_taken now blocks coins coin_at exits exit_at is_withdrawn
own-early-judged = refl

-- A spend of its block cancels it, with no tick before: attended and lost. The tests took the spend for signed, which
-- it isn't: no run has this list.
abbrev pub own_cancelled : List Event
own_cancelled = Joins (After 30 1 1 spend) ∷ own_started

pub own-cancelled-judged : judged own_cancelled 1
    ≡ record { held = true; attended = true; safe = false; unattended = None; verdict = VerdictKind.Lost }
unfolding holds is_attended is_guarded is_quiet is_safe call_harms first_unattended verdict_at exit_was_paid
    before_taking answer_to guarded_by watchers block_at responses log_of wallet_owner accepted bound_by taken_back
    not_taken now blocks coins coin_at exits exit_at is_withdrawn owner_text body_text owner_in body_in signed_in
    leaf_in transfer_in shown_tx recipient_in
own-cancelled-judged = refl

-- refused after its window, the same call does no harm
pub own-late-judged : judged (Bounces (After 30 1 1 spend) ∷ Joins (Tick 604800) ∷ Watches 1 [] ∷ own_started) 1
    ≡ record { held = true; attended = true; safe = true; unattended = None; verdict = VerdictKind.Held }
unfolding holds is_attended is_guarded is_quiet is_safe call_harms first_unattended verdict_at exit_was_paid
    before_taking answer_to guarded_by watchers block_at responses log_of wallet_owner accepted bound_by taken_back
    not_taken now blocks coins coin_at exits exit_at is_withdrawn owner_text body_text owner_in body_in signed_in
    leaf_in transfer_in shown_tx recipient_in
own-late-judged = refl

-- cancelled after a tick that met the deadline of another exit of the coin, and that nobody attended
abbrev pub own_cancelled_unwatched : List Event
own_cancelled_unwatched =
    Joins (After 30 1 1 spend)
    ∷ Joins (StartDeposit 21 1 1)
    ∷ Joins (Tick 604800)
    ∷ Joins (StartSpend 30 1 (AtDeposit 1) (blank 5))
    ∷ Joins (Commit 9 [])
    ∷ deposited

pub own-cancelled-unwatched-judged : judged own_cancelled_unwatched 1
    ≡ record { held = true; attended = false; safe = false; unattended = Some 5; verdict = VerdictKind.Unattended 5 }
unfolding holds is_attended is_guarded is_quiet is_safe call_harms first_unattended verdict_at exit_was_paid
    before_taking answer_to guarded_by watchers block_at responses log_of wallet_owner accepted bound_by taken_back
    not_taken now blocks coins coin_at exits exit_at is_withdrawn owner_text body_text owner_in body_in signed_in
    leaf_in transfer_in shown_tx recipient_in
own-cancelled-unwatched-judged = refl

-- the exit of an accepted coin, whose parent is the deposit, is cancelled by a spend of the parent in between
abbrev pub own_between : List Event
own_between = Joins (Between 30 1 3 spend) ∷ Joins (StartSpend 21 1 (AtDeposit 1) (blank 3)) ∷ received

pub own-between-judged : judged own_between 3
    ≡ record { held = true; attended = true; safe = false; unattended = None; verdict = VerdictKind.Lost }
unfolding holds is_attended is_guarded is_quiet is_safe call_harms first_unattended verdict_at exit_was_paid
    before_taking answer_to guarded_by watchers block_at responses log_of wallet_owner accepted bound_by taken_back
    not_taken now blocks coins coin_at exits exit_at is_withdrawn owner_text body_text owner_in body_in signed_in
    leaf_in transfer_in shown_tx recipient_in
own-between-judged = refl

-- the wallet starts the accepted coin's exit, whose parent is in block 2, and a stranger challenges it with the
-- deposit
abbrev pub challenged : List Event
challenged =
    Joins (Before 40 1 3 (AtDeposit 1))
    ∷ Joins (StartSpend 21 1 (Spend (blank 2)) (blank 3))
    ∷ received

-- the wallet answers the challenge
abbrev pub answered : List Event
answered = Joins (Respond 21 1 3 1 spend) ∷ challenged

-- The exit was challenged and not answered: at its end it is dropped. The wallet watched, and was offered nothing: no
-- run has this list, since openings without bytes are accepted nowhere.
pub own-dropped-judged : judged (Joins (Finish 21 1 3) ∷ Joins (Tick 907200) ∷ Watches 1 [] ∷ challenged) 3
    ≡ record { held = true; attended = true; safe = false; unattended = None; verdict = VerdictKind.Lost }
unfolding holds is_attended is_guarded is_quiet is_safe call_harms first_unattended verdict_at exit_was_paid
    before_taking answer_to guarded_by watchers block_at responses log_of wallet_owner accepted bound_by taken_back
    not_taken now blocks coins coin_at exits exit_at is_withdrawn
own-dropped-judged = refl

-- the same where nobody watched
pub own-dropped-unwatched-judged : judged (Joins (Finish 21 1 3) ∷ Joins (Tick 907200) ∷ challenged) 3
    ≡ record { held = true; attended = false; safe = false; unattended = Some 8; verdict = VerdictKind.Unattended 8 }
unfolding holds is_attended is_guarded is_quiet is_safe call_harms first_unattended verdict_at exit_was_paid
    before_taking answer_to guarded_by watchers block_at responses log_of wallet_owner accepted bound_by taken_back
    not_taken now blocks coins coin_at exits exit_at is_withdrawn
own-dropped-unwatched-judged = refl

-- the challenge was answered: the exit is paid
pub own-answered-judged : judged (Joins (Finish 21 1 3) ∷ Joins (Tick 907200) ∷ Watches 1 [] ∷ answered) 3
    ≡ record { held = false; attended = true; safe = true; unattended = None; verdict = VerdictKind.Paid }
unfolding holds is_attended is_guarded is_quiet is_safe call_harms first_unattended verdict_at exit_was_paid
    before_taking answer_to guarded_by watchers block_at responses log_of wallet_owner accepted bound_by taken_back
    not_taken now blocks coins coin_at exits exit_at is_withdrawn
own-answered-judged = refl

-- ---- calls that each contract accepts

-- each call of a log is accepted after those before it
abbrev pub are_accepted : Tests → List RootCall → Bool
are_accepted tests [] = true
are_accepted tests (call ∷ log) = is_accepted (answer_to tests rules log call) && are_accepted tests log

-- The wallet's account is funded for the deposit and the bond, and deposits; the wallet leaves, its start is entered,
-- it watches, and its exit is paid at its end.
abbrev pub left : List Event
left =
    Joins (Finish 21 1 1)
    ∷ Joins (Tick 907200)
    ∷ Watches 1 []
    ∷ Joins (StartDeposit 21 1 1)
    ∷ Leaves 1 (StartDeposit 21 1 1)
    ∷ Joins (Deposit 21 5 (key 7))
    ∷ Joins (Fund 21 105)
    ∷ Declares 1 me
    ∷ []

-- a contract accepts these calls, whatever openings and signatures pass
pub left-accepted : (tests : Tests) → are_accepted tests (log_of left) ≡ true
unfolding answer_to balance_of funded share_of pays takes u32_at block_at responses log_of wallet_owner accepted
    bound_by taken_back not_taken now blocks coins coin_at exits exit_at is_withdrawn
left-accepted tests = refl

pub left-judged : judged left 1
    ≡ record { held = false; attended = true; safe = true; unattended = None; verdict = VerdictKind.Paid }
unfolding holds is_attended is_guarded is_quiet is_safe call_harms first_unattended verdict_at exit_was_paid
    before_taking answer_to guarded_by watchers block_at responses log_of wallet_owner accepted bound_by taken_back
    not_taken now blocks coins coin_at exits exit_at is_withdrawn
left-judged = refl
