-- Small lists of events on which it is computed which ticks go unseen. On most of them nobody attends the tick.
use Rattle.world_laws.proofs.Basics.{◌≡◌, Bool, true, false, List, [], ◌∷◌, refl}
use Rattle.world_laws.proofs.CoinWords.{AtDeposit, Spend, Fund, Tick, StartSpend, After, Between, Before, Respond, now, blocks, coins, coin_at, responses, exits, exit_at, is_withdrawn}
use Rattle.world_laws.proofs.WorldWords.{Event, Joins, Bounces, Guards, Releases, Binds, Watches, Other, log_of, wallet_owner, accepted, bound_by, taken_back, not_taken, guarded_by, watchers, holds, is_quiet, is_guarded, is_attended, has_look, is_looked_after, has_recent_look, is_looked_often}
use Rattle.world_laws.proofs.Samples.{bundle, blank, sends, spend, deposited, received, started}
use Rattle.world_laws.proofs.OwnExitSamples.{own_started, challenged, answered}

-- the tick that ends the window of the exit at block 5 was attended, and didn't go unseen
pub record Seen : Type 0 where
  pub attended : Bool
  pub looked : Bool

abbrev pub seen_at : List Event → Seen
seen_at events = record {
  attended = is_attended (Joins (Tick 604800) ∷ events) 1 1 1;
  looked = is_looked_after (Joins (Tick 604800) ∷ events) 1 1 1;
}

-- ---- another account's exit

-- nobody watched
pub nobody-looked : seen_at started ≡ record { attended = false; looked = false }
unfolding is_looked_after has_look is_attended is_guarded is_quiet guarded_by watchers holds log_of wallet_owner
    accepted bound_by taken_back not_taken now blocks coins coin_at responses exits exit_at is_withdrawn
nobody-looked = refl

-- the wallet watched, and nothing was due
pub watch-looked : seen_at (Watches 1 [] ∷ started) ≡ record { attended = true; looked = true }
unfolding is_looked_after has_look is_attended is_guarded is_quiet guarded_by watchers holds log_of wallet_owner
    accepted bound_by taken_back not_taken now blocks coins coin_at responses exits exit_at is_withdrawn
watch-looked = refl

-- since then strangers made calls, another exit of the coin began, time passed, and the wallet crashed
abbrev pub busy : List Event
busy =
    Joins (Fund 40 1)
    ∷ Joins (StartSpend 30 1 (AtDeposit 1) (blank 6))
    ∷ Joins (Tick 604799)
    ∷ Other 1
    ∷ Watches 1 []
    ∷ started

pub busy-looked : seen_at busy ≡ record { attended = false; looked = true }
unfolding is_looked_after has_look is_attended is_guarded is_quiet guarded_by watchers holds log_of wallet_owner
    accepted bound_by taken_back not_taken now blocks coins coin_at responses exits exit_at is_withdrawn
busy-looked = refl

-- it watched before the exit began
pub early-looked-not : seen_at (Joins (StartSpend 30 1 (AtDeposit 1) (blank 5)) ∷ Watches 1 [] ∷ deposited)
    ≡ record { attended = false; looked = false }
unfolding is_looked_after has_look is_attended is_guarded is_quiet guarded_by watchers holds log_of wallet_owner
    accepted bound_by taken_back not_taken now blocks coins coin_at responses exits exit_at is_withdrawn
early-looked-not = refl

-- it watched, then the exit ended and began anew
pub anew-looked-not :
    seen_at (Joins (StartSpend 30 1 (AtDeposit 1) (blank 5)) ∷ Joins (After 21 1 5 spend) ∷ Watches 1 [] ∷ started)
    ≡ record { attended = false; looked = false }
unfolding is_looked_after has_look is_attended is_guarded is_quiet guarded_by watchers holds log_of wallet_owner
    accepted bound_by taken_back not_taken now blocks coins coin_at responses exits exit_at is_withdrawn
anew-looked-not = refl

-- it was offered a challenge of the exit, which nobody made; then which a stranger made; which a stranger made at
-- another block; which was refused
abbrev pub offered_before : List Event
offered_before = Watches 1 (Before 21 1 5 (AtDeposit 1) ∷ []) ∷ started

pub unfulfilled-looked-not : seen_at offered_before ≡ record { attended = false; looked = false }
unfolding is_looked_after has_look is_attended is_guarded is_quiet guarded_by watchers holds log_of wallet_owner
    accepted bound_by taken_back not_taken now blocks coins coin_at responses exits exit_at is_withdrawn
unfulfilled-looked-not = refl

pub fulfilled-looked : seen_at (Joins (Before 40 1 5 (AtDeposit 1)) ∷ offered_before)
    ≡ record { attended = false; looked = true }
unfolding is_looked_after has_look is_attended is_guarded is_quiet guarded_by watchers holds log_of wallet_owner
    accepted bound_by taken_back not_taken now blocks coins coin_at responses exits exit_at is_withdrawn
fulfilled-looked = refl

pub elsewhere-looked-not : seen_at (Joins (Before 40 1 5 (Spend (blank 2))) ∷ offered_before)
    ≡ record { attended = false; looked = false }
unfolding is_looked_after has_look is_attended is_guarded is_quiet guarded_by watchers holds log_of wallet_owner
    accepted bound_by taken_back not_taken now blocks coins coin_at responses exits exit_at is_withdrawn
elsewhere-looked-not = refl

pub refused-looked-not : seen_at (Bounces (Before 21 1 5 (AtDeposit 1)) ∷ offered_before)
    ≡ record { attended = false; looked = false }
unfolding is_looked_after has_look is_attended is_guarded is_quiet guarded_by watchers holds log_of wallet_owner
    accepted bound_by taken_back not_taken now blocks coins coin_at responses exits exit_at is_withdrawn
refused-looked-not = refl

-- what it was offered against another exit doesn't matter for this one
pub other-offer-looked : seen_at (Watches 1 (After 21 1 6 spend ∷ Between 21 2 5 spend ∷ []) ∷ started)
    ≡ record { attended = false; looked = true }
unfolding is_looked_after has_look is_attended is_guarded is_quiet guarded_by watchers holds log_of wallet_owner
    accepted bound_by taken_back not_taken now blocks coins coin_at responses exits exit_at is_withdrawn
other-offer-looked = refl

-- an earlier watch looked too; a later one, with an offer that nobody fulfilled, doesn't undo that
pub twice-looked : seen_at (Watches 1 (Before 21 1 5 (AtDeposit 1) ∷ []) ∷ Watches 1 [] ∷ started)
    ≡ record { attended = false; looked = true }
unfolding is_looked_after has_look is_attended is_guarded is_quiet guarded_by watchers holds log_of wallet_owner
    accepted bound_by taken_back not_taken now blocks coins coin_at responses exits exit_at is_withdrawn
twice-looked = refl

-- a watcher with a guard of the coin watched, and let the coin go later; one with a guard of another tip, or that took
-- up the guard later, or without a guard, didn't look
pub guard-looked : seen_at (Releases 2 1 1 ∷ Watches 2 [] ∷ Guards 2 (bundle 1 1) ∷ started)
    ≡ record { attended = false; looked = true }
unfolding is_looked_after has_look is_attended is_guarded is_quiet guarded_by watchers holds log_of wallet_owner
    accepted bound_by taken_back not_taken now blocks coins coin_at responses exits exit_at is_withdrawn
guard-looked = refl

pub other-guard-looked-not : seen_at (Watches 2 [] ∷ Guards 2 (bundle 1 2) ∷ started)
    ≡ record { attended = false; looked = false }
unfolding is_looked_after has_look is_attended is_guarded is_quiet guarded_by watchers holds log_of wallet_owner
    accepted bound_by taken_back not_taken now blocks coins coin_at responses exits exit_at is_withdrawn
other-guard-looked-not = refl

pub late-guard-looked-not : seen_at (Guards 2 (bundle 1 1) ∷ Watches 2 [] ∷ started)
    ≡ record { attended = false; looked = false }
unfolding is_looked_after has_look is_attended is_guarded is_quiet guarded_by watchers holds log_of wallet_owner
    accepted bound_by taken_back not_taken now blocks coins coin_at responses exits exit_at is_withdrawn
late-guard-looked-not = refl

pub no-guard-looked-not : seen_at (Watches 2 [] ∷ started) ≡ record { attended = false; looked = false }
unfolding is_looked_after has_look is_attended is_guarded is_quiet guarded_by watchers holds log_of wallet_owner
    accepted bound_by taken_back not_taken now blocks coins coin_at responses exits exit_at is_withdrawn
no-guard-looked-not = refl

-- the coin isn't held, so that nobody needs to look
pub not-held-looked : seen_at (Binds 1 (sends 1) ∷ started) ≡ record { attended = true; looked = true }
unfolding is_looked_after has_look is_attended is_guarded is_quiet guarded_by watchers holds log_of wallet_owner
    accepted bound_by taken_back not_taken now blocks coins coin_at responses exits exit_at is_withdrawn
not-held-looked = refl

-- ---- the own exit

-- nobody needs to look before the end of its window
pub own-looked : seen_at own_started ≡ record { attended = false; looked = true }
unfolding is_looked_after has_look is_attended is_guarded is_quiet guarded_by watchers holds log_of wallet_owner
    accepted bound_by taken_back not_taken now blocks coins coin_at responses exits exit_at is_withdrawn
own-looked = refl

-- the tick that ends the time to answer the challenge of the exit at the tip, which is block 3
abbrev pub answer_seen_at : List Event → Seen
answer_seen_at events = record {
  attended = is_attended (Joins (Tick 302400) ∷ events) 1 1 3;
  looked = is_looked_after (Joins (Tick 302400) ∷ events) 1 1 3;
}

-- nobody looked after the challenge; the challenge came after the watch
pub challenged-looked-not : answer_seen_at challenged ≡ record { attended = false; looked = false }
unfolding is_looked_after has_look is_attended is_guarded is_quiet guarded_by watchers holds log_of wallet_owner
    accepted bound_by taken_back not_taken now blocks coins coin_at responses exits exit_at is_withdrawn
challenged-looked-not = refl

pub late-challenge-looked-not : answer_seen_at (Joins (Before 40 1 3 (AtDeposit 1)) ∷ Watches 1 []
    ∷ Joins (StartSpend 21 1 (Spend (blank 2)) (blank 3)) ∷ received) ≡ record { attended = false; looked = false }
unfolding is_looked_after has_look is_attended is_guarded is_quiet guarded_by watchers holds log_of wallet_owner
    accepted bound_by taken_back not_taken now blocks coins coin_at responses exits exit_at is_withdrawn
late-challenge-looked-not = refl

-- the wallet watched after it, and a stranger's call came later; it was offered the answer, which nobody gave
pub challenged-looked : answer_seen_at (Joins (Fund 40 1) ∷ Watches 1 [] ∷ challenged)
    ≡ record { attended = false; looked = true }
unfolding is_looked_after has_look is_attended is_guarded is_quiet guarded_by watchers holds log_of wallet_owner
    accepted bound_by taken_back not_taken now blocks coins coin_at responses exits exit_at is_withdrawn
challenged-looked = refl

pub unanswered-looked-not : answer_seen_at (Watches 1 (Respond 21 1 3 1 spend ∷ []) ∷ challenged)
    ≡ record { attended = false; looked = false }
unfolding is_looked_after has_look is_attended is_guarded is_quiet guarded_by watchers holds log_of wallet_owner
    accepted bound_by taken_back not_taken now blocks coins coin_at responses exits exit_at is_withdrawn
unanswered-looked-not = refl

-- an answered challenge has no deadline
pub answered-looked : answer_seen_at answered ≡ record { attended = true; looked = true }
unfolding is_looked_after has_look is_attended is_guarded is_quiet guarded_by watchers holds log_of wallet_owner
    accepted bound_by taken_back not_taken now blocks coins coin_at responses exits exit_at is_withdrawn
answered-looked = refl

-- ---- looking often

-- the tick to 302399, and that to 302400, stand within 302400 seconds of these looks at time 0
pub record Often : Type 0 where
  pub inside : Bool
  pub past : Bool

abbrev pub often_at : List Event → Often
often_at events = record {
  inside = is_looked_often (Joins (Tick 302399) ∷ events) 1 1 1;
  past = is_looked_often (Joins (Tick 302400) ∷ events) 1 1 1;
}

pub watch-often : often_at (Watches 1 [] ∷ started) ≡ record { inside = true; past = false }
unfolding is_looked_often has_recent_look guarded_by holds log_of wallet_owner accepted bound_by taken_back not_taken
    now blocks coins coin_at responses exits exit_at is_withdrawn
watch-often = refl

pub nobody-often : often_at started ≡ record { inside = false; past = false }
unfolding is_looked_often has_recent_look guarded_by holds log_of wallet_owner accepted bound_by taken_back not_taken
    now blocks coins coin_at responses exits exit_at is_withdrawn
nobody-often = refl

-- a look before the exit began counts, since the exit can't end so soon
pub early-often : often_at (Joins (StartSpend 30 1 (AtDeposit 1) (blank 5)) ∷ Watches 1 [] ∷ deposited)
    ≡ record { inside = true; past = false }
unfolding is_looked_often has_recent_look guarded_by holds log_of wallet_owner accepted bound_by taken_back not_taken
    now blocks coins coin_at responses exits exit_at is_withdrawn
early-often = refl

-- what it was offered for the coin was not fulfilled; then it was
pub unfulfilled-often : often_at offered_before ≡ record { inside = false; past = false }
unfolding is_looked_often has_recent_look guarded_by holds log_of wallet_owner accepted bound_by taken_back not_taken
    now blocks coins coin_at responses exits exit_at is_withdrawn
unfulfilled-often = refl

pub fulfilled-often : often_at (Joins (Before 40 1 5 (AtDeposit 1)) ∷ offered_before)
    ≡ record { inside = true; past = false }
unfolding is_looked_often has_recent_look guarded_by holds log_of wallet_owner accepted bound_by taken_back not_taken
    now blocks coins coin_at responses exits exit_at is_withdrawn
fulfilled-often = refl

-- while no exit of the coin stands, nobody needs to look
pub quiet-often : often_at deposited ≡ record { inside = true; past = true }
unfolding is_looked_often has_recent_look guarded_by holds log_of wallet_owner accepted bound_by taken_back not_taken
    now blocks coins coin_at responses exits exit_at is_withdrawn
quiet-often = refl
