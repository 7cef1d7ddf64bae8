-- Small lists of events on which it is computed which ticks meet a deadline, and who attends them.
use Rattle.world_laws.proofs.Basics.{◌≡◌, Bool, true, false, List, [], ◌∷◌, refl}
use Rattle.world_laws.proofs.CoinWords.{AtDeposit, Fund, Tick, StartSpend, After, now, blocks, coins, coin_at, responses, exits, exit_at, is_withdrawn}
use Rattle.world_laws.proofs.WorldWords.{Event, Joins, Bounces, Accepts, Guards, Releases, Binds, Watches, Other, log_of, wallet_owner, accepted, bound_by, taken_back, not_taken, guarded_by, watchers, holds, is_quiet, is_guarded, is_attended, meets_deadline}
use Rattle.world_laws.proofs.Samples.{bundle, blank, sends, spend, started}
use Rattle.world_laws.proofs.OwnExitSamples.{challenged, answered}

-- ---- deadlines

-- the exit's window is over 604800 seconds after its start: a tick that ends before doesn't meet its end
pub met-not-before : meets_deadline (log_of started) 1 (Joins (Tick 604799)) ≡ false
unfolding log_of now exits responses coin_at coins blocks
met-not-before = refl

-- one to that time and one past it do
pub met-at : meets_deadline (log_of started) 1 (Joins (Tick 604800)) ≡ true
unfolding log_of now exits responses coin_at coins blocks
met-at = refl

pub met-past : meets_deadline (log_of started) 1 (Joins (Tick 907200)) ≡ true
unfolding log_of now exits responses coin_at coins blocks
met-past = refl

-- one from that time on doesn't
pub met-not-after : meets_deadline (Tick 604800 ∷ log_of started) 1 (Joins (Tick 604801)) ≡ false
unfolding log_of now exits responses coin_at coins blocks
met-not-after = refl

-- nor a tick that is refused, a call that is no tick, and a tick where another coin is asked of
pub met-not-refused : meets_deadline (log_of started) 1 (Bounces (Tick 604800)) ≡ false
unfolding log_of now exits responses coin_at coins blocks
met-not-refused = refl

pub met-not-by-fund : meets_deadline (log_of started) 1 (Joins (Fund 40 604800)) ≡ false
unfolding log_of now exits responses coin_at coins blocks
met-not-by-fund = refl

pub met-not-other : meets_deadline (log_of started) 2 (Joins (Tick 604800)) ≡ false
unfolding log_of now exits responses coin_at coins blocks
met-not-other = refl

-- an open challenge of time 0 is to be answered within 302400 seconds; an answered one has no deadline
pub challenge-met-not-before : meets_deadline (log_of challenged) 1 (Joins (Tick 302399)) ≡ false
unfolding log_of now exits responses coin_at coins blocks
challenge-met-not-before = refl

pub challenge-met-at : meets_deadline (log_of challenged) 1 (Joins (Tick 302400)) ≡ true
unfolding log_of now exits responses coin_at coins blocks
challenge-met-at = refl

pub challenge-met-not-after : meets_deadline (Tick 302400 ∷ log_of challenged) 1 (Joins (Tick 604799)) ≡ false
unfolding log_of now exits responses coin_at coins blocks
challenge-met-not-after = refl

pub answered-not-met : meets_deadline (log_of answered) 1 (Joins (Tick 302400)) ≡ false
unfolding log_of now exits responses coin_at coins blocks
answered-not-met = refl

-- ---- who attends

-- the tick that meets the exit's deadline was attended
abbrev pub attends : List Event → Bool
attends events = is_attended (Joins (Tick 604800) ∷ events) 1 1 1

-- nobody watched
pub nobody-attends : attends started ≡ false
unfolding is_attended is_guarded is_quiet guarded_by watchers holds log_of wallet_owner accepted bound_by taken_back
    not_taken now blocks coins coin_at exits exit_at is_withdrawn
nobody-attends = refl

-- the wallet watched, and nothing is due
pub watch-attends : attends (Watches 1 [] ∷ started) ≡ true
unfolding is_attended is_guarded is_quiet guarded_by watchers holds log_of wallet_owner accepted bound_by taken_back
    not_taken now blocks coins coin_at exits exit_at is_withdrawn
watch-attends = refl

-- the watch offers a call for the coin
pub due-attends-not : attends (Watches 1 (After 21 1 5 spend ∷ []) ∷ started) ≡ false
unfolding is_attended is_guarded is_quiet guarded_by watchers holds log_of wallet_owner accepted bound_by taken_back
    not_taken now blocks coins coin_at exits exit_at is_withdrawn
due-attends-not = refl

-- that call is entered, while a second exit stands: the tick needs another watch, which then offers none
abbrev pub entered : List Event
entered =
    Joins (After 21 1 5 spend)
    ∷ Joins (StartSpend 30 1 (AtDeposit 1) (blank 6))
    ∷ Watches 1 (After 21 1 5 spend ∷ [])
    ∷ started

pub entered-attends-not : attends entered ≡ false
unfolding is_attended is_guarded is_quiet guarded_by watchers holds log_of wallet_owner accepted bound_by taken_back
    not_taken now blocks coins coin_at exits exit_at is_withdrawn
entered-attends-not = refl

pub entered-watch-attends : attends (Watches 1 [] ∷ entered) ≡ true
unfolding is_attended is_guarded is_quiet guarded_by watchers holds log_of wallet_owner accepted bound_by taken_back
    not_taken now blocks coins coin_at exits exit_at is_withdrawn
entered-watch-attends = refl

-- an offer for another coin doesn't count
pub other-due-attends : attends (Watches 1 (After 21 2 5 spend ∷ []) ∷ started) ≡ true
unfolding is_attended is_guarded is_quiet guarded_by watchers holds log_of wallet_owner accepted bound_by taken_back
    not_taken now blocks coins coin_at exits exit_at is_withdrawn
other-due-attends = refl

-- the wallet crashed after the watch, or did another command
pub crashed-attends-not : attends (Other 1 ∷ Watches 1 [] ∷ started) ≡ false
unfolding is_attended is_guarded is_quiet guarded_by watchers holds log_of wallet_owner accepted bound_by taken_back
    not_taken now blocks coins coin_at exits exit_at is_withdrawn
crashed-attends-not = refl

pub busy-attends-not : attends (Accepts 1 (bundle 2 3) ∷ Watches 1 [] ∷ started) ≡ false
unfolding is_attended is_guarded is_quiet guarded_by watchers holds log_of wallet_owner accepted bound_by taken_back
    not_taken now blocks coins coin_at exits exit_at is_withdrawn
busy-attends-not = refl

-- another node's crash doesn't count
pub other-crashed-attends : attends (Other 3 ∷ Watches 1 [] ∷ started) ≡ true
unfolding is_attended is_guarded is_quiet guarded_by watchers holds log_of wallet_owner accepted bound_by taken_back
    not_taken now blocks coins coin_at exits exit_at is_withdrawn
other-crashed-attends = refl

-- any call joined after the watch, an earlier tick too; a refused call doesn't count
pub joined-attends-not : attends (Joins (Fund 40 1) ∷ Watches 1 [] ∷ started) ≡ false
unfolding is_attended is_guarded is_quiet guarded_by watchers holds log_of wallet_owner accepted bound_by taken_back
    not_taken now blocks coins coin_at exits exit_at is_withdrawn
joined-attends-not = refl

pub ticked-attends-not : attends (Joins (Tick 604799) ∷ Watches 1 [] ∷ started) ≡ false
unfolding is_attended is_guarded is_quiet guarded_by watchers holds log_of wallet_owner accepted bound_by taken_back
    not_taken now blocks coins coin_at exits exit_at is_withdrawn
ticked-attends-not = refl

pub refused-attends : attends (Bounces (Fund 40 1) ∷ Watches 1 [] ∷ started) ≡ true
unfolding is_attended is_guarded is_quiet guarded_by watchers holds log_of wallet_owner accepted bound_by taken_back
    not_taken now blocks coins coin_at exits exit_at is_withdrawn
refused-attends = refl

-- a watcher that guards the coin at that tip watched, the wallet didn't
pub guard-attends : attends (Watches 2 [] ∷ Guards 2 (bundle 1 1) ∷ started) ≡ true
unfolding is_attended is_guarded is_quiet guarded_by watchers holds log_of wallet_owner accepted bound_by taken_back
    not_taken now blocks coins coin_at exits exit_at is_withdrawn
guard-attends = refl

-- it offers a call for the coin
pub guard-due-attends-not : attends (Watches 2 (After 50 1 5 spend ∷ []) ∷ Guards 2 (bundle 1 1) ∷ started) ≡ false
unfolding is_attended is_guarded is_quiet guarded_by watchers holds log_of wallet_owner accepted bound_by taken_back
    not_taken now blocks coins coin_at exits exit_at is_withdrawn
guard-due-attends-not = refl

-- it took up the guard after its watch
pub late-guard-attends-not : attends (Guards 2 (bundle 1 1) ∷ Watches 2 [] ∷ started) ≡ false
unfolding is_attended is_guarded is_quiet guarded_by watchers holds log_of wallet_owner accepted bound_by taken_back
    not_taken now blocks coins coin_at exits exit_at is_withdrawn
late-guard-attends-not = refl

-- it guards the coin at another tip, or another coin, or nothing
pub other-tip-attends-not : attends (Watches 2 [] ∷ Guards 2 (bundle 1 2) ∷ started) ≡ false
unfolding is_attended is_guarded is_quiet guarded_by watchers holds log_of wallet_owner accepted bound_by taken_back
    not_taken now blocks coins coin_at exits exit_at is_withdrawn
other-tip-attends-not = refl

pub other-coin-attends-not : attends (Watches 2 [] ∷ Guards 2 (bundle 2 1) ∷ started) ≡ false
unfolding is_attended is_guarded is_quiet guarded_by watchers holds log_of wallet_owner accepted bound_by taken_back
    not_taken now blocks coins coin_at exits exit_at is_withdrawn
other-coin-attends-not = refl

pub no-guard-attends-not : attends (Watches 2 [] ∷ started) ≡ false
unfolding is_attended is_guarded is_quiet guarded_by watchers holds log_of wallet_owner accepted bound_by taken_back
    not_taken now blocks coins coin_at exits exit_at is_withdrawn
no-guard-attends-not = refl

-- it let the coin go; letting another tip go doesn't count
pub released-attends-not : attends (Watches 2 [] ∷ Releases 2 1 1 ∷ Guards 2 (bundle 1 1) ∷ started) ≡ false
unfolding is_attended is_guarded is_quiet guarded_by watchers holds log_of wallet_owner accepted bound_by taken_back
    not_taken now blocks coins coin_at exits exit_at is_withdrawn
released-attends-not = refl

pub other-released-attends : attends (Watches 2 [] ∷ Releases 2 1 2 ∷ Guards 2 (bundle 1 1) ∷ started) ≡ true
unfolding is_attended is_guarded is_quiet guarded_by watchers holds log_of wallet_owner accepted bound_by taken_back
    not_taken now blocks coins coin_at exits exit_at is_withdrawn
other-released-attends = refl

-- the coin isn't held, so that nobody needs to attend
pub not-held-attends : attends (Binds 1 (sends 1) ∷ started) ≡ true
unfolding is_attended is_guarded is_quiet guarded_by watchers holds log_of wallet_owner accepted bound_by taken_back
    not_taken now blocks coins coin_at exits exit_at is_withdrawn
not-held-attends = refl

-- a node that never watched isn't quiet; one whose last command was a watch is, for the coins that it offers no call
-- for
pub never-quiet : is_quiet started 1 1 ≡ false
unfolding is_quiet
never-quiet = refl

pub quiet-for-one : is_quiet (Watches 1 (After 21 2 5 spend ∷ []) ∷ []) 1 1 ≡ true
unfolding is_quiet
quiet-for-one = refl

pub not-quiet-for-other : is_quiet (Watches 1 (After 21 2 5 spend ∷ []) ∷ []) 1 2 ≡ false
unfolding is_quiet
not-quiet-for-other = refl
