-- Small lists of events, the newest first, on which the words of the promises are computed: that the promises don't
-- hold for want of a case. The log is taken at its word, so most of these lists are those of no run.
use Rattle.world_laws.proofs.Basics.{◌≡◌, ℕ, Bool, true, false, List, [], ◌∷◌, Option, Some, None, refl, replicate}
use Rattle.world_laws.proofs.CoinWords.{Owner, Body, RawOpening, AtDeposit, Tick, Deposit, Commit, StartSpend, After, Finish, body_text, now, blocks, coins, block_at, coin_at, responses, exits, exit_at, is_withdrawn, Tests, Rules, answer_to, greatest, Bundle}
use Rattle.world_laws.proofs.WorldWords.{VerdictKind, Event, Declares, Joins, Accepts, Binds, TakesBack, Watches, log_of, wallet_owner, accepted, bound_by, taken_back, not_taken, guarded_by, watchers, holds, is_quiet, is_guarded, is_attended, is_safe, call_harms, verdict_at, exit_was_paid, before_taking, first_unattended, held_tip, ever_held, verdict_of}

-- ---- who and what

-- the key of an owner: a supported pair of types, and this byte 48 times
abbrev pub key : ℕ → List ℕ
key byte = 0 ∷ 0 ∷ 0 ∷ 5 ∷ 0 ∷ 0 ∷ 0 ∷ 3 ∷ replicate 48 byte

-- The wallet is node 1 and the watcher node 2; account 9 is the operator's, 21 the wallet's, and all others are
-- strangers'.
abbrev pub me : Owner
me = record { account = 21; key = key 7 }

abbrev pub stranger : Owner
stranger = record { account = 30; key = key 3 }

abbrev pub tag : List ℕ
tag = replicate 32 0

abbrev pub rules : Rules
rules = record { tag = tag; operator = 9; most_blocks = 100 }

-- tests that each opening and each signature passes
abbrev pub lax : Tests
lax = record { opens = λ root coin opening. true; is_signed = λ tx owner. true }

-- an opening without bytes, which shows nothing
abbrev pub blank : ℕ → RawOpening
blank block = record { block = block; bytes = [] }

-- an opening of a leaf of two bytes, each of whose siblings is the default of its level
abbrev pub opened : ℕ → ℕ → ℕ → RawOpening
opened block one other = record { block = block; bytes = 0 ∷ 0 ∷ 0 ∷ 2 ∷ one ∷ other ∷ replicate 8 0 }

-- the transfer of a coin from block 1 to the stranger
abbrev pub sends : ℕ → Body
sends coin = record { tag = tag; coin = coin; parent = 1; to = stranger; last = None }

-- block 2's opening with that of coin 1
abbrev pub spend : RawOpening
spend = record { block = 2; bytes = 0 ∷ 0 ∷ 0 ∷ 116 ∷ body_text (sends 1) }

-- a bundle of a coin and a tip, without openings
abbrev pub bundle : ℕ → ℕ → Bundle
bundle coin tip = record { coin = coin; tip = tip; openings = [] }

-- what the words say of wallet 1 and coin 1 at a block: whether it is held now, each deadline was attended and the
-- coin is safe, the first line that wasn't attended, and the verdict
pub record Judged : Type 0 where
  pub held : Bool
  pub attended : Bool
  pub safe : Bool
  pub unattended : Option ℕ
  pub verdict : VerdictKind

abbrev pub judged : List Event → ℕ → Judged
judged events e = record {
  held = holds events 1 1 e;
  attended = is_attended events 1 1 e;
  safe = is_safe lax rules events 1 1 e;
  unattended = first_unattended events 1 1 e;
  verdict = verdict_at lax rules events me 1 1 e;
}

-- ---- who holds a coin

-- the wallet was declared, and its account deposited coin 1 in block 1 for its key
abbrev pub deposited : List Event
deposited = Joins (Deposit 21 5 (key 7)) ∷ Declares 1 me ∷ []

-- it holds the coin there, safely
pub deposited-judged : judged deposited 1
    ≡ record { held = true; attended = true; safe = true; unattended = None; verdict = VerdictKind.Held }
unfolding holds is_attended is_guarded is_quiet is_safe call_harms first_unattended verdict_at exit_was_paid
    before_taking answer_to guarded_by watchers block_at responses log_of wallet_owner accepted bound_by taken_back
    not_taken now blocks coins coin_at exits exit_at is_withdrawn
deposited-judged = refl

-- but at no other block, and no other coin
pub deposited-other-block : holds deposited 1 1 2 ≡ false
unfolding holds log_of wallet_owner accepted bound_by taken_back not_taken now blocks coins coin_at exits exit_at
    is_withdrawn
deposited-other-block = refl

pub deposited-other-coin : holds deposited 1 2 1 ≡ false
unfolding holds log_of wallet_owner accepted bound_by taken_back not_taken now blocks coins coin_at exits exit_at
    is_withdrawn
deposited-other-coin = refl

-- nor does a wallet with another account, or with the same account and another key; nor a node that is no wallet
pub deposited-other-account : holds (Declares 3 (record { account = 30; key = key 7 }) ∷ deposited) 3 1 1 ≡ false
unfolding holds log_of wallet_owner accepted bound_by taken_back not_taken now blocks coins coin_at exits exit_at
    is_withdrawn
deposited-other-account = refl

pub deposited-other-key : holds (Declares 3 (record { account = 21; key = key 8 }) ∷ deposited) 3 1 1 ≡ false
unfolding holds log_of wallet_owner accepted bound_by taken_back not_taken now blocks coins coin_at exits exit_at
    is_withdrawn
deposited-other-key = refl

pub deposited-no-wallet : holds deposited 2 1 1 ≡ false
unfolding holds log_of wallet_owner accepted bound_by taken_back not_taken now blocks coins coin_at exits exit_at
    is_withdrawn
deposited-no-wallet = refl

-- the wallet accepted a coin that a stranger deposited, with its tip at block 3
abbrev pub received : List Event
received =
    Accepts 1 (bundle 1 3)
    ∷ Joins (Commit 9 [])
    ∷ Joins (Commit 9 [])
    ∷ Joins (Deposit 30 5 (key 3))
    ∷ Declares 1 me
    ∷ []

-- it holds the coin at the tip, and not where the stranger deposited it
pub received-judged : judged received 3
    ≡ record { held = true; attended = true; safe = true; unattended = None; verdict = VerdictKind.Held }
unfolding holds is_attended is_guarded is_quiet is_safe call_harms first_unattended verdict_at exit_was_paid
    before_taking answer_to guarded_by watchers block_at responses log_of wallet_owner accepted bound_by taken_back
    not_taken now blocks coins coin_at exits exit_at is_withdrawn
received-judged = refl

pub received-not-deposited : holds received 1 1 1 ≡ false
unfolding holds log_of wallet_owner accepted bound_by taken_back not_taken now blocks coins coin_at exits exit_at
    is_withdrawn
received-not-deposited = refl

-- ---- a coin that is sent

-- a leaf of the wallet binds a transfer of the coin from block 1
abbrev pub sent : List Event
sent = Binds 1 (sends 1) ∷ deposited

-- the coin isn't held, and is away
pub sent-judged : judged sent 1
    ≡ record { held = false; attended = true; safe = true; unattended = None; verdict = VerdictKind.Away }
unfolding holds is_attended is_guarded is_quiet is_safe call_harms first_unattended verdict_at exit_was_paid
    before_taking answer_to guarded_by watchers block_at responses log_of wallet_owner accepted bound_by taken_back
    not_taken now blocks coins coin_at exits exit_at is_withdrawn
sent-judged = refl

-- the leaf is taken back: the coin is held again
pub taken-back-judged : judged (TakesBack 1 0 (bundle 1 2) ∷ sent) 1
    ≡ record { held = true; attended = true; safe = true; unattended = None; verdict = VerdictKind.Held }
unfolding holds is_attended is_guarded is_quiet is_safe call_harms first_unattended verdict_at exit_was_paid
    before_taking answer_to guarded_by watchers block_at responses log_of wallet_owner accepted bound_by taken_back
    not_taken now blocks coins coin_at exits exit_at is_withdrawn
taken-back-judged = refl

-- another leaf is taken back, or that number by another wallet: the coin stays away
pub other-taken-back-judged : judged (TakesBack 1 1 (bundle 1 2) ∷ TakesBack 3 0 (bundle 1 2) ∷ sent) 1
    ≡ record { held = false; attended = true; safe = true; unattended = None; verdict = VerdictKind.Away }
unfolding holds is_attended is_guarded is_quiet is_safe call_harms first_unattended verdict_at exit_was_paid
    before_taking answer_to guarded_by watchers block_at responses log_of wallet_owner accepted bound_by taken_back
    not_taken now blocks coins coin_at exits exit_at is_withdrawn
other-taken-back-judged = refl

-- a transfer of another coin, and one that another wallet's leaf binds, sign nothing away
pub other-sent-judged : judged (Binds 1 (sends 2) ∷ Binds 3 (sends 1) ∷ deposited) 1
    ≡ record { held = true; attended = true; safe = true; unattended = None; verdict = VerdictKind.Held }
unfolding holds is_attended is_guarded is_quiet is_safe call_harms first_unattended verdict_at exit_was_paid
    before_taking answer_to guarded_by watchers block_at responses log_of wallet_owner accepted bound_by taken_back
    not_taken now blocks coins coin_at exits exit_at is_withdrawn
other-sent-judged = refl

-- the coin came back: the wallet accepted it with its tip at block 3, and holds it there
abbrev pub came_back : List Event
came_back = Accepts 1 (bundle 1 3) ∷ Joins (Commit 9 []) ∷ Joins (Commit 9 []) ∷ sent

pub came-back-judged : judged came_back 3
    ≡ record { held = true; attended = true; safe = true; unattended = None; verdict = VerdictKind.Held }
unfolding holds is_attended is_guarded is_quiet is_safe call_harms first_unattended verdict_at exit_was_paid
    before_taking answer_to guarded_by watchers block_at responses log_of wallet_owner accepted bound_by taken_back
    not_taken now blocks coins coin_at exits exit_at is_withdrawn
came-back-judged = refl

pub came-back-not-before : holds came_back 1 1 1 ≡ false
unfolding holds log_of wallet_owner accepted bound_by taken_back not_taken now blocks coins coin_at exits exit_at
    is_withdrawn
came-back-not-before = refl

-- a verdict is on the greatest tip at which a wallet ever held the coin, and on no coin that it never held
pub deposited-tip : held_tip deposited 1 1 ≡ Some 1
unfolding held_tip ever_held greatest holds log_of wallet_owner accepted bound_by taken_back not_taken now blocks
    coins coin_at exits exit_at is_withdrawn
deposited-tip = refl

pub came-back-tip : held_tip came_back 1 1 ≡ Some 3
unfolding held_tip ever_held greatest holds log_of wallet_owner accepted bound_by taken_back not_taken now blocks
    coins coin_at exits exit_at is_withdrawn
came-back-tip = refl

pub other-coin-tip : held_tip deposited 1 2 ≡ None
unfolding held_tip ever_held greatest holds log_of wallet_owner accepted bound_by taken_back not_taken now blocks
    coins coin_at exits exit_at is_withdrawn
other-coin-tip = refl

pub sent-verdict : verdict_of lax rules sent (record { number = 1; name = [] }) 1
    ≡ Some (record { wallet = []; coin = 1; kind = VerdictKind.Away })
unfolding held_tip ever_held greatest holds is_attended is_guarded is_quiet is_safe call_harms first_unattended
    verdict_at exit_was_paid before_taking answer_to guarded_by watchers block_at responses log_of wallet_owner
    accepted bound_by taken_back not_taken now blocks coins coin_at exits exit_at is_withdrawn
sent-verdict = refl

-- the transfer stands in block 2, and the stranger's wallet, which is node 3, accepted it
abbrev pub handed_over : List Event
handed_over = Accepts 3 (bundle 1 2) ∷ Joins (Commit 9 []) ∷ Binds 1 (sends 1)
    ∷ Joins (Deposit 21 5 (key 7)) ∷ Declares 3 stranger ∷ Declares 1 me ∷ []

-- of the two wallets the receiver alone holds the coin
pub handed-over-sender : holds handed_over 1 1 1 ≡ false
unfolding holds log_of wallet_owner accepted bound_by taken_back not_taken now blocks coins coin_at exits exit_at
    is_withdrawn
handed-over-sender = refl

pub handed-over-receiver : holds handed_over 3 1 2 ≡ true
unfolding holds log_of wallet_owner accepted bound_by taken_back not_taken now blocks coins coin_at exits exit_at
    is_withdrawn
handed-over-receiver = refl

-- ---- another account's exit of the held coin

-- a stranger starts an exit at block 5; the views of exits take the start at its word
abbrev pub started : List Event
started = Joins (StartSpend 30 1 (AtDeposit 1) (blank 5)) ∷ deposited

-- until its end nothing is harmed
pub started-judged : judged started 1
    ≡ record { held = true; attended = true; safe = true; unattended = None; verdict = VerdictKind.Held }
unfolding holds is_attended is_guarded is_quiet is_safe call_harms first_unattended verdict_at exit_was_paid
    before_taking answer_to guarded_by watchers block_at responses log_of wallet_owner accepted bound_by taken_back
    not_taken now blocks coins coin_at exits exit_at is_withdrawn
started-judged = refl

-- a challenge cancels it: no harm to the wallet
pub other-cancelled-judged : judged (Joins (After 21 1 5 spend) ∷ started) 1
    ≡ record { held = true; attended = true; safe = true; unattended = None; verdict = VerdictKind.Held }
unfolding holds is_attended is_guarded is_quiet is_safe call_harms first_unattended verdict_at exit_was_paid
    before_taking answer_to guarded_by watchers block_at responses log_of wallet_owner accepted bound_by taken_back
    not_taken now blocks coins coin_at exits exit_at is_withdrawn
other-cancelled-judged = refl

-- it is paid at its end, while nobody watched: the tick, which is line 4, wasn't attended
pub unwatched-judged : judged (Joins (Finish 30 1 5) ∷ Joins (Tick 907200) ∷ started) 1
    ≡ record { held = false; attended = false; safe = false; unattended = Some 4; verdict = VerdictKind.Unattended 4 }
unfolding holds is_attended is_guarded is_quiet is_safe call_harms first_unattended verdict_at exit_was_paid
    before_taking answer_to guarded_by watchers block_at responses log_of wallet_owner accepted bound_by taken_back
    not_taken now blocks coins coin_at exits exit_at is_withdrawn
unwatched-judged = refl

-- Paid although the wallet watched before the tick, and nothing was due: attended and lost. The headline holds since
-- this is no run's list: the start's opening is unreadable, so that no contract accepts it.
abbrev pub watched_loss : List Event
watched_loss = Joins (Finish 30 1 5) ∷ Joins (Tick 907200) ∷ Watches 1 [] ∷ started

pub watched-loss-judged : judged watched_loss 1
    ≡ record { held = false; attended = true; safe = false; unattended = None; verdict = VerdictKind.Lost }
unfolding holds is_attended is_guarded is_quiet is_safe call_harms first_unattended verdict_at exit_was_paid
    before_taking answer_to guarded_by watchers block_at responses log_of wallet_owner accepted bound_by taken_back
    not_taken now blocks coins coin_at exits exit_at is_withdrawn
watched-loss-judged = refl

-- the same with an opening that is read; `ExhibitSamples` has what it exhibits
abbrev pub shown_loss : List Event
shown_loss =
    Joins (Finish 30 1 5)
    ∷ Joins (Tick 907200)
    ∷ Watches 1 []
    ∷ Joins (StartSpend 30 1 (AtDeposit 1) (opened 5 99 1))
    ∷ deposited

pub shown-loss-judged : judged shown_loss 1
    ≡ record { held = false; attended = true; safe = false; unattended = None; verdict = VerdictKind.Lost }
unfolding holds is_attended is_guarded is_quiet is_safe call_harms first_unattended verdict_at exit_was_paid
    before_taking answer_to guarded_by watchers block_at responses log_of wallet_owner accepted bound_by taken_back
    not_taken now blocks coins coin_at exits exit_at is_withdrawn
shown-loss-judged = refl

-- another account's exit of a coin that was sent away before is paid: no harm to the wallet, and nothing to attend
pub sent-then-paid-judged : judged (Joins (Finish 30 1 5) ∷ Joins (Tick 907200) ∷ Binds 1 (sends 1) ∷ started) 1
    ≡ record { held = false; attended = true; safe = true; unattended = None; verdict = VerdictKind.Away }
unfolding holds is_attended is_guarded is_quiet is_safe call_harms first_unattended verdict_at exit_was_paid
    before_taking answer_to guarded_by watchers block_at responses log_of wallet_owner accepted bound_by taken_back
    not_taken now blocks coins coin_at exits exit_at is_withdrawn
sent-then-paid-judged = refl

-- the exit of another coin is paid
abbrev pub other_coin_paid : List Event
other_coin_paid =
    Joins (Finish 30 2 5)
    ∷ Joins (Tick 907200)
    ∷ Joins (StartSpend 30 2 (AtDeposit 1) (blank 5))
    ∷ deposited

pub other-coin-paid-judged : judged other_coin_paid 1
    ≡ record { held = true; attended = true; safe = true; unattended = None; verdict = VerdictKind.Held }
unfolding holds is_attended is_guarded is_quiet is_safe call_harms first_unattended verdict_at exit_was_paid
    before_taking answer_to guarded_by watchers block_at responses log_of wallet_owner accepted bound_by taken_back
    not_taken now blocks coins coin_at exits exit_at is_withdrawn
other-coin-paid-judged = refl
