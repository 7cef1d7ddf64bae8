-- Small lists of calls and events, the newest first, on which the laws' words are computed: each premise can be met,
-- and each bound is tight. Every call of the lists of calls is accepted after those before it, where each opening and
-- each signature passes.
use Rattle.money_laws.proofs.Basics.{◌≡◌, ℕ, ◌+◌, ◌&&◌, Bool, true, false, List, [], ◌∷◌, None, refl}
use Rattle.money_laws.proofs.CoinWords.{u32_at, RawOpening, AtDeposit, Spend, RootCall, Fund, Tick, Deposit, Commit, StartDeposit, StartSpend, Before, Respond, Finish, Paid, Dropped, Refused, leaf_in, body_text, signed_in, body_in, owner_text, owner_in, transfer_in, now, blocks, coins, block_at, coin_at, responses, exits, exit_at, is_withdrawn, shown_tx, answer_to, is_accepted, pays, takes, share_of, balance_of, funded}
use Rattle.money_laws.proofs.WorldWords.{Event, Joins, Binds, log_of, wallet_owner, accepted, bound_by, taken_back, not_taken, holds, sum_over, staked, has_led, reserve, keeps, is_in_time}
use Rattle.plasma_tx.specs.declared.answer.Refusal.TheVariants.{NoFunds}
use Rattle.world_laws.proofs.Samples.{key, stranger, tag, rules, lax, sends, deposited}

-- each call was accepted after those before it
unfoldable pub are_taken : List RootCall → Bool
are_taken [] = true
are_taken (call ∷ log) = is_accepted (answer_to lax rules log call) && are_taken log

-- a block's opening of a transfer of coin 1 from a block to the stranger
abbrev planted : ℕ → ℕ → RawOpening
planted block parent = record {
  block = block;
  bytes = 0 ∷ 0 ∷ 0 ∷ 116
      ∷ body_text (record { tag = tag; coin = 1; parent = parent; to = stranger; last = None });
}

-- Account 21 deposited coin 1 in block 1, and has so much left. The operator planted blocks 2 to 6, of which 3 spends
-- 2, 4 spends 3, and 6 spends 5; 2 and 5 spend blocks that aren't there.
abbrev began : ℕ → List RootCall
began left =
    Commit 9 []
    ∷ Commit 9 []
    ∷ Commit 9 []
    ∷ Commit 9 []
    ∷ Commit 9 []
    ∷ Deposit 21 5 (key 7)
    ∷ Fund 40 80
    ∷ Fund 30 200
    ∷ Fund 21 (left + 5)
    ∷ []

-- The stranger's exits of blocks 4 and 6 stand, and need a Before each.
abbrev attacked : ℕ → List RootCall
attacked left =
    StartSpend 30 1 (Spend (planted 5 1000)) (planted 6 5)
    ∷ StartSpend 30 1 (Spend (planted 3 2)) (planted 4 3)
    ∷ began left

-- account 40, of the stranger's, challenged both first, at block 2
abbrev covered : ℕ → List RootCall
covered left =
    Before 40 1 6 (Spend (planted 2 1000))
    ∷ Before 40 1 4 (Spend (planted 2 1000))
    ∷ attacked left

pub attacked-reserve : reserve (covered 80) 1 1 ≡ 80
unfolding sum_over now blocks coins block_at coin_at responses exits exit_at is_withdrawn
attacked-reserve = refl

-- ---- the reserve

-- with it both are challenged
abbrev guarded : List RootCall → List RootCall
guarded log = Before 21 1 6 (AtDeposit 1) ∷ Before 21 1 4 (AtDeposit 1) ∷ log

pub reserve-taken : are_taken (guarded (covered 80)) ≡ true
unfolding are_taken answer_to shown_tx transfer_in signed_in body_in leaf_in body_text owner_text owner_in u32_at
    balance_of pays takes share_of funded now blocks coins block_at coin_at responses exits exit_at is_withdrawn
reserve-taken = refl

-- with one unit less the second isn't
pub less-refused : answer_to lax rules (Before 21 1 4 (AtDeposit 1) ∷ covered 79) (Before 21 1 6 (AtDeposit 1))
    ≡ Refused (NoFunds 39 40)
unfolding answer_to shown_tx balance_of pays takes share_of funded now blocks coins block_at coin_at responses
    exits exit_at is_withdrawn
less-refused = refl

-- and the stranger, who answers his own challenge, is paid the coin
abbrev lost : List RootCall
lost =
    Tick 907200
    ∷ Respond 40 1 6 2 (planted 3 2)
    ∷ Before 21 1 4 (AtDeposit 1)
    ∷ covered 79

pub less-loses : answer_to lax rules lost (Finish 50 1 6) ≡ Paid
unfolding answer_to shown_tx balance_of pays takes share_of funded now blocks coins block_at coin_at responses
    exits exit_at is_withdrawn
less-loses = refl

pub less-taken : are_taken lost ≡ true
unfolding are_taken answer_to shown_tx transfer_in signed_in body_in leaf_in body_text owner_text owner_in u32_at
    balance_of pays takes share_of funded now blocks coins block_at coin_at responses exits exit_at is_withdrawn
less-taken = refl

-- ---- where the bonds go

abbrev finished : List RootCall → List RootCall
finished log = Finish 50 1 6 ∷ Finish 50 1 4 ∷ Tick 907200 ∷ guarded log

-- The stranger's friend stood first: the guardian has its money again and no more, and what the two strangers have is
-- what they had, 200 and 80.
pub own_first-taken : are_taken (finished (covered 80)) ≡ true
unfolding are_taken answer_to shown_tx transfer_in signed_in body_in leaf_in body_text owner_text owner_in u32_at
    balance_of pays takes share_of funded now blocks coins block_at coin_at responses exits exit_at is_withdrawn
own_first-taken = refl

pub own_first-guardian : balance_of (finished (covered 80)) 21 ≡ 80
unfolding balance_of pays takes share_of now blocks coins block_at coin_at responses exits exit_at is_withdrawn
own_first-guardian = refl

pub own_first-friend : balance_of (finished (covered 80)) 40 ≡ 280
unfolding balance_of pays takes share_of now blocks coins block_at coin_at responses exits exit_at is_withdrawn
own_first-friend = refl

pub own_first-stranger : balance_of (finished (covered 80)) 30 ≡ 0
unfolding balance_of pays takes share_of now blocks coins block_at coin_at responses exits exit_at is_withdrawn
own_first-stranger = refl

-- where the guardian's challenges stand first it has 100 more for each
pub guarded-guardian : balance_of (finished (attacked 80)) 21 ≡ 280
unfolding balance_of pays takes share_of now blocks coins block_at coin_at responses exits exit_at is_withdrawn
guarded-guardian = refl

-- until the exits end its money is at stake
pub guarded-staked : staked (guarded (attacked 80)) 21 ≡ 80
unfolding sum_over balance_of pays takes share_of now blocks coins block_at coin_at responses exits exit_at is_withdrawn
guarded-staked = refl

-- ---- leaving first

-- the own exit began a second before the strangers', which nobody challenges
abbrev left : ℕ → List RootCall
left time =
    Tick time
    ∷ StartSpend 30 1 (Spend (planted 5 1000)) (planted 6 5)
    ∷ StartSpend 30 1 (Spend (planted 3 2)) (planted 4 3)
    ∷ Tick 1
    ∷ StartDeposit 21 1 1
    ∷ began 100

pub left-taken : are_taken (left 907200) ≡ true
unfolding are_taken answer_to shown_tx transfer_in signed_in body_in leaf_in body_text owner_text owner_in u32_at
    balance_of pays takes share_of funded now blocks coins block_at coin_at responses exits exit_at is_withdrawn
left-taken = refl

-- it leads until its end, and is paid
pub left-led : has_led (left 907200) 1 1 ≡ true
unfolding has_led now blocks coins block_at coin_at responses exits exit_at is_withdrawn
left-led = refl

pub left-paid : answer_to lax rules (left 907200) (Finish 50 1 1) ≡ Paid
unfolding answer_to now blocks coins block_at coin_at responses exits exit_at is_withdrawn
left-paid = refl

-- a second later it no longer does, and who is finished first is paid
pub left-led-not : has_led (left 907201) 1 1 ≡ false
unfolding has_led now blocks coins block_at coin_at responses exits exit_at is_withdrawn
left-led-not = refl

pub left-late : answer_to lax rules (Finish 50 1 6 ∷ left 907201) (Finish 50 1 1) ≡ Dropped
unfolding answer_to now blocks coins block_at coin_at responses exits exit_at is_withdrawn
left-late = refl

-- ---- keeping

-- the wallet keeps what it holds, until it signs it away
pub deposited-kept : keeps deposited 1 1 1 ≡ true
unfolding keeps log_of wallet_owner accepted bound_by taken_back not_taken blocks coins coin_at
deposited-kept = refl

pub sent-kept-not : keeps (Binds 1 (sends 1) ∷ deposited) 1 1 1 ≡ false
unfolding keeps log_of wallet_owner accepted bound_by taken_back not_taken blocks coins coin_at
sent-kept-not = refl

-- Where a transfer from the tip was signed, it answers the challenge there, whose 40 are lost then.
abbrev answered : List RootCall
answered = Respond 30 1 4 1 (planted 2 1) ∷ Before 21 1 4 (AtDeposit 1) ∷ attacked 80

pub answered-taken : are_taken answered ≡ true
unfolding are_taken answer_to shown_tx transfer_in signed_in body_in leaf_in body_text owner_text owner_in u32_at
    balance_of pays takes share_of funded now blocks coins block_at coin_at responses exits exit_at is_withdrawn
answered-taken = refl

pub answered-money : balance_of answered 21 ≡ 40
unfolding balance_of pays takes share_of now blocks coins block_at coin_at responses exits exit_at is_withdrawn
answered-money = refl

pub answered-staked : staked answered 21 ≡ 0
unfolding sum_over balance_of pays takes share_of now blocks coins block_at coin_at responses exits exit_at is_withdrawn
answered-staked = refl

-- and also once its exit was paid, when it holds it no more
abbrev withdrawn : List Event
withdrawn = Joins (Finish 50 1 1) ∷ Joins (Tick 907200) ∷ Joins (StartDeposit 21 1 1) ∷ deposited

pub withdrawn-kept : keeps withdrawn 1 1 1 ≡ true
unfolding keeps log_of wallet_owner accepted bound_by taken_back not_taken blocks coins coin_at
withdrawn-kept = refl

pub withdrawn-held-not : holds withdrawn 1 1 1 ≡ false
unfolding holds log_of wallet_owner accepted bound_by taken_back not_taken now blocks coins coin_at responses exits
    exit_at is_withdrawn
withdrawn-held-not = refl

-- ---- in time

-- nobody watched, and the own exit was finished before the stranger's was ripe: no exit came too late
abbrev raced : ℕ → List Event
raced time =
    Joins (Tick time)
    ∷ Joins (StartSpend 30 1 (Spend (planted 3 2)) (planted 4 3))
    ∷ Joins (Tick 1)
    ∷ Joins (StartDeposit 21 1 1)
    ∷ Joins (Commit 9 [])
    ∷ Joins (Commit 9 [])
    ∷ Joins (Commit 9 [])
    ∷ deposited

pub raced-in_time : is_in_time (raced 907200) 1 1 1 ≡ true
unfolding is_in_time holds log_of wallet_owner accepted bound_by taken_back not_taken now blocks coins coin_at responses
    exits exit_at is_withdrawn
raced-in_time = refl

-- a second later it did
pub raced-late : is_in_time (raced 907201) 1 1 1 ≡ false
unfolding is_in_time holds log_of wallet_owner accepted bound_by taken_back not_taken now blocks coins coin_at responses
    exits exit_at is_withdrawn
raced-late = refl

-- and a second later it is fine where the own exit was paid before
pub paid-in_time : is_in_time (Joins (Tick 907201) ∷ Joins (Finish 50 1 1) ∷ raced 907200) 1 1 1 ≡ true
unfolding is_in_time holds log_of wallet_owner accepted bound_by taken_back not_taken now blocks coins coin_at responses
    exits exit_at is_withdrawn
paid-in_time = refl
