-- Small lists of calls, the newest first, on which the words and the calls are computed: each premise of the laws can
-- be met, and the times are tight. Every call of the lists is accepted after those before it, where each opening and
-- each signature passes.
use Rattle.safety_laws.proofs.Basics.{◌≡◌, ℕ, ◌+◌, ◌&&◌, Bool, true, false, List, [], ◌∷◌, Some, None, refl}
use Rattle.safety_laws.proofs.CoinWords.{RawOpening, AtDeposit, Spend, RootCall, Fund, Tick, Deposit, Commit, StartDeposit, StartSpend, Between, Before, Respond, Finish, leaf_in, transfer_in, now, blocks, coins, block_at, coin_at, responses, exits, exit_at, exits_of, is_withdrawn, shown_tx, answer_to, is_accepted, pays, share_of, balance_of, funded, links_in, next_link, Kept, Word, Safe, Act, Leaving, Paid, Gone, Late, least, left_by, answer_shown, start_shown, due, calls_of, payment, word_of}
use Rattle.safety_laws.proofs.WorldWords.{log_of, wallet_owner, accepted, bound_by, taken_back, not_taken, openings_of, seen, strings_of, has_clash, collides, is_forged, holds, Bare, IsLook, are_met}
use Rattle.lms_sign.specs.Types.{u32_at}
use Rattle.plasma_tx.specs.Spelling.{body_text, signed_in, body_in, owner_text, owner_in}
use Rattle.plasma_tx.specs.Money.{takes}
use Rattle.world_laws.proofs.Samples.{key, me, stranger, tag, rules, lax, deposited}
use Rattle.coin_safety.specs.declared.word.Command.TheVariants.{Release}
use Rattle.coin_safety.specs.Commands.{command_of}

-- each call was accepted after those before it
unfoldable pub are_taken : List RootCall → Bool
are_taken [] = true
are_taken (call ∷ log) = is_accepted (answer_to lax rules log call) && are_taken log

-- a block's opening of a transfer of coin 1 from a block to the stranger
abbrev planted : ℕ → ℕ → RawOpening
planted block parent = record {
  block = block;
  bytes = 0 ∷ 0 ∷ 0 ∷ 116
      ∷ body_text (record { tag = tag; coin = 1; parent = parent; to = stranger; last = None });
}

-- Account 21 deposited coin 1 in block 1, and has so much left. The operator planted blocks 2 to 4: 3 and 4 spend 2.
abbrev began : ℕ → List RootCall
began left =
    Commit 9 []
    ∷ Commit 9 []
    ∷ Commit 9 []
    ∷ Deposit 21 5 (key 7)
    ∷ Fund 30 200
    ∷ Fund 21 (left + 5)
    ∷ []

-- what its wallet keeps
abbrev kept : Kept
kept = record {
  links = record { coin = 1; deposit = 1; owner = me; spends = [] };
  sent = None;
  guarded = false;
  hidden = false;
}

abbrev word : List RootCall → Word
word log = word_of log 21 0 kept

-- ---- a look's premises can be met

-- it is a look at the coin that the wallet holds
pub deposited-look : (dig : List ℕ → List ℕ) → IsLook dig rules deposited 1 1 1 1 kept
unfolding holds log_of wallet_owner accepted bound_by taken_back not_taken now blocks coins coin_at exits exit_at
    is_withdrawn links_in openings_of seen strings_of has_clash collides is_forged
deposited-look dig = record {
  keeps = record {
    bundle = record { coin = 1; tip = 1; openings = [] };
    shows = Bare refl refl;
    links_are = refl;
  };
  coin_is = refl;
  tip_is = refl;
  held = refl;
  whole = refl;
  honest = refl;
}

-- ---- the words

pub began-safe : word (began 100) ≡ Safe 604799
unfolding least payment left_by answer_shown start_shown next_link balance_of pays takes share_of now blocks coins
    block_at coin_at responses exits exit_at exits_of is_withdrawn
began-safe = refl

-- the stranger's exits of blocks 3 and 4 stand: two spends of block 2
abbrev attacked : ℕ → List RootCall
attacked left =
    StartSpend 30 1 (Spend (planted 2 1000)) (planted 4 2)
    ∷ StartSpend 30 1 (Spend (planted 2 1000)) (planted 3 2)
    ∷ began left

-- against the earlier one a Before, against the later one what the start of the earlier one has shown; and the start
-- of the own exit
pub attacked-calls : calls_of (attacked 40) 21 kept
    ≡ Before 21 1 3 (AtDeposit 1) ∷ Between 21 1 4 (planted 3 2) ∷ StartDeposit 21 1 1 ∷ []
unfolding least payment left_by answer_shown start_shown next_link balance_of pays takes share_of now blocks coins
    block_at coin_at responses exits exit_at exits_of is_withdrawn
attacked-calls = refl

-- it takes 40 and 100, until a second before the window ends
pub attacked-act : word (attacked 140) ≡ Act 604799 0
unfolding least payment left_by answer_shown start_shown next_link balance_of pays takes share_of now blocks coins
    block_at coin_at responses exits exit_at exits_of is_withdrawn
attacked-act = refl

pub attacked-missing : word (attacked 139) ≡ Act 604799 1
unfolding least payment left_by answer_shown start_shown next_link balance_of pays takes share_of now blocks coins
    block_at coin_at responses exits exit_at exits_of is_withdrawn
attacked-missing = refl

-- so what begins just after a look is met by the next one until then, and a second later it is late
pub attacked-late : word (Tick 604800 ∷ attacked 40) ≡ Late 604800
unfolding least payment left_by answer_shown start_shown next_link balance_of pays takes share_of now blocks coins
    block_at coin_at responses exits exit_at exits_of is_withdrawn
attacked-late = refl

-- with the calls entered nothing is due
abbrev guarded : List RootCall
guarded = Between 21 1 4 (planted 3 2) ∷ Before 21 1 3 (AtDeposit 1) ∷ attacked 40

pub guarded-taken : are_taken guarded ≡ true
unfolding are_taken answer_to shown_tx transfer_in signed_in body_in leaf_in body_text owner_text owner_in u32_at
    balance_of pays takes share_of funded now blocks coins block_at coin_at responses exits exit_at is_withdrawn
guarded-taken = refl

-- so what was due was met: a call that ends the exit does as well as a Before
pub guarded-met :
    are_met (Between 21 1 4 (planted 3 2) ∷ Before 21 1 3 (AtDeposit 1) ∷ []) (due (attacked 40) 21 kept) ≡ true
unfolding least payment left_by answer_shown start_shown next_link balance_of pays takes share_of now blocks coins
    block_at coin_at responses exits exit_at exits_of is_withdrawn
guarded-met = refl

pub guarded-safe : word guarded ≡ Safe 604799
unfolding least payment left_by answer_shown start_shown next_link balance_of pays takes share_of now blocks coins
    block_at coin_at responses exits exit_at exits_of is_withdrawn
guarded-safe = refl

-- at the end of the challenged exit a Finish gives the bond back; the own start helps still
pub ended-calls : calls_of (Tick 907200 ∷ guarded) 21 kept ≡ StartDeposit 21 1 1 ∷ Finish 21 1 3 ∷ []
unfolding least payment left_by answer_shown start_shown next_link balance_of pays takes share_of now blocks coins
    block_at coin_at responses exits exit_at exits_of is_withdrawn
ended-calls = refl

-- ---- a hidden block

-- the same, where the operator didn't show one of the blocks
abbrev unshown : Kept
unshown = record {
  links = record { coin = 1; deposit = 1; owner = me; spends = [] };
  sent = None;
  guarded = false;
  hidden = true;
}

-- so the holder is to leave at once, and needs 100 for it
pub unshown-calls : calls_of (began 100) 21 unshown ≡ StartDeposit 21 1 1 ∷ []
unfolding least payment left_by answer_shown start_shown next_link balance_of pays takes share_of now blocks coins
    block_at coin_at responses exits exit_at exits_of is_withdrawn
unshown-calls = refl

pub unshown-act : word_of (Tick 50 ∷ began 99) 21 0 unshown ≡ Act 50 1
unfolding least payment left_by answer_shown start_shown next_link balance_of pays takes share_of now blocks coins
    block_at coin_at responses exits exit_at exits_of is_withdrawn
unshown-act = refl

-- what is due comes first, and where he has left, nothing is
pub unshown-attacked : word_of (attacked 140) 21 0 unshown ≡ Act 604799 0
unfolding least payment left_by answer_shown start_shown next_link balance_of pays takes share_of now blocks coins
    block_at coin_at responses exits exit_at exits_of is_withdrawn
unshown-attacked = refl

pub unshown-leaving : word_of (StartDeposit 21 1 1 ∷ began 100) 21 0 unshown ≡ Leaving 907200
unfolding least payment left_by answer_shown start_shown next_link balance_of pays takes share_of now blocks coins
    block_at coin_at responses exits exit_at exits_of is_withdrawn
unshown-leaving = refl

-- another's look, as a watcher's, says nothing of it
pub unshown-another : word_of (began 100) 31 0 unshown ≡ Safe 604799
unfolding least payment left_by answer_shown start_shown next_link balance_of pays takes share_of now blocks coins
    block_at coin_at responses exits exit_at exits_of is_withdrawn
unshown-another = refl

-- ---- a coin under way

-- what a watcher with account 31 guards
abbrev guard : Kept
guard = record {
  links = record { coin = 1; deposit = 1; owner = me; spends = [] };
  sent = None;
  guarded = true;
  hidden = false;
}

-- Account 21 sent the coin, in block 2. The stranger's exit of block 4 with the planted parent 3 was challenged at the
-- deposit, and the transfer answered.
abbrev underway : List RootCall
underway =
    Respond 30 1 4 1 (planted 2 1)
    ∷ Before 31 1 4 (AtDeposit 1)
    ∷ StartSpend 30 1 (Spend (planted 3 1000)) (planted 4 3)
    ∷ began 140

-- so the transfer is shown again, against the planted parent, and the guard is to be let go
pub underway-calls : calls_of underway 31 guard ≡ Before 31 1 4 (Spend (planted 2 1)) ∷ []
unfolding least payment left_by answer_shown start_shown next_link balance_of pays takes share_of now blocks coins
    block_at coin_at responses exits exit_at exits_of is_withdrawn
underway-calls = refl

pub underway-act : word_of underway 31 0 guard ≡ Act 604799 40
unfolding least payment left_by answer_shown start_shown next_link balance_of pays takes share_of now blocks coins
    block_at coin_at responses exits exit_at exits_of is_withdrawn
underway-act = refl

pub underway-command : command_of underway guard ≡ Some Release
unfolding left_by
underway-command = refl

-- ---- leaving, and paid

abbrev left : List RootCall
left = StartDeposit 21 1 1 ∷ began 100

pub left-leaving : word left ≡ Leaving 907200
unfolding least payment left_by answer_shown start_shown next_link balance_of pays takes share_of now blocks coins
    block_at coin_at responses exits exit_at exits_of is_withdrawn
left-leaving = refl

abbrev paid : List RootCall
paid = Finish 21 1 1 ∷ Tick 907200 ∷ left

pub paid-taken : are_taken paid ≡ true
unfolding are_taken answer_to shown_tx transfer_in signed_in body_in leaf_in body_text owner_text owner_in u32_at
    balance_of pays takes share_of funded now blocks coins block_at coin_at responses exits exit_at is_withdrawn
paid-taken = refl

pub paid-paid : word paid ≡ Paid
unfolding least payment left_by answer_shown start_shown next_link balance_of pays takes share_of now blocks coins
    block_at coin_at responses exits exit_at exits_of is_withdrawn
paid-paid = refl

-- ---- gone

-- nobody challenged the stranger's exits, and one was finished, in line 11
abbrev taken : List RootCall
taken = Finish 50 1 3 ∷ Tick 907200 ∷ attacked 40

pub taken-taken : are_taken taken ≡ true
unfolding are_taken answer_to shown_tx transfer_in signed_in body_in leaf_in body_text owner_text owner_in u32_at
    balance_of pays takes share_of funded now blocks coins block_at coin_at responses exits exit_at is_withdrawn
taken-taken = refl

pub taken-gone : word taken ≡ Gone 30 11
unfolding least payment left_by answer_shown start_shown next_link balance_of pays takes share_of now blocks coins
    block_at coin_at responses exits exit_at exits_of is_withdrawn
taken-gone = refl
