-- Who and what stands in the worked lists of events: a wallet with two coins, strangers, an operator who plants
-- transfers, and a digest by which no two strings of their openings collide.
use Rattle.std.specs.Prelude.{ℕ, ◌+◌, ◌==◌, if◌then◌else◌, nat_lt, List, [], ◌∷◌, replicate, slice_index_or, None}
use Rattle.lms_sign.specs.declared.secret.Secret.{Secret}
use Rattle.lms_sign.specs.Tree.{public_key_of, signature_of}
use Rattle.sparse_merkle.specs.MaskedPath.{MaskedPath, proof_path}
use Rattle.sparse_merkle.specs.Opening.{digest_at_level}
use Rattle.plasma_tx.specs.declared.owner.Owner.{Owner}
use Rattle.plasma_tx.specs.declared.body.Body.{Body}
use Rattle.plasma_tx.specs.declared.signed_tx.SignedTx.{SignedTx}
use Rattle.plasma_tx.specs.declared.opening.RawOpening.{RawOpening}
use Rattle.plasma_tx.specs.declared.call.Shown.TheVariants.{Deposit as AtDeposit, Spend}
use Rattle.plasma_tx.specs.declared.call.RootCall.{RootCall}
use Rattle.plasma_tx.specs.declared.call.RootCall.TheVariants.{Fund, Deposit, Commit, StartDeposit, StartSpend, After, Between, Before}
use Rattle.plasma_tx.specs.Spelling.{body_text, signed_text}
use Rattle.plasma_tx.specs.Openings.{raw_of}
use Rattle.plasma_tx.specs.Shown.{Rules}
use Rattle.coin_history.specs.declared.bundle.Bundle.{Bundle}
use Rattle.world_rules.specs.Events.{Event, Declares, Joins, Accepts}

-- ---- who

-- The wallet is node 1, and 21 is its account. Account 9 is the operator's, 30 a stranger's, and 40 his friend's.
abbrev pub me : Owner
me = record { account = 21; key = 0 ∷ 0 ∷ 0 ∷ 5 ∷ 0 ∷ 0 ∷ 0 ∷ 3 ∷ replicate 48 7 }

-- the stranger's secret key, by which he signs
abbrev pub secret : Secret
secret = record { types = record { lms = 5; ots = 4 }; id = replicate 16 1; seed = replicate 32 2 }

abbrev pub stranger : Owner
stranger = record { account = 30; key = public_key_of secret }

abbrev pub tag : List ℕ
tag = replicate 32 0

abbrev pub rules : Rules
rules = record { tag = tag; operator = 9; most_blocks = 100 }

-- ---- transfers

-- the transfer of a coin from a block to an owner
abbrev pub transfer : ℕ → ℕ → Owner → Body
transfer coin from to = record { tag = tag; coin = coin; parent = from; to = to; last = None }

-- signed by the stranger; and by nobody
unfoldable pub signed : Body → SignedTx
signed body = record { body = body; signature = signature_of secret 0 (body_text body) }

unfoldable pub unsigned : Body → SignedTx
unsigned body = record { body = body; signature = [] }

-- ---- blocks

-- a number that is no byte counts as 0
abbrev pub byte : ℕ → ℕ
byte number = if nat_lt number 256 then number else 0

-- what the digest keeps, in 32 bytes: a level, and a number for the leaf
abbrev pub print : ℕ → ℕ → List ℕ
print level leaf = byte level ∷ byte leaf ∷ replicate 30 0

-- The digest. Of a leaf it keeps the lowest bytes of the block that the transfer is from and of the account that it
-- goes to, together; and of a node its level, and what its two children keep, together.
unfoldable pub digest : List ℕ → List ℕ
digest string =
    if slice_index_or string 0 0 == 2
    then print (slice_index_or string 1 0 + 1) (slice_index_or string 2 0 + slice_index_or string 34 0)
    else print 0 (slice_index_or string 52 0 + slice_index_or string 60 0)

-- the way up from a leaf that is alone in its block: each sibling is the default of its level
abbrev pub alone : MaskedPath
alone = record { mask = 0; siblings = [] }

-- the root of a block that holds one transfer of the coin, and the opening of that transfer
abbrev pub root_with : ℕ → SignedTx → List ℕ
root_with coin tx = digest_at_level digest coin (signed_text tx) (proof_path digest alone) 64

unfoldable pub shows : ℕ → SignedTx → RawOpening
shows block tx = raw_of (record { block = block; leaf = signed_text tx; proof = alone })

-- the operator commits such a block
abbrev pub commits : ℕ → SignedTx → Event
commits coin tx = Joins (Commit 9 (root_with coin tx))

-- ---- two coins, attacked

-- what the operator plants: transfers to the stranger that nobody signed, from blocks that aren't there
abbrev pub planted : ℕ → SignedTx
planted coin = unsigned (transfer coin 200 stranger)

abbrev pub hidden : SignedTx
hidden = unsigned (transfer 1 201 stranger)

-- and the stranger's transfer to himself from where it was planted
abbrev pub taken : ℕ → ℕ → SignedTx
taken coin from = signed (transfer coin from stranger)

-- The wallet deposited coin 1 in block 1 and coin 2 in block 2, and has so much left. Block 3 has a planted transfer of
-- coin 1, which the friend alone is shown; block 4 has another, and block 5 the stranger's from there; so have blocks 6
-- and 7 for coin 2.
abbrev pub began : ℕ → List Event
began left =
    commits 2 (taken 2 6)
    ∷ commits 2 (planted 2)
    ∷ commits 1 (taken 1 4)
    ∷ commits 1 (planted 1)
    ∷ commits 1 hidden
    ∷ Joins (Deposit 21 5 me.key)
    ∷ Joins (Deposit 21 5 me.key)
    ∷ Joins (Fund 40 40)
    ∷ Joins (Fund 30 200)
    ∷ Joins (Fund 21 (left + 10))
    ∷ Declares 1 me
    ∷ []

-- the stranger exits with coin 1, and with coin 2
abbrev pub exit_one : RootCall
exit_one = StartSpend 30 1 (Spend (shows 4 (planted 1))) (shows 5 (taken 1 4))

abbrev pub exit_two : RootCall
exit_two = StartSpend 30 2 (Spend (shows 6 (planted 2))) (shows 7 (taken 2 6))

abbrev pub attacked : ℕ → List Event
attacked left = Joins exit_one ∷ began left

-- the Befores that are due, and the friend's, at the hidden block
abbrev pub before_one : RootCall
before_one = Before 21 1 5 (AtDeposit 1)

abbrev pub before_two : RootCall
before_two = Before 21 2 7 (AtDeposit 2)

abbrev pub before_by_friend : RootCall
before_by_friend = Before 40 1 5 (Spend (shows 3 hidden))

-- the exit of the wallet itself
abbrev pub own_exit : RootCall
own_exit = StartDeposit 21 1 1

-- ---- a coin that was received

-- The stranger deposited coin 1 in block 1, and block 2 has his transfer to the wallet, which accepted the coin. It has
-- no money.
abbrev pub link : RawOpening
link = shows 2 (signed (transfer 1 1 me))

abbrev pub bundle : Bundle
bundle = record { coin = 1; tip = 2; openings = link ∷ [] }

abbrev pub received : List Event
received =
    Accepts 1 bundle
    ∷ commits 1 (signed (transfer 1 1 me))
    ∷ Joins (Deposit 30 5 stranger.key)
    ∷ Joins (Fund 30 105)
    ∷ Declares 1 me
    ∷ []

-- the exit of the old owner, and what shows that he is one
abbrev pub old_exit : RootCall
old_exit = StartDeposit 30 1 1

abbrev pub after : RootCall
after = After 21 1 1 link

-- The old owner's second transfer of the coin, to himself, stands in block 3, and he exits with it; and what shows that
-- the coin was spent before.
abbrev pub second : SignedTx
second = signed (transfer 1 1 stranger)

abbrev pub second_exit : RootCall
second_exit = StartSpend 30 1 (AtDeposit 1) (shows 3 second)

abbrev pub between : RootCall
between = Between 21 1 3 link
