-- What an accepted call shows.
use Rattle.std.specs.Prelude.{◌≡◌, ℕ, ◌+◌, ◌<◌, ◌≤◌, true, false, List, Some, None}
use Rattle.plasma_tx.specs.{declared.rules.TheConstants.{EXIT_BOND, CHALLENGE_BOND, CHALLENGE_WINDOW, RESPONSE_WINDOW, EXIT_PERIOD}, declared.owner.Owner.{Owner}, declared.opening.RawOpening.{RawOpening}}
use Rattle.plasma_tx.specs.{declared.signed_tx.SignedTx.{SignedTx}, declared.call.Shown.{Shown}, declared.call.RootCall.{RootCall}, declared.views.CoinView.{CoinView}, Openings.{leaf_in}, Transfer.{transfer_in}}
use Rattle.plasma_tx.specs.{Views.{now, blocks, coin_at, Challenge, Exit, exit_at, challenge_at, block_of, is_withdrawn}, Shown.{Tests, Rules, root_at, shown_owner}, Table.{is_key, is_committed_after, is_parent_of, is_before_parent}}
use Rattle.plasma_tx.specs.Money.{balance_of}

-- An opening of the coin shows the transfer: it opens the root of its block, which was committed, and its leaf is a
-- transfer of the block with the tag and the coin.
pub record ShowsTx (tests : Tests) (rules : Rules) (log : List RootCall) (coin : ℕ) (opening : RawOpening)
    (tx : SignedTx) : Type 0 where
  pub root : List ℕ
  pub committed : root_at log opening.block ≡ Some root
  pub opened : tests.opens root coin opening ≡ true
  pub spelled : transfer_in rules.tag coin opening.block (leaf_in opening.bytes) ≡ Some tx

-- an accepted Deposit
pub record Deposits (rules : Rules) (log : List RootCall) (account amount : ℕ) (key : List ℕ) : Type 0 where
  pub some_money : 0 < amount
  pub key_reads : is_key key ≡ true
  pub covered : amount ≤ balance_of log account
  pub room : blocks log < rules.most_blocks

-- an accepted Commit
pub record Commits (rules : Rules) (log : List RootCall) (account : ℕ) : Type 0 where
  pub operator : account ≡ rules.operator
  pub room : blocks log < rules.most_blocks

-- an accepted start of a deposit's exit
pub record StartsDeposit (log : List RootCall) (account c block : ℕ) : Type 0 where
  pub coin : CoinView
  pub there : coin_at log c ≡ Some coin
  pub not_withdrawn : is_withdrawn log c ≡ false
  pub at_deposit : block ≡ coin.deposit
  pub owner : account ≡ coin.owner.account
  pub none_stands : exit_at log c block ≡ None
  pub covered : EXIT_BOND ≤ balance_of log account

-- an accepted start of a transfer's exit: the transfer is shown, goes to the account, spends the parent, and was
-- signed by the parent's owner, who is shown
pub record StartsSpend (tests : Tests) (rules : Rules) (log : List RootCall) (account c : ℕ) (parent : Shown)
    (exit : RawOpening) : Type 0 where
  pub coin : CoinView
  pub there : coin_at log c ≡ Some coin
  pub not_withdrawn : is_withdrawn log c ≡ false
  pub committed : is_committed_after log coin.deposit exit.block ≡ true
  pub parent_fits : is_parent_of log coin exit.block parent ≡ true
  pub parent_owner : Owner
  pub parent_shown : shown_owner tests rules log c parent ≡ Some parent_owner
  pub tx : SignedTx
  pub shown : ShowsTx tests rules log c exit tx
  pub child : tx.body.parent ≡ block_of parent
  pub signed : tests.is_signed tx parent_owner ≡ true
  pub owner : tx.body.to.account ≡ account
  pub none_stands : exit_at log c exit.block ≡ None
  pub covered : EXIT_BOND ≤ balance_of log account

-- an accepted After: a later block has a transfer that spends the exit's block, signed by the exit's owner
pub record CancelsAfter (tests : Tests) (rules : Rules) (log : List RootCall) (c exit_block : ℕ)
    (spend : RawOpening) : Type 0 where
  pub exit : Exit
  pub stands : exit_at log c exit_block ≡ Some exit
  pub in_time : now log < exit.start + CHALLENGE_WINDOW
  pub later : exit.block < spend.block
  pub tx : SignedTx
  pub shown : ShowsTx tests rules log c spend tx
  pub child : tx.body.parent ≡ exit.block
  pub signed : tests.is_signed tx exit.owner ≡ true

-- an accepted Between: a block between the exit's parent and the exit has a transfer that spends the parent, signed
-- by the parent's owner
pub record CancelsBetween (tests : Tests) (rules : Rules) (log : List RootCall) (c exit_block : ℕ)
    (spend : RawOpening) : Type 0 where
  pub exit : Exit
  pub stands : exit_at log c exit_block ≡ Some exit
  pub in_time : now log < exit.start + CHALLENGE_WINDOW
  pub parent : 0 < exit.parent
  pub later : exit.parent < spend.block
  pub earlier : spend.block < exit.block
  pub tx : SignedTx
  pub shown : ShowsTx tests rules log c spend tx
  pub child : tx.body.parent ≡ exit.parent
  pub signed : tests.is_signed tx exit.parent_owner ≡ true

-- an accepted Before: something before the exit's parent is shown, whose block no challenge of the exit named
pub record Challenges (tests : Tests) (rules : Rules) (log : List RootCall) (account c exit_block : ℕ)
    (shown : Shown) : Type 0 where
  pub exit : Exit
  pub stands : exit_at log c exit_block ≡ Some exit
  pub in_time : now log < exit.start + CHALLENGE_WINDOW
  pub before : is_before_parent log (coin_at log c) exit shown ≡ true
  pub owner : Owner
  pub owner_shown : shown_owner tests rules log c shown ≡ Some owner
  pub none_there : challenge_at (block_of shown) exit.challenges ≡ None
  pub covered : CHALLENGE_BOND ≤ balance_of log account

-- an accepted Respond: a block after the challenged one, and at most the exit's parent, has a transfer that spends
-- the challenged block, signed by the owner whom the challenge showed
pub record Responds (tests : Tests) (rules : Rules) (log : List RootCall) (c exit_block challenged : ℕ)
    (spend : RawOpening) : Type 0 where
  pub exit : Exit
  pub stands : exit_at log c exit_block ≡ Some exit
  pub challenge : Challenge
  pub there : challenge_at challenged exit.challenges ≡ Some challenge
  pub open_still : challenge.answered ≡ false
  pub in_time : now log < challenge.at + RESPONSE_WINDOW
  pub later : challenge.block < spend.block
  pub within : spend.block ≤ exit.parent
  pub tx : SignedTx
  pub shown : ShowsTx tests rules log c spend tx
  pub child : tx.body.parent ≡ challenge.block
  pub signed : tests.is_signed tx challenge.owner ≡ true

-- an accepted Finish
pub record Finishes (log : List RootCall) (c exit_block : ℕ) : Type 0 where
  pub exit : Exit
  pub stands : exit_at log c exit_block ≡ Some exit
  pub in_time : exit.start + EXIT_PERIOD ≤ now log
