-- Calls that are accepted, by what they show.
use Rattle.money_laws.proofs.Basics.{◌≡◌, ℕ, ◌==◌, true, false, nat_lt, List, Some, refl, is_some}
use Rattle.money_laws.proofs.CoinWords.{EXIT_BOND, CHALLENGE_BOND, CHALLENGE_WINDOW, Owner, SignedTx, RawOpening, Shown, RootCall, StartSpend, After, Between, Before, CoinView, block_of, coin_at, Exit, exit_at, challenge_at, is_withdrawn, Tests, Rules, shown_owner, shown_tx, answer_to, is_accepted, is_over, is_committed_after, is_committed_between, may_exit_at, is_before_parent, balance_of}

module _ (tests : Tests) (rules : Rules) (log : List RootCall) (account c : ℕ) where
  pub start-taken : (parent : Shown) (exit : RawOpening) (coin : CoinView) (owner : Owner) (tx : SignedTx)
      → coin_at log c ≡ Some coin → shown_owner tests rules log c parent ≡ Some owner
      → shown_tx tests rules log c exit ≡ Some tx → tests.is_signed tx owner ≡ true
      → is_withdrawn log c ≡ false → may_exit_at log coin parent exit.block ≡ true
      → (tx.body.parent == block_of parent) ≡ true → (tx.body.to.account == account) ≡ true
      → is_some (exit_at log c exit.block) ≡ false → nat_lt (balance_of log account) EXIT_BOND ≡ false
      → is_accepted (answer_to tests rules log (StartSpend account c parent exit)) ≡ true
  unfolding answer_to
  start-taken parent exit coin owner tx there from shown signed free fits child mine none rich =
      rw (there, from, shown, signed, free, fits, child, mine, none, rich) refl

  pub before-taken : (exit_block : ℕ) (shown : Shown) (exit : Exit) (owner : Owner)
      → exit_at log c exit_block ≡ Some exit → shown_owner tests rules log c shown ≡ Some owner
      → is_over log exit.start CHALLENGE_WINDOW ≡ false → is_before_parent log (coin_at log c) exit shown ≡ true
      → is_some (challenge_at (block_of shown) exit.challenges) ≡ false
      → nat_lt (balance_of log account) CHALLENGE_BOND ≡ false
      → is_accepted (answer_to tests rules log (Before account c exit_block shown)) ≡ true
  unfolding answer_to
  before-taken exit_block shown exit owner stands from early fits none rich =
      rw (stands, from, early, fits, none, rich) refl

  pub after-taken : (exit_block : ℕ) (spend : RawOpening) (exit : Exit) (tx : SignedTx)
      → exit_at log c exit_block ≡ Some exit → shown_tx tests rules log c spend ≡ Some tx
      → tests.is_signed tx exit.owner ≡ true → is_over log exit.start CHALLENGE_WINDOW ≡ false
      → is_committed_after log exit.block spend.block ≡ true → (tx.body.parent == exit.block) ≡ true
      → is_accepted (answer_to tests rules log (After account c exit_block spend)) ≡ true
  unfolding answer_to
  after-taken exit_block spend exit tx stands shown signed early fits child =
      rw (stands, shown, signed, early, fits, child) refl

  pub between-taken : (exit_block : ℕ) (spend : RawOpening) (exit : Exit) (tx : SignedTx)
      → exit_at log c exit_block ≡ Some exit → shown_tx tests rules log c spend ≡ Some tx
      → tests.is_signed tx exit.parent_owner ≡ true → is_over log exit.start CHALLENGE_WINDOW ≡ false
      → (exit.parent == 0) ≡ false → is_committed_between log exit.parent exit.block spend.block ≡ true
      → (tx.body.parent == exit.parent) ≡ true
      → is_accepted (answer_to tests rules log (Between account c exit_block spend)) ≡ true
  unfolding answer_to
  between-taken exit_block spend exit tx stands shown signed early some fits child =
      rw (stands, shown, signed, early, some, fits, child) refl
