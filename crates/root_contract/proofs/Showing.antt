-- What an opening shows, by whether its block was committed and whether it opens that block's root.
use Rattle.root_contract.proofs.Words.{◌≡◌, ℕ, true, false, List, Some, None, RawOpening, RootCall, Tests, Rules, root_at, shown_tx}
use Rattle.plasma_tx.specs.Openings.{leaf_in}
use Rattle.plasma_tx.specs.Transfer.{transfer_in}

pub show-uncommitted : (tests : Tests) (rules : Rules) (log : List RootCall) (coin : ℕ) (opening : RawOpening)
    → root_at log opening.block ≡ None → shown_tx tests rules log coin opening ≡ None
unfolding shown_tx
show-uncommitted tests rules log coin opening is = rw is

pub show-unopened : (tests : Tests) (rules : Rules) (log : List RootCall) (coin : ℕ) (opening : RawOpening)
    (root : List ℕ) → root_at log opening.block ≡ Some root → tests.opens root coin opening ≡ false
    → shown_tx tests rules log coin opening ≡ None
unfolding shown_tx
show-unopened tests rules log coin opening root is closed = rw (is, closed)

pub show-opened : (tests : Tests) (rules : Rules) (log : List RootCall) (coin : ℕ) (opening : RawOpening)
    (root : List ℕ) → root_at log opening.block ≡ Some root → tests.opens root coin opening ≡ true
    → shown_tx tests rules log coin opening ≡ transfer_in rules.tag coin opening.block (leaf_in opening.bytes)
unfolding shown_tx
show-opened tests rules log coin opening root is opened = rw (is, opened)
