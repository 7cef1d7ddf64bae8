-- The tag that bytes name, and the transfers of a chain's tag. Bytes of another tag are read as no transfer of the
-- chain, neither by themselves nor as a leaf.
use Rattle.std.specs.Prelude.{◌≡◌, ◌≢◌, ℕ, List, None, Ok, Err}
use Rattle.plasma_tx.specs.declared.opening.RawOpening.{RawOpening}
use Rattle.plasma_tx.specs.declared.signed_tx.SignedTx.{SignedTx}
use Rattle.plasma_tx.specs.declared.signed_tx.TxRefusal.TheVariants.{BadTag}
use Rattle.plasma_tx.specs.declared.call.RootCall.{RootCall}
use Rattle.plasma_tx.specs.Spelling.{body_at_start, signed_in}
use Rattle.plasma_tx.specs.Transfer.{transfer_in}
use Rattle.plasma_tx.specs.Shown.{Tests, Rules, shown_tx}
use Rattle.coin_history.specs.History.{leaf_of_opening}

-- the tag of the body that bytes begin with
abbrev pub tag_named : List ℕ → List ℕ
tag_named bytes = (body_at_start bytes).tag

-- the bytes are read as this transfer; it is of the coin, and has the tag, which the bytes name
pub record IsOfChain (tag : List ℕ) (coin : ℕ) (bytes : List ℕ) (tx : SignedTx) : Type 0 where
  pub read : signed_in tag bytes ≡ Ok tx
  pub tag_is : tx.body.tag ≡ tag
  pub coin_is : tx.body.coin ≡ coin
  pub named : tag_named bytes ≡ tag

-- the leaf that an opening shows is such a transfer
abbrev pub ShowsOwn : List ℕ → ℕ → RawOpening → Type 0
ShowsOwn tag coin opening = (tx : SignedTx) × IsOfChain tag coin (leaf_of_opening opening) tx

-- bytes that are read as a transfer name its tag
abbrev pub ReadTransfersHaveTheTag : Type 0
ReadTransfersHaveTheTag = (tag bytes : List ℕ) (tx : SignedTx) → signed_in tag bytes ≡ Ok tx
    → IsOfChain tag tx.body.coin bytes tx

-- a transfer of another tag is refused for its tag
abbrev pub OthersAreRefused : Type 0
OthersAreRefused = (tag bytes : List ℕ) (tx : SignedTx) → tag_named bytes ≢ tag
    → signed_in (tag_named bytes) bytes ≡ Ok tx → signed_in tag bytes ≡ Err BadTag

-- a leaf of another tag is no transfer, of whatever coin and block
abbrev pub OthersAreNoTransfers : Type 0
OthersAreNoTransfers = (tag leaf : List ℕ) (coin block : ℕ) → tag_named leaf ≢ tag
    → transfer_in tag coin block leaf ≡ None

-- so an opening of it shows none to the contract
abbrev pub OthersAreNotShown : Type 0
OthersAreNotShown = (tests : Tests) (rules : Rules) (log : List RootCall) (coin : ℕ) (opening : RawOpening)
    → tag_named (leaf_of_opening opening) ≢ rules.tag → shown_tx tests rules log coin opening ≡ None
