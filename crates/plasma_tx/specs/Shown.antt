-- What a call shows: openings of committed roots, and the transfers in them.
use Rattle.std.specs.Prelude.{ℕ, ◌==◌, Bool, false, if◌then◌else◌, List, Option, Some, None, Result, Ok, Err}
use Rattle.std.specs.Option.{option_map, option_and_then}
use Rattle.sparse_merkle.specs.{MaskedPath.{proof_path}, Opening.{is_opening}}
use Rattle.plasma_tx.specs.{declared.owner.Owner.{Owner}, declared.opening.RawOpening.{RawOpening}, declared.opening.Opening.{Opening}, declared.opening.OpeningRefusal.{OpeningRefusal}, declared.signed_tx.SignedTx.{SignedTx}}
use Rattle.plasma_tx.specs.{declared.call.Shown.{Shown}, declared.call.Shown.TheVariants.{Deposit as AtDeposit, Spend}, declared.call.RootCall.{RootCall}, declared.views.BlockView.{BlockView}}
use Rattle.plasma_tx.specs.{declared.views.BlockView.TheVariants.{DepositOf, Root}, Chain.{Chain}, Openings.{leaf_in, opening_in}, Transfer.{transfer_in, is_signed_by}, Views.{block_at, coin_at}}

-- The tests that the rules of a log leave open: whether an opening opens a root at a coin, and whether an owner
-- signed a transfer. A law that holds for all tests holds under every digest.
pub record Tests : Type 0 where
  pub opens : List ℕ → ℕ → RawOpening → Bool
  pub is_signed : SignedTx → Owner → Bool

-- an opening that was read opens the root at the coin; one that doesn't read opens none
abbrev pub opens_root : (List ℕ → List ℕ) → List ℕ → ℕ → Result Opening OpeningRefusal → Bool
opens_root dig root coin (Err why) = false
opens_root dig root coin (Ok opening) = is_opening dig root coin opening.leaf (proof_path dig opening.proof)

-- the tests under a digest: an opening reads, and opens the root; the owner's key reads, and the signature is valid
-- under it
abbrev pub tests_by : (List ℕ → List ℕ) → Tests
tests_by dig = record {
  opens = λ root coin opening. opens_root dig root coin (opening_in dig opening);
  is_signed = is_signed_by;
}

-- what a contract is made with
pub record Rules : Type 0 where
  pub tag : List ℕ
  pub operator : ℕ
  pub most_blocks : ℕ

-- what the contract of a chain was made with
abbrev pub rules_of : Chain → Rules
rules_of chain = record { tag = chain.tag; operator = chain.operator; most_blocks = chain.most_blocks }

-- the root of a block that was committed
abbrev pub root_in : BlockView → Option (List ℕ)
root_in (DepositOf coin) = None
root_in (Root root) = Some root

-- the root of block n, where it was committed
abbrev pub root_at : List RootCall → ℕ → Option (List ℕ)
root_at log n = option_and_then root_in (block_at log n)

-- the transfer of the coin that an opening shows: it opens the root of its block, and its leaf is a transfer of the
-- block with this tag and coin; None where one of these isn't so
unfoldable pub shown_tx : Tests → Rules → List RootCall → ℕ → RawOpening → Option SignedTx
shown_tx tests rules log coin opening =
    option_and_then (λ root.
    if tests.opens root coin opening
    then transfer_in rules.tag coin opening.block (leaf_in opening.bytes)
    else None)
    (root_at log opening.block)

-- the owner after what is shown: the depositor, or the new owner of the transfer
abbrev pub shown_owner : Tests → Rules → List RootCall → ℕ → Shown → Option Owner
shown_owner tests rules log coin (AtDeposit block) = option_map (λ made. made.owner) (coin_at log coin)
shown_owner tests rules log coin (Spend opening) = option_map (λ tx. tx.body.to) (shown_tx tests rules log coin opening)

-- the transfer spends that block
abbrev pub spends : ℕ → Option SignedTx → Bool
spends block None = false
spends block (Some tx) = tx.body.parent == block

-- the owner signed the transfer
abbrev pub signs : Tests → Option Owner → Option SignedTx → Bool
signs tests None tx = false
signs tests (Some owner) None = false
signs tests (Some owner) (Some tx) = tests.is_signed tx owner

-- the transfer goes to the account
abbrev pub goes_to : ℕ → Option SignedTx → Bool
goes_to account None = false
goes_to account (Some tx) = tx.body.to.account == account
