-- Where a coin is by the operator's trees.
use Rattle.std.specs.Prelude.{ℕ, zero, suc, ◌==◌, ◌&&◌, nat_lt, if◌then◌else◌, List, Option, Some, None}
use Rattle.std.specs.Option.{option_and_then}
use Rattle.sparse_merkle.specs.{declared.tree.Entry.{Entry}, TreeDigest.{leaf_of}}
use Rattle.plasma_tx.specs.{declared.owner.Owner.{Owner}, declared.signed_tx.SignedTx.{SignedTx}, declared.call.RootCall.{RootCall}, declared.views.CoinView.{CoinView}, Transfer.{transfer_in, is_signed_by}, Views.{blocks}}
use Rattle.operator_rules.specs.Trees.{tree_at}

-- a block that a coin came to, and its owner there
pub record Place : Type 0 where
  pub block : ℕ
  pub owner : Owner

-- the deposit
abbrev pub start_of : CoinView → Place
start_of made = record { block = made.deposit; owner = made.owner }

-- The place after a block with this transfer of the coin in its leaf: it moves the tip where it spends the tip and the
-- tip's owner signed it.
abbrev pub moved_by : ℕ → Place → Option SignedTx → Place
moved_by n last None = last
moved_by n last (Some tx) =
    if (tx.body.parent == last.block) && is_signed_by tx last.owner then record { block = n; owner = tx.body.to }
    else last

-- the transfer of the coin that the tree of block n has
abbrev pub transfer_at : (List ℕ → List ℕ) → List ℕ → List RootCall → List (List Entry) → ℕ → ℕ → Option SignedTx
transfer_at dig tag log sealed coin n =
    option_and_then (λ tree. transfer_in tag coin n (leaf_of tree coin)) (tree_at dig log sealed n)

-- the place after block n: over the committed blocks with a tree, from the deposit on
unfoldable pub place_at : (List ℕ → List ℕ) → List ℕ → List RootCall → List (List Entry) → ℕ → CoinView → ℕ → Place
place_at dig tag log sealed coin made zero = start_of made
place_at dig tag log sealed coin made (suc n) =
    if nat_lt made.deposit (suc n)
    then moved_by (suc n) (place_at dig tag log sealed coin made n) (transfer_at dig tag log sealed coin (suc n))
    else start_of made

-- the present tip and its owner
abbrev pub present : (List ℕ → List ℕ) → List ℕ → List RootCall → List (List Entry) → ℕ → CoinView → Place
present dig tag log sealed coin made = place_at dig tag log sealed coin made (blocks log)
