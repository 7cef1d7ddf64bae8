-- Where an operator's call takes memory: openings are made of known trees alone, and an offer's signature is read where
-- the log has its coin. Before that a cause is told whatever memory there is.
use Rattle.std.specs.Prelude.{ℕ, ◌==◌, ◌&&◌, Bool, true, false, is_some, if◌then◌else◌, List, [], ◌∷◌, Option, Some, None, Result, Ok, Err}
use Rattle.std.specs.List.{list_any}
use Rattle.sparse_merkle.specs.declared.tree.Entry.{Entry}
use Rattle.plasma_tx.specs.declared.call.RootCall.{RootCall}
use Rattle.plasma_tx.specs.declared.signed_tx.SignedTx.{SignedTx}
use Rattle.plasma_tx.specs.declared.signed_tx.TxRefusal.{TxRefusal}
use Rattle.plasma_tx.specs.declared.views.CoinView.{CoinView}
use Rattle.plasma_tx.specs.Views.{blocks, coin_at}
use Rattle.coin_history.specs.Checking.{may_be_tip}
use Rattle.coin_history.specs.History.{committed_blocks}
use Rattle.operator_rules.specs.Trees.{tree_at}

-- block n was committed, and its tree is known
abbrev pub is_known : (List ℕ → List ℕ) → List RootCall → List (List Entry) → ℕ → Bool
is_known dig log sealed n = is_some (tree_at dig log sealed n)

-- the first of these blocks is known, and one of them is
abbrev pub first_is_known : (List ℕ → List ℕ) → List RootCall → List (List Entry) → List ℕ → Bool
first_is_known dig log sealed [] = false
first_is_known dig log sealed (n ∷ blocks) = is_known dig log sealed n

abbrev pub one_is_known : (List ℕ → List ℕ) → List RootCall → List (List Entry) → List ℕ → Bool
one_is_known dig log sealed blocks = list_any (is_known dig log sealed) blocks

-- A bundle is begun: the coin is there, a tip that is asked for may be one, and the first block on its way is known. On
-- the walk to the present tip a block is known.
abbrev pub is_begun : (List ℕ → List ℕ) → List RootCall → List (List Entry) → ℕ → Option CoinView → Bool
is_begun dig log sealed tip None = false
is_begun dig log sealed tip (Some made) =
    if tip == 0 then one_is_known dig log sealed (committed_blocks log made.deposit (blocks log))
    else may_be_tip log made.deposit tip && first_is_known dig log sealed (committed_blocks log made.deposit tip)

-- what was read is a transfer, and the log has its coin
abbrev pub has_its_coin : List RootCall → Result SignedTx TxRefusal → Bool
has_its_coin log (Err why) = false
has_its_coin log (Ok tx) = is_some (coin_at log tx.body.coin)
