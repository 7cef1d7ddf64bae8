-- What holds of a wallet's orders.
use Rattle.std.specs.Prelude.{◌≡◌, ◌⊎◌, ℕ, true, List, None, length}
use Rattle.plasma_tx.specs.declared.call.RootCall.{RootCall}
use Rattle.plasma_tx.specs.Spelling.{AreBytes}
use Rattle.node_rules.specs.Wallet.{WalletRecords}
use Rattle.node_rules.specs.WalletOpening.{is_wallet}
use Rattle.node_rules.specs.WalletCommandLaws.{FitWords}
use Rattle.node_replies.specs.declared.order.WalletOrder.{WalletOrder}
use Rattle.node_replies.specs.Orders.{Doing, wallet_does, with_record}

-- an order adds a note or a leaf's record at most
abbrev pub OrdersAddOneRecord : Type 0
OrdersAddOneRecord = (dig : List ℕ → List ℕ) (log : List RootCall) (wallet : WalletRecords)
    (order : WalletOrder)
    → ((wallet_does dig log wallet order).note ≡ None) ⊎ ((wallet_does dig log wallet order).leaf ≡ None)

-- a bundle is bytes, and a key has 56
abbrev pub IsFitOrder : WalletOrder → Type 0
IsFitOrder (WalletOrder.Accept bundle) = AreBytes bundle
IsFitOrder (WalletOrder.Send coin to last) = length to.key ≡ 56
IsFitOrder (WalletOrder.Reclaim bundle) = AreBytes bundle
IsFitOrder order = Unit {0}

-- a wallet's records with what an order adds
abbrev pub wallet_after : Doing → WalletRecords → WalletRecords
wallet_after doing wallet =
    record { notes = with_record wallet.notes doing.note; leaves = with_record wallet.leaves doing.leaf }

-- the records stay a wallet's
abbrev pub OrdersKeepTheRole : Type 0
OrdersKeepTheRole = (dig : List ℕ → List ℕ) (log : List RootCall) (wallet : WalletRecords)
    (order : WalletOrder) → is_wallet dig wallet ≡ true → IsFitOrder order → FitWords wallet log
    → is_wallet dig (wallet_after (wallet_does dig log wallet order) wallet) ≡ true
