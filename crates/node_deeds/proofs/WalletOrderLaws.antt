-- An order's record is one that a wallet may have.
use Rattle.node_deeds.proofs.Words.{◌≡◌, ℕ, true, List, Option, Some, None, inl, inr, refl, WalletRecords, accepts_keep_the_role, sends_keep_the_role, leaves_keep_the_role, reclaims_keep_the_role, migrations_keep_the_role, with_record, wallet_does}
use Rattle.node_rules.specs.WalletCommandLaws.{with_more}
use Rattle.node_rules.specs.WalletOpening.{is_wallet}
use Rattle.node_replies.specs.declared.order.WalletOrder.{WalletOrder}
use Rattle.node_deeds.specs.WalletLaws.{OrdersAddOneRecord, OrdersKeepTheRole}
use Rattle.node_deeds.proofs.WalletEffects.{accept-leaf, send-note, leave-leaf, reclaim-leaf, migrate-note}

pub orders_add_one_record : OrdersAddOneRecord
unfolding wallet_does
orders_add_one_record dig log wallet (WalletOrder.Accept bundle) = inr (accept-leaf dig wallet log bundle)
orders_add_one_record dig log wallet (WalletOrder.Send coin to last) = inl (send-note dig wallet log coin to last)
orders_add_one_record dig log wallet (WalletOrder.Leave coin) = inr (leave-leaf dig wallet log coin)
orders_add_one_record dig log wallet (WalletOrder.Reclaim bundle) = inr (reclaim-leaf dig wallet log bundle)
orders_add_one_record dig log wallet WalletOrder.Migrate = inl (migrate-note wallet)
orders_add_one_record dig log wallet it = inl refl

-- a wallet's records with what is added, by either word
with-both : (dig : List ℕ → List ℕ) (wallet : WalletRecords) (note leaf : Option (List ℕ))
    → is_wallet dig (record { notes = with_more note wallet.notes; leaves = with_more leaf wallet.leaves }) ≡ true
    → is_wallet dig (record { notes = with_record wallet.notes note; leaves = with_record wallet.leaves leaf })
    ≡ true
with-both dig wallet None None is = is
with-both dig wallet None (Some leaf) is = is
with-both dig wallet (Some note) None is = is
with-both dig wallet (Some note) (Some leaf) is = is

pub orders_keep_the_role : OrdersKeepTheRole
unfolding wallet_does
orders_keep_the_role dig log wallet (WalletOrder.Accept bundle) is fit words =
    with-both dig wallet _ _ (accepts_keep_the_role dig wallet log bundle is fit)
orders_keep_the_role dig log wallet (WalletOrder.Send coin to last) is fit words =
    with-both dig wallet _ _ (sends_keep_the_role dig wallet log coin to last is fit)
orders_keep_the_role dig log wallet (WalletOrder.Leave coin) is fit words =
    with-both dig wallet _ _ (leaves_keep_the_role dig wallet log coin is)
orders_keep_the_role dig log wallet (WalletOrder.Reclaim bundle) is fit words =
    with-both dig wallet _ _ (reclaims_keep_the_role dig wallet log bundle is fit words)
orders_keep_the_role dig log wallet WalletOrder.Migrate is fit words =
    with-both dig wallet _ _ (migrations_keep_the_role dig wallet is)
orders_keep_the_role dig log wallet it is fit words = is
