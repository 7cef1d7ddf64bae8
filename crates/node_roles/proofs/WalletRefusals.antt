-- A wallet's refused command adds nothing, and no command both a note and a leaf's record.
use Rattle.node_roles.proofs.Words.{◌≡◌, ◌⊎◌, ℕ, Bool, true, false, List, [], ◌∷◌, ◌++◌, Option, None, Result, Ok, Err, refl, sym, subst, inl, are_of, RootCall, is_marked, who_is, wallet_kinds, wallet_cause, on_accepted, on_sent, on_leaving, on_reclaimed, on_migrated, wallet_does, wallet_outcome}
use Rattle.plasma_tx.specs.declared.owner.Owner.{Owner}
use Rattle.wallet_core.specs.declared.coin_state.CoinState.{CoinState}
use Rattle.wallet_core.specs.declared.coin_state.CoinState.TheVariants.{Held}
use Rattle.node_rules.specs.declared.refusal.WalletRefusal.{WalletRefusal}
use Rattle.node_rules.specs.Wallet.{WalletRecords, WalletEffect, answers, coin_state, accept_effect, send_effect, leave_from, leave_effect, reclaim_effect, migrate_effect}
use Rattle.node_rules.proofs.WalletRole.{leaves_are_answered}
use Rattle.node_replies.proofs.WalletEnds.{AcceptEnds, accept_ends, SendEnds, send_ends, ReclaimEnds, reclaim_ends}
use Rattle.node_replies.specs.declared.order.WalletOrder.{WalletOrder}
use Rattle.node_lines.specs.declared.wallet_line.WalletLine.{WalletLine}
use Rattle.node_deeds.proofs.WalletOrderLaws.{orders_add_one_record}
use Rattle.node_roles.proofs.Refusals.{AddsNothingRefused, refused-by}

-- an effect that is refused adds nothing
abbrev Quiet : {A : Type 0} → WalletEffect (Result A WalletRefusal) → Type 0
Quiet effect = (why : WalletRefusal) → effect.answer ≡ Err why → (effect.leaf ≡ None) × (effect.note ≡ None)

only-quiet : {A : Type 0} (answer : Result A WalletRefusal) → Quiet (answers answer)
only-quiet answer why is = (refl, refl)

done-quiet : {A : Type 0} (effect : WalletEffect (Result A WalletRefusal)) (answer : A) → effect.answer ≡ Ok answer
    → Quiet effect
done-quiet effect answer done why is = cc

-- ---- by how each ends

accept-by : (dig : List ℕ → List ℕ) (wallet : WalletRecords) (log : List RootCall) (bytes : List ℕ)
    (effect : WalletEffect (Result _ WalletRefusal)) → AcceptEnds dig wallet log bytes effect → Quiet effect
accept-by dig wallet log bytes effect (AcceptEnds.Refused why same) =
    subst (λ effect. Quiet effect) (sym same) (only-quiet (Err why))
accept-by dig wallet log bytes effect (AcceptEnds.Known links handed mine known same) =
    subst (λ effect. Quiet effect) (sym same) (only-quiet (Ok _))
accept-by dig wallet log bytes effect (AcceptEnds.New links handed same) =
    subst (λ effect. Quiet effect) (sym same) (done-quiet _ _ refl)

send-by : (dig : List ℕ → List ℕ) (wallet : WalletRecords) (log : List RootCall) (coin : ℕ) (to : Owner)
    (last : Option ℕ) (effect : WalletEffect (Result _ WalletRefusal)) → SendEnds dig wallet log coin to last effect
    → Quiet effect
send-by dig wallet log coin to last effect (SendEnds.Refused why same) =
    subst (λ effect. Quiet effect) (sym same) (only-quiet (Err why))
send-by dig wallet log coin to last effect (SendEnds.Sends tip held same) =
    subst (λ effect. Quiet effect) (sym same) (done-quiet _ _ refl)

reclaim-by : (effect : WalletEffect (Result _ WalletRefusal)) → ReclaimEnds effect → Quiet effect
reclaim-by effect (ReclaimEnds.Refused why same) =
    subst (λ effect. Quiet effect) (sym same) (only-quiet (Err why))
reclaim-by effect (ReclaimEnds.Takes taken same) =
    subst (λ effect. Quiet effect) (sym same) (done-quiet _ taken refl)

-- the start of an exit is there for each coin that is held
leave-quiet : (dig : List ℕ → List ℕ) (wallet : WalletRecords) (log : List RootCall) (coin : ℕ)
    → Quiet (leave_effect dig wallet log coin)
unfolding leave_effect
leave-quiet dig wallet log coin why is = by (coin_state dig wallet log coin) refl
  where
    by : (state : CoinState) → coin_state dig wallet log coin ≡ state
        → ((leave_from dig wallet log coin state).leaf ≡ None) × ((leave_from dig wallet log coin state).note ≡ None)
    by (Held tip) state = let found = leaves_are_answered dig wallet log coin tip (inl state) in cc (found.2, is)
    by it state = (refl, refl)

migrate-quiet : (wallet : WalletRecords) → Quiet (migrate_effect wallet)
unfolding migrate_effect
migrate-quiet wallet why is = by (is_marked wallet.leaves) refl
  where
    by : (marked : Bool) → is_marked wallet.leaves ≡ marked
        → ((migrate_effect wallet).leaf ≡ None) × ((migrate_effect wallet).note ≡ None)
    by true marked = (rw marked refl, rw marked refl)
    by false marked = (let wrong = rw marked at is in cc)

pub wallet-quiet : (dig : List ℕ → List ℕ) (log : List RootCall) (wallet : WalletRecords) (line : WalletLine)
    → AddsNothingRefused (wallet_outcome dig log wallet line)
unfolding wallet_outcome wallet_does
wallet-quiet dig log wallet (WalletLine.Order (WalletOrder.Accept bundle)) cause is =
    refused-by wallet_cause on_accepted (accept_effect dig wallet log bundle).answer _ cause
    (λ a why wrong. cc)
    (accept-by dig wallet log bundle (accept_effect dig wallet log bundle) (accept_ends dig wallet log bundle)) is
wallet-quiet dig log wallet (WalletLine.Order (WalletOrder.Send coin to last)) cause is =
    refused-by wallet_cause on_sent (send_effect dig wallet log coin to last).answer _ cause
    (λ a why wrong. cc)
    (send-by dig wallet log coin to last (send_effect dig wallet log coin to last)
    (send_ends dig wallet log coin to last)) is
wallet-quiet dig log wallet (WalletLine.Order (WalletOrder.Again coin)) cause is = (refl, refl)
wallet-quiet dig log wallet (WalletLine.Order (WalletOrder.Leave coin)) cause is =
    refused-by wallet_cause on_leaving (leave_effect dig wallet log coin).answer _ cause (λ a why wrong. cc)
    (leave-quiet dig wallet log coin) is
wallet-quiet dig log wallet (WalletLine.Order (WalletOrder.Reclaim bundle)) cause is =
    refused-by wallet_cause on_reclaimed (reclaim_effect dig wallet log bundle).answer _ cause
    (λ a why wrong. cc)
    (reclaim-by (reclaim_effect dig wallet log bundle) (reclaim_ends dig wallet log bundle)) is
wallet-quiet dig log wallet (WalletLine.Order WalletOrder.Migrate) cause is =
    refused-by wallet_cause on_migrated (migrate_effect wallet).answer _ cause (λ a why wrong. cc)
    (migrate-quiet wallet) is
wallet-quiet dig log wallet (WalletLine.Order WalletOrder.Watch) cause is = (refl, refl)
wallet-quiet dig log wallet (WalletLine.State coin) cause is = (refl, refl)
wallet-quiet dig log wallet WalletLine.Who cause is = (refl, refl)

-- a command adds a note or a leaf's record at most
pub wallet-adds-one : (dig : List ℕ → List ℕ) (log : List RootCall) (wallet : WalletRecords) (line : WalletLine)
    → ((wallet_outcome dig log wallet line).note ≡ None) ⊎ ((wallet_outcome dig log wallet line).leaf ≡ None)
unfolding wallet_outcome
wallet-adds-one dig log wallet (WalletLine.Order order) = orders_add_one_record dig log wallet order
wallet-adds-one dig log wallet line = inl refl

-- the tag is that of the first note
pub wallet-tag : (dig : List ℕ → List ℕ) (notes : List (List ℕ)) → are_of (wallet_kinds dig) notes ≡ true
    → (body : List ℕ) → (who_is (notes ++ body ∷ [])).tag ≡ (who_is notes).tag
unfolding who_is
wallet-tag dig [] role body = cc
wallet-tag dig (first ∷ notes) role body = refl
