-- What a wallet's commands add: a note or a leaf's record at most, and nothing where they are refused.
use Rattle.node_deeds.proofs.Words.{◌≡◌, ℕ, Bool, true, false, if◌then◌else◌, List, Option, None, Ok, Err, inl, refl, sym, ap, ◌∙◌, Result, RootCall, WalletRefusal, AlreadyNew, WalletRecords, WalletEffect, answers, binds_it, coin_state, accept_effect, send_effect, leave_from, leave_effect, reclaim_effect, migrate_effect, leaves_are_answered}
use Rattle.leaf_journal.specs.Records.{is_marked, marker}
use Rattle.plasma_tx.specs.declared.owner.Owner.{Owner}
use Rattle.wallet_core.specs.declared.coin_state.CoinState.{CoinState}
use Rattle.wallet_core.specs.declared.coin_state.CoinState.TheVariants.{Nothing, Held}
use Rattle.node_replies.proofs.WalletEnds.{AcceptEnds, SendEnds, ReclaimEnds, Refused, Known, New, Sends, Takes, accept_ends, send_ends, reclaim_ends}

-- a refused command adds nothing
abbrev pub AddsNothing : {A : Type 0} → WalletEffect (Result A WalletRefusal) → WalletRefusal → Type 0
AddsNothing effect why = Err why ≡ effect.answer → (effect.note ≡ None) × (effect.leaf ≡ None)

-- a command that answers alone adds nothing
plain : {A : Type 0} (effect : WalletEffect (Result A WalletRefusal)) (answer : Result A WalletRefusal)
    → effect ≡ answers answer → (effect.note ≡ None) × (effect.leaf ≡ None)
plain effect answer is = (ap (λ e. e.note) is, ap (λ e. e.leaf) is)

-- a command that was answered isn't refused
not-refused : {A : Type 0} (effect : WalletEffect (Result A WalletRefusal)) (done : A) (why : WalletRefusal)
    → effect.answer ≡ Ok done → Err why ≡ effect.answer → (effect.note ≡ None) × (effect.leaf ≡ None)
not-refused effect done why is refused = absurd (cc (refused ∙ is))

module _ (dig : List ℕ → List ℕ) (wallet : WalletRecords) (log : List RootCall) where
  -- ---- accept

  pub accept-leaf : (bytes : List ℕ) → (accept_effect dig wallet log bytes).leaf ≡ None
  accept-leaf bytes = at _ (accept_ends dig wallet log bytes)
    where
      at : (effect : WalletEffect _) → AcceptEnds dig wallet log bytes effect → effect.leaf ≡ None
      at effect (Refused why is) = ap (λ e. e.leaf) is
      at effect (Known links handed mine known is) = ap (λ e. e.leaf) is
      at effect (New links handed is) = ap (λ e. e.leaf) is

  pub accept-bare : (bytes : List ℕ) (why : WalletRefusal) → AddsNothing (accept_effect dig wallet log bytes) why
  accept-bare bytes why = at _ (accept_ends dig wallet log bytes)
    where
      at : (effect : WalletEffect _) → AcceptEnds dig wallet log bytes effect → AddsNothing effect why
      at effect (Refused other is) refused = plain effect _ is
      at effect (Known links handed mine known is) refused = plain effect _ is
      at effect (New links handed is) refused = not-refused effect _ why (ap (λ e. e.answer) is) refused

  -- ---- send

  module _ (coin : ℕ) (to : Owner) (last : Option ℕ) where
    pub send-note : (send_effect dig wallet log coin to last).note ≡ None
    send-note = at _ (send_ends dig wallet log coin to last)
      where
        at : (effect : WalletEffect _) → SendEnds dig wallet log coin to last effect → effect.note ≡ None
        at effect (Refused why is) = ap (λ e. e.note) is
        at effect (Sends tip held is) = ap (λ e. e.note) is

    pub send-bare : (why : WalletRefusal) → AddsNothing (send_effect dig wallet log coin to last) why
    send-bare why = at _ (send_ends dig wallet log coin to last)
      where
        at : (effect : WalletEffect _) → SendEnds dig wallet log coin to last effect → AddsNothing effect why
        at effect (Refused other is) refused = plain effect _ is
        at effect (Sends tip held is) refused = not-refused effect _ why (ap (λ e. e.answer) is) refused

  -- ---- leave

  pub leave-leaf : (coin : ℕ) → (leave_effect dig wallet log coin).leaf ≡ None
  unfolding leave_effect
  leave-leaf coin = at (coin_state dig wallet log coin)
    where
      at : (state : CoinState) → (leave_from dig wallet log coin state).leaf ≡ None
      at Nothing = refl
      at state = refl

  pub leave-bare : (coin : ℕ) (why : WalletRefusal) → AddsNothing (leave_effect dig wallet log coin) why
  unfolding leave_effect
  leave-bare coin why = at (coin_state dig wallet log coin) refl
    where
      at : (state : CoinState) → coin_state dig wallet log coin ≡ state
          → AddsNothing (leave_from dig wallet log coin state) why
      at (Held tip) is refused =
          let found = leaves_are_answered dig wallet log coin tip (inl is) in
          not-refused (leave_from dig wallet log coin (Held tip)) _ why
          (ap (λ s. (leave_from dig wallet log coin s).answer) (sym is) ∙ found.2) refused
      at state is refused = (refl, refl)

  -- ---- reclaim

  pub reclaim-leaf : (bytes : List ℕ) → (reclaim_effect dig wallet log bytes).leaf ≡ None
  reclaim-leaf bytes = at _ (reclaim_ends dig wallet log bytes)
    where
      at : (effect : WalletEffect _) → ReclaimEnds effect → effect.leaf ≡ None
      at effect (Refused why is) = ap (λ e. e.leaf) is
      at effect (Takes taken is) = ap (λ e. e.leaf) is

  pub reclaim-bare : (bytes : List ℕ) (why : WalletRefusal)
      → AddsNothing (reclaim_effect dig wallet log bytes) why
  reclaim-bare bytes why = at _ (reclaim_ends dig wallet log bytes)
    where
      at : (effect : WalletEffect _) → ReclaimEnds effect → AddsNothing effect why
      at effect (Refused other is) refused = plain effect _ is
      at effect (Takes taken is) refused = not-refused effect _ why (ap (λ e. e.answer) is) refused

-- ---- migrate

abbrev migrate_by : Bool → WalletEffect (Result Unit WalletRefusal)
migrate_by b = if b then answers (Err AlreadyNew) else binds_it (Ok tt) marker

pub migrate-note : (wallet : WalletRecords) → (migrate_effect wallet).note ≡ None
unfolding migrate_effect
migrate-note wallet = at (is_marked wallet.leaves)
  where
    at : (b : Bool) → (migrate_by b).note ≡ None
    at true = refl
    at false = refl

pub migrate-bare : (wallet : WalletRecords) (why : WalletRefusal) → AddsNothing (migrate_effect wallet) why
unfolding migrate_effect
migrate-bare wallet why = at (is_marked wallet.leaves)
  where
    at : (b : Bool) → AddsNothing (migrate_by b) why
    at true refused = (refl, refl)
    at false refused = not-refused (migrate_by false) tt why refl refused
