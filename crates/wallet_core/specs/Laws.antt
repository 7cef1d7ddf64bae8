-- When a coin is what to a wallet, in the words of its notes, its leaves and the log.
use Rattle.std.specs.Prelude.{◌≡◌, ◌≢◌, ◌⊎◌, ℕ, ◌<◌, ◌≤◌, true, false, List, [], None}
use Rattle.std.specs.List.{All, Contains}
use Rattle.plasma_tx.specs.declared.call.RootCall.{RootCall}
use Rattle.plasma_tx.specs.Views.{coin_at, is_withdrawn}
use Rattle.wallet_core.specs.declared.notes.LeafRecord.{LeafRecord}
use Rattle.wallet_core.specs.declared.notes.Notes.{Notes}
use Rattle.wallet_core.specs.declared.coin_state.CoinState.TheVariants.{Nothing, Sending, Leaving, Held}
use Rattle.wallet_core.specs.State.{tips_of, sends_by, is_noted, may_have, state_of, holds}

-- the log has the coin, which isn't withdrawn, and this is the greatest block at which the wallet came to have it
pub record IsTip (notes : Notes) (log : List RootCall) (coin tip : ℕ) : Type 0 where
  pub exists : coin_at log coin ≢ None
  pub not_withdrawn : is_withdrawn log coin ≡ false
  pub is_one : Contains (tips_of notes log coin) tip
  pub greatest : All (λ other. other ≤ tip) (tips_of notes log coin)

-- q is the lowest leaf that signs the coin away from the tip
pub record IsLowestLeaf (notes : Notes) (leaves : List LeafRecord) (coin tip q : ℕ) : Type 0 where
  pub sends : sends_by notes.reclaimed leaves coin tip q ≡ true
  pub lowest : (other : ℕ) → other < q → sends_by notes.reclaimed leaves coin tip other ≡ false

-- no leaf signs the coin away from the tip
abbrev pub NoLeaf : Notes → List LeafRecord → ℕ → ℕ → Type 0
NoLeaf notes leaves coin tip = (q : ℕ) → sends_by notes.reclaimed leaves coin tip q ≡ false

-- a coin is Sending exactly where its tip is this one, and this is the lowest leaf that signs it away from there
abbrev pub SendingIs : Type 0
SendingIs = (notes : Notes) (leaves : List LeafRecord) (log : List RootCall) (coin tip q : ℕ)
    → (state_of notes leaves log coin ≡ Sending tip q
    → IsTip notes log coin tip × IsLowestLeaf notes leaves coin tip q)
    × (IsTip notes log coin tip → IsLowestLeaf notes leaves coin tip q
    → state_of notes leaves log coin ≡ Sending tip q)

-- a coin is Leaving exactly where no leaf signs it away from its tip, and a leaving note names coin and tip
abbrev pub LeavingIs : Type 0
LeavingIs = (notes : Notes) (leaves : List LeafRecord) (log : List RootCall) (coin tip : ℕ)
    → (state_of notes leaves log coin ≡ Leaving tip
    → IsTip notes log coin tip × NoLeaf notes leaves coin tip × (is_noted coin tip notes.leaving ≡ true))
    × (IsTip notes log coin tip → NoLeaf notes leaves coin tip → is_noted coin tip notes.leaving ≡ true
    → state_of notes leaves log coin ≡ Leaving tip)

-- a coin is Held exactly where no leaf signs it away from its tip, and no leaving note names coin and tip
abbrev pub HeldIs : Type 0
HeldIs = (notes : Notes) (leaves : List LeafRecord) (log : List RootCall) (coin tip : ℕ)
    → (state_of notes leaves log coin ≡ Held tip
    → IsTip notes log coin tip × NoLeaf notes leaves coin tip × (is_noted coin tip notes.leaving ≡ false))
    × (IsTip notes log coin tip → NoLeaf notes leaves coin tip → is_noted coin tip notes.leaving ≡ false
    → state_of notes leaves log coin ≡ Held tip)

-- a coin is Nothing exactly where the log has no such coin, or it is withdrawn, or the wallet never came to have it
abbrev pub NothingIs : Type 0
NothingIs = (notes : Notes) (leaves : List LeafRecord) (log : List RootCall) (coin : ℕ)
    → (state_of notes leaves log coin ≡ Nothing
    → (coin_at log coin ≡ None) ⊎ (is_withdrawn log coin ≡ true) ⊎ (tips_of notes log coin ≡ []))
    × ((coin_at log coin ≡ None) ⊎ (is_withdrawn log coin ≡ true) ⊎ (tips_of notes log coin ≡ [])
    → state_of notes leaves log coin ≡ Nothing)

-- the wallet holds, at that tip, a coin that is Held or Leaving
abbrev pub KeptCoinsAreHeld : Type 0
KeptCoinsAreHeld = (notes : Notes) (leaves : List LeafRecord) (log : List RootCall) (coin tip : ℕ)
    → (state_of notes leaves log coin ≡ Held tip) ⊎ (state_of notes leaves log coin ≡ Leaving tip)
    → holds notes leaves log coin tip ≡ true

-- and a coin that it holds at its greatest tip is Held or Leaving there
abbrev pub HeldCoinsAreKept : Type 0
HeldCoinsAreKept = (notes : Notes) (leaves : List LeafRecord) (log : List RootCall) (coin tip : ℕ)
    → IsTip notes log coin tip → holds notes leaves log coin tip ≡ true
    → (state_of notes leaves log coin ≡ Held tip) ⊎ (state_of notes leaves log coin ≡ Leaving tip)

-- a coin is Nothing to a wallet that neither accepted it nor has its depositor's account
abbrev pub OtherCoinsAreNothing : Type 0
OtherCoinsAreNothing = (notes : Notes) (leaves : List LeafRecord) (log : List RootCall) (coin : ℕ)
    → may_have notes log coin ≡ false → state_of notes leaves log coin ≡ Nothing
