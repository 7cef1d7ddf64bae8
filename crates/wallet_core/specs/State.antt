-- What a coin is to a wallet, by the wallet's notes, what its leaves bind, and the log.
use Rattle.std.specs.Prelude.{◌≡◌, true, ℕ, ◌==◌, ◌&&◌, ◌||◌, not, Bool, false, if◌then◌else◌, max, List, [], ◌∷◌, ◌++◌, length, map, filter, find, slice_get, Option, Some, None, is_some, is_none}
use Rattle.std.specs.List.{list_any, range_with_len}
use Rattle.std.specs.Option.{option_map_or}
use Rattle.std.specs.Str.{bytes_eq}
use Rattle.plasma_tx.specs.declared.owner.Owner.{Owner}
use Rattle.plasma_tx.specs.declared.call.RootCall.{RootCall}
use Rattle.plasma_tx.specs.declared.views.CoinView.{CoinView}
use Rattle.plasma_tx.specs.Views.{coin_at, is_withdrawn, is_exiting, deposits_of}
use Rattle.wallet_core.specs.declared.notes.CoinTip.{CoinTip}
use Rattle.wallet_core.specs.declared.notes.LeafRecord.{LeafRecord}
use Rattle.wallet_core.specs.declared.notes.Notes.{Notes}
use Rattle.wallet_core.specs.declared.coin_state.CoinState.{CoinState}
use Rattle.wallet_core.specs.declared.coin_state.CoinState.TheVariants.{Nothing, Sending, Leaving, Held}

-- the owners are one: they have the same account and the same key
abbrev pub is_owner : Owner → Owner → Bool
is_owner one other = (one.account == other.account) && bytes_eq one.key other.key

-- the deposit block, where the owner is the depositor
abbrev pub own_deposit : Owner → Option CoinView → List ℕ
own_deposit me None = []
own_deposit me (Some made) = if is_owner made.owner me then made.deposit ∷ [] else []

-- the noted tips of a coin
abbrev pub noted_tips : ℕ → List CoinTip → List ℕ
noted_tips coin notes = map (λ note. note.tip) (filter (λ note. note.coin == coin) notes)

-- the blocks at which the wallet came to have the coin: the deposit, where it is its own, and the accepted tips
abbrev pub tips_of : Notes → List RootCall → ℕ → List ℕ
tips_of notes log coin = own_deposit notes.me (coin_at log coin) ++ noted_tips coin notes.accepted

-- the wallet accepted the coin, or its account deposited it
abbrev pub may_have : Notes → List RootCall → ℕ → Bool
may_have notes log coin =
    list_any (λ note. note.coin == coin) notes.accepted
    || list_any (λ other. other == coin) (deposits_of log notes.me.account)

-- an exit stands of a coin that the wallet accepted, or that its account deposited
pub record HasOwnExit (notes : Notes) (log : List RootCall) : Type 0 where
  pub coin : ℕ
  pub own : may_have notes log coin ≡ true
  pub exiting : is_exiting log coin ≡ true

-- the greatest of some numbers
unfoldable pub greatest : List ℕ → Option ℕ
greatest [] = None
greatest (number ∷ numbers) = Some (option_map_or (max number) (greatest numbers) number)

-- the body names the coin with that parent
abbrev pub spends_tip : ℕ → ℕ → LeafRecord → Bool
spends_tip coin tip leaf = (leaf.body.coin == coin) && (leaf.body.parent == tip)

-- leaf q signs the coin away from the tip: it binds a body that names them, and it isn't taken back
abbrev pub sends_by : List ℕ → List LeafRecord → ℕ → ℕ → ℕ → Bool
sends_by reclaimed leaves coin tip q =
    option_map_or (spends_tip coin tip) (slice_get leaves q) false && not (list_any (λ other. other == q) reclaimed)

-- the lowest leaf that signs the coin away from the tip
unfoldable pub sending_leaf : List ℕ → List LeafRecord → ℕ → ℕ → Option ℕ
sending_leaf reclaimed leaves coin tip = find (sends_by reclaimed leaves coin tip) (range_with_len 0 (length leaves))

-- the notes name the coin with that tip
abbrev pub is_noted : ℕ → ℕ → List CoinTip → Bool
is_noted coin tip notes = list_any (λ note. (note.coin == coin) && (note.tip == tip)) notes

-- what a coin is at its tip, by the leaf that signs it away
abbrev pub state_at : Notes → ℕ → ℕ → Option ℕ → CoinState
state_at notes coin tip (Some q) = Sending tip q
state_at notes coin tip None = if is_noted coin tip notes.leaving then Leaving tip else Held tip

-- what a coin is that the log has and that isn't withdrawn, by the greatest tip
abbrev pub state_by : Notes → List LeafRecord → ℕ → Option ℕ → CoinState
state_by notes leaves coin None = Nothing
state_by notes leaves coin (Some tip) = state_at notes coin tip (sending_leaf notes.reclaimed leaves coin tip)

-- what a coin is to the wallet
unfoldable pub state_of : Notes → List LeafRecord → List RootCall → ℕ → CoinState
state_of notes leaves log coin =
    if is_none (coin_at log coin) || is_withdrawn log coin then Nothing
    else state_by notes leaves coin (greatest (tips_of notes log coin))

-- a leaf signs the coin away from the block, and isn't taken back
abbrev pub is_signed_away : Notes → List LeafRecord → ℕ → ℕ → Bool
is_signed_away notes leaves coin block = is_some (sending_leaf notes.reclaimed leaves coin block)

-- the wallet holds the coin at a block: it came to have it there, hasn't signed it away from there, and the coin isn't
-- withdrawn
unfoldable pub holds : Notes → List LeafRecord → List RootCall → ℕ → ℕ → Bool
holds notes leaves log coin block =
    is_some (coin_at log coin) && list_any (λ tip. tip == block) (tips_of notes log coin)
    && not (is_signed_away notes leaves coin block) && not (is_withdrawn log coin)
