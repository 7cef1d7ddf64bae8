-- What a coin's state shows.
use Rattle.wallet_node.proofs.Words.{◌≡◌, ℕ, Bool, true, false, List, is_some, ap, arith, slice_get, option_map_or, and_parts, common_steps, RootCall, coin_at, LeafRecord, CoinState, state_of, spends_tip, WalletRecords, coin_state, noted, leaves_in}
use Rattle.wallet_core.specs.declared.notes.Notes.{Notes}
use Rattle.wallet_core.specs.declared.coin_state.CoinState.TheVariants.{Nothing, Sending, Leaving, Held}
use Rattle.wallet_core.proofs.StateLaws.{sending_is}

-- a state that isn't Nothing
abbrev is_state : CoinState → Bool
is_state Nothing = false
is_state state = true

-- the log has the coin
made-from : (notes : Notes) (leaves : List LeafRecord) (log : List RootCall) (coin : ℕ)
    → is_state (state_of notes leaves log coin) ≡ true → is_some (coin_at log coin) ≡ true
unfolding state_of
made-from notes leaves log coin is = grind (arith, common_steps) steps 20000

pub made-held : (dig : List ℕ → List ℕ) (wallet : WalletRecords) (log : List RootCall) (coin tip : ℕ)
    → coin_state dig wallet log coin ≡ Held tip → is_some (coin_at log coin) ≡ true
unfolding coin_state
made-held dig wallet log coin tip is =
    made-from (noted dig wallet) (leaves_in wallet.leaves) log coin (ap is_state is)

pub made-leaving : (dig : List ℕ → List ℕ) (wallet : WalletRecords) (log : List RootCall) (coin tip : ℕ)
    → coin_state dig wallet log coin ≡ Leaving tip → is_some (coin_at log coin) ≡ true
unfolding coin_state
made-leaving dig wallet log coin tip is =
    made-from (noted dig wallet) (leaves_in wallet.leaves) log coin (ap is_state is)

-- the leaf by which the wallet is sending a coin spends its tip
pub sending-spends : (dig : List ℕ → List ℕ) (wallet : WalletRecords) (log : List RootCall) (coin tip q : ℕ)
    → coin_state dig wallet log coin ≡ Sending tip q
    → option_map_or (spends_tip coin tip) (slice_get (leaves_in wallet.leaves) q) false ≡ true
unfolding coin_state
sending-spends dig wallet log coin tip q is =
    let lowest = ((sending_is (noted dig wallet) (leaves_in wallet.leaves) log coin tip q).0 is).1 in
    grind (arith, common_steps, and_parts) steps 20000
