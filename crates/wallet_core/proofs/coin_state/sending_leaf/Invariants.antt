use Rattle.wallet_core.proofs.Words.{◌≡◌, ◌<◌, ℕ, false, sends_by}
use Rattle.wallet_core.proofs.coin_state.sending_leaf.Given as goal

abbrev pub invariant-loop-q : goal.invariant-loop-q
invariant-loop-q l = (k : ℕ) → k < l.q → sends_by l.reclaimed l.leaves l.coin l.tip k ≡ false
