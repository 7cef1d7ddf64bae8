use Rattle.coin_safety.proofs.Words.{◌≡◌, ℕ, take, reverse, slice_get, option_and_then, nat_cmp, get, start_shown, spend_in}
use Rattle.coin_safety.proofs.index.starts.Given as goal

abbrev pub invariant-loop-place : goal.invariant-loop-place
invariant-loop-place l = (block : ℕ)
    → option_and_then (λ place. option_and_then (spend_in l.coin) (slice_get l.events place))
    (get nat_cmp l.places block)
    ≡ start_shown (reverse (take l.place l.events)) l.coin block
