use Rattle.coin_safety.proofs.Words.{◌≡◌, ℕ, drop, slice_get, option_and_then, nat_cmp, get, exit_in}
use Rattle.coin_safety.proofs.index.places.Given as goal

abbrev pub invariant-loop-place : goal.invariant-loop-place
invariant-loop-place l = (block : ℕ)
    → option_and_then (slice_get l.exits) (get nat_cmp l.places block) ≡ exit_in (drop l.place l.exits) block
