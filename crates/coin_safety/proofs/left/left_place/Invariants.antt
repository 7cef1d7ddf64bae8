use Rattle.coin_safety.proofs.Words.{◌≡◌, take, reverse, slice_get, option_and_then, left_in, left_by}
use Rattle.coin_safety.proofs.left.left_place.Given as goal

abbrev pub invariant-loop-place : goal.invariant-loop-place
invariant-loop-place l =
    option_and_then (λ place. option_and_then (left_in l.coin l.tip) (slice_get l.events place)) l.found
    ≡ left_by (reverse (take l.place l.events)) l.coin l.tip
