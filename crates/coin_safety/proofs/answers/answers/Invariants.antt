use Rattle.coin_safety.proofs.Words.{◌≡◌, ℕ, take, reverse, slice_get, option_and_then, nat_cmp, get, answer_in, answer_shown}
use Rattle.coin_safety.proofs.answers.answers.Given as goal

abbrev pub invariant-loop-place : goal.invariant-loop-place
invariant-loop-place l = (block : ℕ)
    → option_and_then (λ place. option_and_then (answer_in l.coin l.tip block) (slice_get l.events place))
    (get nat_cmp l.places block)
    ≡ answer_shown (reverse (take l.place l.events)) l.coin l.tip block
