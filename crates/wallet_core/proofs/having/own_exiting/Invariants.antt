use Rattle.wallet_core.proofs.Words.{◌≡◌, ◌==◌, ◌&&◌, ◌||◌, ℕ, take, list_any, nat_cmp, contains, deposits_of, is_exiting}
use Rattle.wallet_core.proofs.having.own_exiting.Given as goal

abbrev pub invariant-loop-coin : goal.invariant-loop-coin
invariant-loop-coin l = (c : ℕ) → contains nat_cmp l.own c
    ≡ (list_any (λ x. x == c) (take l.coin-index (deposits_of l.log.log l.notes.me.account)) && is_exiting l.log.log c)

abbrev pub invariant-loop-note : goal.invariant-loop-note
invariant-loop-note l = (c : ℕ) → contains nat_cmp l.own c
    ≡ ((list_any (λ note. note.coin == c) (take l.note-index l.notes.accepted)
    || list_any (λ x. x == c) (deposits_of l.log.log l.notes.me.account)) && is_exiting l.log.log c)
