-- A coin is withdrawn by the first Finish of it that is paid.
use Rattle.plasma_tx.proofs.Words.{◌≡◌, ◌&&◌, ◌||◌, not, Bool, [], ◌∷◌, refl, arith, common_steps, Finish, is_withdrawn, was_paid, WithdrawnIsPaid}

finished : (pays was paid : Bool) → was ≡ paid → (pays || was) ≡ ((pays && not paid) || paid)
finished pays was paid e = grind (arith, common_steps) steps 20000

pub withdrawn_is_paid : WithdrawnIsPaid
unfolding is_withdrawn was_paid
withdrawn_is_paid [] c = refl
withdrawn_is_paid (Finish account k m ∷ log) c =
    grind (arith, common_steps, withdrawn_is_paid log c, finished) steps 20000
withdrawn_is_paid (call ∷ log) c = withdrawn_is_paid log c
