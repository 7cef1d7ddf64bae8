-- A challenge that is put last and taken back.
use Rattle.exit_game.proofs.Words.{◌≡◌, ℕ, ◌-◌, ◌==◌, Bool, if◌then◌else◌, List, [], ◌∷◌, ◌++◌, length, take, refl, ap, arith, common_steps, Challenge, Slot, with_challenge, without_last}
use Rattle.std.proofs.Math.Seq.{take-append_seam}
use Rattle.exit_game.specs.Laws.{LastIsTakenBack}

-- a list without what was put last
front-append : {X : Type 0} (xs : List X) (x : X) → take (length (xs ++ x ∷ []) - 1) (xs ++ x ∷ []) ≡ xs
front-append xs x = grind (arith, common_steps, take-append_seam) steps 20000

-- one slot that is challenged, and then not
pub without_last-with_challenge : (challenge : Challenge) (slot : Slot)
    → without_last (with_challenge challenge slot) ≡ slot
without_last-with_challenge challenge slot =
    ap (λ (l : List Challenge). record slot { challenges = l }) (front-append slot.challenges challenge)

-- one slot, changed only where it is at the block
slot-taken_back : (block : ℕ) (challenge : Challenge) (slot : Slot) (here : Bool) → (slot.block == block) ≡ here
    → (let changed : Slot = if here then with_challenge challenge slot else slot in
    if changed.block == block then without_last changed else changed) ≡ slot
slot-taken_back block challenge slot here is = grind (arith, common_steps, without_last-with_challenge) steps 20000

pub last_is_taken_back : LastIsTakenBack
last_is_taken_back [] block challenge = refl
last_is_taken_back (slot ∷ slots) block challenge =
    λ i. slot-taken_back block challenge slot (slot.block == block) refl i ∷ last_is_taken_back slots block challenge i
