-- The slots of one coin, in the order of their starts.
use Rattle.std.specs.Prelude.{◌≡◌, ℕ, ◌==◌, not, false, if◌then◌else◌, List, [], ◌∷◌, ◌++◌, ◌-◌, length, take, Option, Some, None, find, filter, map}
use Rattle.std.specs.List.{list_any}
use Rattle.exit_game.specs.declared.challenges.Challenge.{Challenge}
use Rattle.exit_game.specs.declared.slot.Slot.{Slot}
use Rattle.exit_game.specs.Challenges.{challenge_at, answered_at}

-- the slot at the block
abbrev pub slot_at : ℕ → List Slot → Option Slot
slot_at block slots = find (λ slot. slot.block == block) slots

-- the slots without that at the block
abbrev pub without_slot : ℕ → List Slot → List Slot
without_slot block slots = filter (λ slot. not (slot.block == block)) slots

-- the slots with a change of that at the block
abbrev pub with_slot_changed : ℕ → (Slot → Slot) → List Slot → List Slot
with_slot_changed block change slots = map (λ slot. if slot.block == block then change slot else slot) slots

-- the slot challenged once more
abbrev pub with_challenge : Challenge → Slot → Slot
with_challenge challenge slot = record slot { challenges = slot.challenges ++ challenge ∷ [] }

-- the slot with its challenge at the block answered
abbrev pub with_answer : ℕ → Slot → Slot
with_answer block slot = record slot { challenges = map (answered_at block) slot.challenges }

-- the slot without its last challenge; where it has none, the slot as it is
abbrev pub without_last : Slot → Slot
without_last slot = record slot { challenges = take (length slot.challenges - 1) slot.challenges }

-- no two slots are at one block
abbrev pub AreDistinct : List Slot → Type 0
AreDistinct [] = Unit {0}
AreDistinct (slot ∷ slots) = (list_any (λ other. other.block == slot.block) slots ≡ false) × AreDistinct slots

-- the slot that may be there has no challenge at the block, and an open one there
abbrev pub IsUnchallengedAt : ℕ → Option Slot → Type 0
IsUnchallengedAt block None = ⊥
IsUnchallengedAt block (Some slot) = challenge_at block slot.challenges ≡ None

abbrev pub IsOpenAt : ℕ → Option Slot → Type 0
IsOpenAt block None = ⊥
IsOpenAt block (Some slot) =
    (challenge : Challenge) × (challenge_at block slot.challenges ≡ Some challenge) × (challenge.answered ≡ false)
