-- What holds of every list of slots.
use Rattle.std.specs.Prelude.{◌≡◌, ℕ, List}
use Rattle.exit_game.specs.declared.challenges.Challenge.{Challenge}
use Rattle.exit_game.specs.declared.slot.Slot.{Slot}
use Rattle.exit_game.specs.Slots.{with_slot_changed, with_challenge, without_last}

-- a challenge that is put last at a block, and taken back there, leaves the slots as they were
abbrev pub LastIsTakenBack : Type 0
LastIsTakenBack = (slots : List Slot) (block : ℕ) (challenge : Challenge)
    → with_slot_changed block without_last (with_slot_changed block (with_challenge challenge) slots) ≡ slots
