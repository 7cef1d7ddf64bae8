-- What a game has of each coin.
use Rattle.std.specs.Prelude.{◌≡◌, ℕ, ◌==◌, if◌then◌else◌, List}
use Rattle.exit_game.specs.declared.slot.Slot.{Slot}
use Rattle.exit_game.specs.SlotMaps.{slots_of}
use Rattle.exit_game.specs.declared.game.Game.{Game}

-- the slots of the coin, in the order of their starts
abbrev pub slots_in : Game → ℕ → List Slot
slots_in game coin = slots_of game.coins coin

-- the coin's slots are these now, and each other coin's are as before
abbrev pub HasSlots : Game → Game → ℕ → List Slot → Type 0
HasSlots old new coin slots = (c : ℕ) → slots_in new c ≡ (if c == coin then slots else slots_in old c)
