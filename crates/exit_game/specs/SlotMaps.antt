-- Slots by coin.
use Rattle.std.specs.Prelude.{ℕ, List, [], unwrap_or}
use Rattle.std.specs.Ordering.{nat_cmp}
use Rattle.std.specs.BTreeMap.{BTreeMap, get}
use Rattle.exit_game.specs.declared.slot.Slot.{Slot}

-- the slots of the coin in a map, none where the coin has no entry
abbrev pub slots_of : BTreeMap ℕ (List Slot) → ℕ → List Slot
slots_of coins coin = unwrap_or (get nat_cmp coins coin) []
