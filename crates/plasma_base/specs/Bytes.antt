use Rattle.std.specs.Prelude.{ℕ, List}
use Rattle.plasma_base.specs.declared.bytes.Held.{Held}
use Rattle.plasma_base.specs.declared.bytes.Held.TheVariants.{Own, Shared}

-- the bytes of a string, wherever they lie
abbrev pub held_bytes : Held → List ℕ
held_bytes (Own items) = items.items
held_bytes (Shared items) = items.value.items
