-- Times, and the least of some numbers.
use Rattle.std.specs.Prelude.{ℕ, ◌+◌, min, List, [], ◌∷◌, Option, Some, None}
use Rattle.std.specs.Option.{option_map_or}
use Rattle.coin_safety.specs.declared.windows.TheConstants.{LAST_SECOND}

-- The time so many seconds later. A contract's clock stays far below the last second; in a log that no contract
-- accepted what is later than it counts as the last second.
abbrev pub later : ℕ → ℕ → ℕ
later time seconds = min (time + seconds) LAST_SECOND

-- the least of some numbers; None where there are none
unfoldable pub least : List ℕ → Option ℕ
least [] = None
least (n ∷ ns) = Some (option_map_or (min n) (least ns) n)
