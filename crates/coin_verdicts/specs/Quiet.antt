-- Which nodes are quiet, in a map.
use Rattle.std.specs.Prelude.{ℕ, nat_eq, not, Bool, false}
use Rattle.std.specs.Option.{option_map_or}
use Rattle.std.specs.HashMap.{get}
use Rattle.coin_verdicts.specs.declared.quiet.QuietNodes.{QuietNodes}
use Rattle.coin_verdicts.specs.Facts.{has}

-- the node is quiet, and offers no call of coin c
abbrev pub is_quiet_at : QuietNodes → ℕ → ℕ → Bool
is_quiet_at nodes c n = option_map_or (λ coins. not (has coins c)) (get nat_eq nodes.offers n) false
