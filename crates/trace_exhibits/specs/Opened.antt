-- Openings that a trace shows.
use Rattle.std.specs.Prelude.{ℕ}
use Rattle.plasma_tx.specs.declared.opening.RawOpening.{RawOpening}

-- an opening of a coin
pub record Opened : Type 0 where
  pub coin : ℕ
  pub opening : RawOpening
