-- What the check's own functions say of the blocks that have to be opened.
use Rattle.std.specs.Prelude.{◌≡◌, ℕ, ◌<◌, ◌≤◌, Bool, true, false, List}
use Rattle.plasma_tx.specs.{declared.links.Link.{Link}, declared.links.Links.{Links}, declared.views.CoinView.{CoinView}}

-- no number from one on and below another is asked for
abbrev pub NoneIsAsked : (ℕ → Bool) → ℕ → ℕ → Type 0
NoneIsAsked asked from to = (n : ℕ) → from ≤ n → n < to → asked n ≡ false

-- the number is asked for, and is the first such one from one on and below another
pub record IsFirstAsked (asked : ℕ → Bool) (from to n : ℕ) : Type 0 where
  pub low : from ≤ n
  pub high : n < to
  pub is : asked n ≡ true
  pub first : NoneIsAsked asked from n

-- the links of a coin that was made, as these spends
abbrev pub links_with : ℕ → CoinView → List Link → Links
links_with coin made spends =
    record { coin = coin; deposit = made.deposit; owner = made.owner; spends = spends }
