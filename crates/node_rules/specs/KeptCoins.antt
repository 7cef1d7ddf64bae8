-- A kept coin in memory, and what is due for it.
use Rattle.std.specs.Prelude.{◌≡◌, ℕ, List, [], Some}
use Rattle.std.specs.Option.{option_map_or}
use Rattle.plasma_tx.specs.{declared.call.RootCall.{RootCall}, declared.links.Links.{Links}, Views.{coin_at}}
use Rattle.coin_history.specs.{Bundles.{bundle_text}, declared.bundle.Bundle.{Bundle}, History.{links_in}}
use Rattle.watch_duty.specs.Duty.{guard_of, due_of}
use Rattle.node_rules.specs.{Kept.{chain_of, kept_of, kept_in}, declared.kept_coin.KeptCoin.{KeptCoin}}

-- what is kept of a coin as it stands in memory: its coin, its tip and the links that its openings show
abbrev pub kept_coin_of : List ℕ → Bundle → KeptCoin
kept_coin_of tag kept =
    record { coin = kept.coin; tip = kept.tip; spends = links_in (chain_of tag) kept.coin kept.openings }

-- what is due for it; nothing where the log doesn't have the coin
abbrev pub due_for_coin : List RootCall → ℕ → KeptCoin → List RootCall
due_for_coin log account kept =
    option_map_or (λ made. due_of log account (guard_of kept.coin made.deposit kept.spends)) (coin_at log kept.coin) []

-- What is kept of links is read back from its bytes, and shows these links. It holds of those that a node was handed.
pub record IsShown (dig : List ℕ → List ℕ) (tag : List ℕ) (links : Links) : Type 0 where
  pub read : kept_in dig tag (bundle_text (kept_of links)) ≡ Some (kept_of links)
  pub shown : links_in (chain_of tag) links.coin (kept_of links).openings ≡ links.spends
