-- What openings that were kept of a coin show, found anew from all of them.
use Rattle.std.specs.Prelude.{ℕ, ◌&&◌, not, Bool, nat_lt, List, [], ◌∷◌, reverse, find, Option, Result, Ok, Err}
use Rattle.std.specs.Option.{option_map}
use Rattle.plasma_tx.specs.{declared.opening.RawOpening.{RawOpening}, declared.links.Links.{Links}, declared.call.RootCall.{RootCall}, declared.views.CoinView.{CoinView}, Links.{tip_of}, Shown.{Tests, Rules}}
use Rattle.coin_history.specs.{declared.bundle.Bundle.{Bundle}, declared.refusal.HistoryRefusal.{HistoryRefusal}, History.{is_absent, links_of}, Checking.{history_of}}

-- the block of the newest of these openings, which come first; without one it is the deposit block
abbrev pub newest_block : ℕ → List RawOpening → ℕ
newest_block deposit [] = deposit
newest_block deposit (opening ∷ older) = opening.block

-- openings, the newest first, as a bundle up to the newest
abbrev pub bundle_up_to_newest : ℕ → CoinView → List RawOpening → Bundle
bundle_up_to_newest coin made newest_first = record {
  coin = coin;
  tip = newest_block made.deposit newest_first;
  openings = reverse newest_first;
}

-- the links of a history, where there is one, else these
abbrev pub links_or : Links → Result Links HistoryRefusal → Links
links_or others (Ok links) = links
links_or others (Err why) = others

-- what openings show: the links of the coin's history, and the broken block
pub record Scan : Type 0 where
  pub links : Links
  pub broken : Option ℕ

-- the opening is of a block after the tip, and its leaf isn't empty
abbrev pub is_astray : ℕ → RawOpening → Bool
is_astray tip opening = nat_lt tip opening.block && not (is_absent opening)

-- the block of the first opening behind the tip whose leaf isn't empty
abbrev pub broken_behind : ℕ → List RawOpening → Option ℕ
broken_behind tip openings = option_map (λ opening. opening.block) (find (is_astray tip) openings)

-- over the tests and rules of a chain and its log
module _ (tests : Tests) (rules : Rules) (log : List RootCall) where
  -- The links of the longest beginning of the openings, the newest first, that is a history up to its newest one: no
  -- opening is one up to the deposit.
  unfoldable pub longest_history : ℕ → CoinView → List RawOpening → Links
  longest_history coin made [] = links_of rules made (bundle_up_to_newest coin made [])
  longest_history coin made (opening ∷ older) =
      links_or (longest_history coin made older)
      (history_of tests rules log (bundle_up_to_newest coin made (opening ∷ older)))

  -- what the openings of a coin, in the order of their blocks, show
  unfoldable pub scan_of : ℕ → CoinView → List RawOpening → Scan
  scan_of coin made kept = record {
    links = longest_history coin made (reverse kept);
    broken = broken_behind (tip_of (longest_history coin made (reverse kept))) kept;
  }
