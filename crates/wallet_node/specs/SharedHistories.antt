-- The coins that a wallet keeps, where coins whose links begin alike share one history.
use Rattle.std.specs.Prelude.{◌≡◌, ◌≤◌, ◌==◌, ◌&&◌, ℕ, Bool, [], List, length, take, map, slice_index_or}
use Rattle.std.specs.List.{All}
use Rattle.plasma_tx.specs.declared.links.Link.{Link}
use Rattle.node_rules.specs.declared.kept_coin.KeptCoin.{KeptCoin}
use Rattle.wallet_node.specs.declared.kept_coins.Place.{Place}

-- the history at an index; no links where there is none
abbrev pub history_at : List (List Link) → ℕ → List Link
history_at histories i = slice_index_or histories i []

-- the coin at a place: its links are the first ones of a history
abbrev pub coin_at_place : List (List Link) → Place → KeptCoin
coin_at_place histories place =
    record { coin = place.coin; tip = place.tip; spends = take place.count (history_at histories place.history) }

-- a place is of this coin with this tip
abbrev pub is_place_of : ℕ → ℕ → Place → Bool
is_place_of coin tip place = (place.coin == coin) && (place.tip == tip)

-- the coins at these places
abbrev pub coins_at : List (List Link) → List Place → List KeptCoin
coins_at histories places = map (coin_at_place histories) places

-- a place counts no more links than its history has
abbrev pub IsWithin : List (List Link) → Place → Type 0
IsWithin histories place = place.count ≤ length (history_at histories place.history)

-- each place does
abbrev pub AreWithin : List (List Link) → List Place → Type 0
AreWithin histories places = All (IsWithin histories) places

-- each history begins as the one did that was there before
abbrev pub BeginAsBefore : List (List Link) → List (List Link) → Type 0
BeginAsBefore before after =
    (i : ℕ) → take (length (history_at before i)) (history_at after i) ≡ history_at before i
