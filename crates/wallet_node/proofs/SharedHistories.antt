-- Coins that share histories: what a history that grows, and one more, leave of them.
use Rattle.wallet_node.proofs.Words.{◌≡◌, ◌≤◌, ℕ, true, false, List, [], ◌∷◌, ◌++◌, length, take, find, Some, None, refl, sym, ◌∙◌, ap, arith, slice_index_or, nat_lt, option_map, option_map_or, nat_tests, get_or_read, get_or_past, take_all, take-take, length-take, map-append, All-head, All-tail, All-weaker, All-push, recursion_from_All, common_steps, Link, KeptCoin, is_kept_at}
use Rattle.plasma_tx.proofs.Each.{all-found}
use Rattle.wallet_node.specs.declared.kept_coins.Place.{Place}
use Rattle.wallet_node.specs.SharedHistories.{history_at, is_place_of, coin_at_place, coins_at, IsWithin, AreWithin, BeginAsBefore}

-- a list that begins with another isn't shorter
longer : (first all : List Link) → take (length first) all ≡ first → length first ≤ length all
longer first all begins = grind (arith, common_steps, common_steps, length-take) steps 20000

-- a place within a history stays within it
within-after : (before after : List (List Link)) → BeginAsBefore before after → (place : Place) → IsWithin before place
    → IsWithin after place
within-after before after same place within =
    let more = longer (history_at before place.history) (history_at after place.history) (same place.history) in
    omega (arith, within, more)

-- and names the coin that it named
coin-after : (before after : List (List Link)) → BeginAsBefore before after → (place : Place) → IsWithin before place
    → coin_at_place after place ≡ coin_at_place before place
coin-after before after same place within =
    ap (λ (spends : List Link). record { coin = place.coin; tip = place.tip; spends = spends })
    (sym (take-take place.count (length (history_at before place.history)) (history_at after place.history) within)
    ∙ ap (take place.count) (same place.history))

-- so the coins stay, and the places stay within
pub coins-after : (before after : List (List Link)) → BeginAsBefore before after → (places : List Place)
    → AreWithin before places → coins_at after places ≡ coins_at before places
coins-after before after same [] within = refl
coins-after before after same (place ∷ places) within =
    ap (λ (coin : KeptCoin). coin ∷ coins_at after places)
    (coin-after before after same place (All-head (IsWithin before) place places within))
    ∙ ap (λ (coins : List KeptCoin). coin_at_place before place ∷ coins)
    (coins-after before after same places (All-tail (IsWithin before) place places within))

pub places-after : (before after : List (List Link)) → BeginAsBefore before after → (places : List Place)
    → AreWithin before places → AreWithin after places
places-after before after same places within =
    All-weaker (IsWithin before) (IsWithin after) (within-after before after same) places within

-- one more coin whose links stand at the beginning of a history
pub coins-more : (before after : List (List Link)) → BeginAsBefore before after → (places : List Place)
    → AreWithin before places → (place : Place) (kept : KeptCoin) → coin_at_place after place ≡ kept
    → coins_at after (places ++ place ∷ []) ≡ coins_at before places ++ kept ∷ []
coins-more before after same places within place kept is =
    map-append (coin_at_place after) places (place ∷ [])
    ∙ ap (λ (coin : KeptCoin). coins_at after places ++ coin ∷ []) is
    ∙ ap (λ (coins : List KeptCoin). coins ++ kept ∷ []) (coins-after before after same places within)

pub places-more : (before after : List (List Link)) → BeginAsBefore before after → (places : List Place)
    → AreWithin before places → (place : Place) (links : List Link) → place.count ≡ length links
    → take (length links) (history_at after place.history) ≡ links → AreWithin after (places ++ place ∷ [])
places-more before after same places within place links count begins =
    let enough = longer links (history_at after place.history) begins in
    All-push (IsWithin after) places place (places-after before after same places within) (omega (arith, count, enough))

-- the first coin is the one at the first place
find-coin : (histories : List (List Link)) (coin tip : ℕ) (places : List Place)
    → find (is_kept_at coin tip) (coins_at histories places)
    ≡ option_map (coin_at_place histories) (find (is_place_of coin tip) places)
find-coin histories coin tip [] = refl
find-coin histories coin tip (place ∷ places) =
    grind (arith, common_steps, find-coin histories coin tip places) steps 20000

-- the links that are found, and those of the place that is found
abbrev links_found : ℕ → ℕ → List KeptCoin → List Link
links_found coin tip coins = option_map_or (λ (kept : KeptCoin). kept.spends) (find (is_kept_at coin tip) coins) []

pub spends-found : (histories : List (List Link)) (coin tip : ℕ) (places : List Place) (place : Place)
    → find (is_place_of coin tip) places ≡ Some place
    → take place.count (history_at histories place.history) ≡ links_found coin tip (coins_at histories places)
spends-found histories coin tip places place is = grind (arith, common_steps, find-coin) steps 20000

pub none-found : (histories : List (List Link)) (coin tip : ℕ) (places : List Place)
    → find (is_place_of coin tip) places ≡ None → links_found coin tip (coins_at histories places) ≡ []
none-found histories coin tip places is = grind (arith, common_steps, find-coin) steps 20000

-- the place that is found is within its history
pub found-within : (histories : List (List Link)) (coin tip : ℕ) (places : List Place) (place : Place)
    → AreWithin histories places → find (is_place_of coin tip) places ≡ Some place → IsWithin histories place
found-within histories coin tip places place within is =
    (all-found (IsWithin histories) (is_place_of coin tip) places place
    (recursion_from_All (IsWithin histories) places within) is).0

-- what is read of a history, and of one that isn't there
pub history-read : (histories : List (List Link)) (i : ℕ) (history : List Link) → true ≡ nat_lt i (length histories)
    → history ≡ slice_index_or histories i history → history ≡ history_at histories i
history-read histories i history within is =
    get_or_read histories i history (grind (arith, nat_tests, within)) is []

pub none-read : (histories : List (List Link)) (i count : ℕ) → false ≡ nat_lt i (length histories)
    → [] ≡ take count (history_at histories i)
none-read histories i count past = grind (arith, common_steps, get_or_past, nat_tests, take_all) steps 20000
