-- Leaves by coins, as an ordered map keeps them, and the coins of a part of a tree.
use Rattle.std.specs.Prelude.{ℕ, not, if◌then◌else◌, List, map}
use Rattle.std.specs.List.{filter}
use Rattle.sparse_merkle.specs.declared.tree.Entry.{Entry}
use Rattle.sparse_merkle.specs.TreeDigest.{bit_of}

-- the entry of a coin and its leaf
abbrev pub entry_in : ℕ × List ℕ → Entry
entry_in pair = record { coin = pair.0; leaf = pair.1 }

-- the entries of pairs of a coin and its leaf
abbrev pub entries_in : List (ℕ × List ℕ) → List Entry
entries_in pairs = map entry_in pairs

-- the coins of entries
abbrev pub coins_of : List Entry → List ℕ
coins_of entries = map (λ entry. entry.coin) entries

-- the coins that have the bit of a level as this coin has it, and those that don't
abbrev pub near_coins : ℕ → ℕ → List ℕ → List ℕ
near_coins coin level coins =
    if bit_of coin level then filter (λ other. bit_of other level) coins
    else filter (λ other. not (bit_of other level)) coins

abbrev pub far_coins : ℕ → ℕ → List ℕ → List ℕ
far_coins coin level coins =
    if bit_of coin level then filter (λ other. not (bit_of other level)) coins
    else filter (λ other. bit_of other level) coins
