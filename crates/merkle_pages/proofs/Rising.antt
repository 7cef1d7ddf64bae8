-- Entries in rising order of coins, split at a coin.
use Rattle.std.proofs.Common.{◌≡◌, ◌≢◌, ℕ, suc, ◌<◌, ◌≤◌, nat_lt, List, [], ◌∷◌, refl, arith, filter}
use Rattle.merkle_pages.proofs.Words.{All, AllPairs, AllByRecursion, lt-ltb, le-ltb, recursion_from_All, Entry}

abbrev pub low : ℕ → List Entry → List Entry
low coin entries = filter (λ entry. nat_lt entry.coin coin) entries

abbrev pub high : ℕ → List Entry → List Entry
high coin entries = filter (λ entry. nat_lt coin entry.coin) entries

abbrev pub AllAbove : ℕ → List Entry → Type 0
AllAbove coin entries = AllByRecursion (λ entry. coin < entry.coin) entries

pub above-less : (less coin : ℕ) → less ≤ coin → (entries : List Entry) → AllAbove coin entries → AllAbove less entries
above-less less coin le [] all = tt
above-less less coin le (entry ∷ entries) all = (omega (arith, all.0), above-less less coin le entries all.1)

pub low-above : (coin : ℕ) (entries : List Entry) → AllAbove coin entries → low coin entries ≡ []
low-above coin [] all = refl
low-above coin (entry ∷ entries) all =
    simp (le-ltb entry.coin coin (let lt = all.0 in omega arith), low-above coin entries all.1)

pub high-above : (coin : ℕ) (entries : List Entry) → AllAbove coin entries → high coin entries ≡ entries
high-above coin [] all = refl
high-above coin (entry ∷ entries) all = simp (lt-ltb coin entry.coin all.0, high-above coin entries all.1)

-- rising, with no empty leaf
unfoldable pub IsRising : List Entry → Type 0
IsRising [] = Unit {0}
IsRising (entry ∷ entries) = AllAbove entry.coin entries × (entry.leaf ≢ []) × IsRising entries

pub rising : (entries : List Entry) → AllPairs (λ earlier later. earlier.coin < later.coin) entries
    → All (λ entry. entry.leaf ≢ []) entries → IsRising entries
unfolding IsRising
rising [] pairs filled = tt
rising (entry ∷ entries) pairs filled = (
  recursion_from_All (λ later. entry.coin < later.coin) entries (λ k d lt. pairs 0 (suc k) d (omega arith)
      (omega arith)),
  filled 0 entry (omega arith),
  rising entries (λ i j d lt le. pairs (suc i) (suc j) d (omega arith) (omega arith))
      (λ k d lt. filled (suc k) d (omega arith)),
)
