-- The links of a coin up to a tip, as they are found in memory.
use Rattle.wallet_node.proofs.Words.{◌≡◌, ◌<◌, ℕ, ◌+◌, ◌==◌, Bool, true, false, if◌then◌else◌, List, [], ◌∷◌, ◌++◌, length, map, find, Option, None, Some, Ok, refl, sym, ◌∙◌, ap, arith, unwrap_or, reverse, and_parts, nat_tests, Link, KeptCoin, kept_coin_of, due_of, guard_of, CoinState, chain_of, option_map_or, range_with_len, reverse-append, length-map, Owner, Links, RootCall, coin_at, exits_of, slice_get_within, common_steps, messages_of, leaves_in, WalletRecords, last_leaf, who, links_at, start_of, exit_start, due_at, due_in, MemoryState, memory_in, is_kept_at, links_behind, spends_at}
use Rattle.coin_history.specs.declared.bundle.Bundle.{Bundle}
use Rattle.coin_history.specs.History.{links_in}
use Rattle.node_rules.specs.Watcher.{is_of}
use Rattle.std.proofs.lemmas.List.FromFn.{map-range_with_len_more}
use Rattle.plasma_tx.specs.declared.views.CoinView.{CoinView}

-- what is kept of a coin up to a tip, or nothing
abbrev kept_or_none : ℕ → ℕ → Option Bundle → Bundle
kept_or_none coin tip found = unwrap_or found (record { coin = coin; tip = tip; openings = [] })

-- the links that it shows
abbrev links_found : List ℕ → ℕ → ℕ → List Bundle → List Link
links_found tag coin tip all =
    links_in (chain_of tag) coin (kept_or_none coin tip (find (is_of coin tip) all)).openings

same-coin : (coin tip : ℕ) (kept : Bundle) → is_of coin tip kept ≡ true → kept.coin ≡ coin
same-coin coin tip kept is = grind (arith, nat_tests, (and_parts (kept.coin == coin) (kept.tip == tip) is).0)

pub spends-kept : (tag : List ℕ) (coin tip : ℕ) (all : List Bundle)
    → option_map_or (λ (kept : KeptCoin). kept.spends) (find (is_kept_at coin tip) (map (kept_coin_of tag) all)) []
    ≡ links_found tag coin tip all
unfolding links_in
spends-kept tag coin tip [] = refl
spends-kept tag coin tip (kept ∷ all) = grind (arith, common_steps, spends-kept tag coin tip all, same-coin) steps 20000

-- so are they in what is kept of the records
pub spends-in-memory : (dig : List ℕ → List ℕ) (records : WalletRecords) (coin tip : ℕ) (memory : MemoryState)
    → memory ≡ memory_in dig records.notes
    → option_map_or (λ (kept : KeptCoin). kept.spends) (find (is_kept_at coin tip) memory.kept) []
    ≡ spends_at dig records coin tip
spends-in-memory dig records coin tip memory is = grind (arith, common_steps, spends-kept) steps 20000

-- it is of the coin
found-coin : (coin tip : ℕ) (all : List Bundle) → (kept_or_none coin tip (find (is_of coin tip) all)).coin ≡ coin
found-coin coin tip [] = refl
found-coin coin tip (kept ∷ all) = grind (arith, common_steps, found-coin coin tip all, same-coin) steps 20000

-- who deposited a coin doesn't matter for the start of its exit
start-same : (account tip coin deposit : ℕ) (one other : Owner) (spends : List Link)
    → start_of account tip (record { coin = coin; deposit = deposit; owner = one; spends = spends })
    ≡ start_of account tip (record { coin = coin; deposit = deposit; owner = other; spends = spends })
start-same account tip coin deposit one other spends = grind (arith, common_steps) steps 20000

-- the links of a coin that the log has
pub links-are : (dig : List ℕ → List ℕ) (wallet : WalletRecords) (log : List RootCall) (coin tip : ℕ)
    (made : CoinView) → coin_at log coin ≡ Some made
    → links_at dig wallet log coin tip
    ≡ Some (record {
      coin = coin;
      deposit = made.deposit;
      owner = made.owner;
      spends = spends_at dig wallet coin tip;
    })
links-are dig wallet log coin tip made is = grind (arith, common_steps, found-coin) steps 20000

-- the start of the exit of such a coin
pub start-is : (dig : List ℕ → List ℕ) (wallet : WalletRecords) (log : List RootCall) (coin tip : ℕ) (made : CoinView)
    → coin_at log coin ≡ Some made
    → exit_start dig wallet log coin tip
    ≡ Ok (start_of (who wallet).account tip (links_behind coin made.deposit (spends_at dig wallet coin tip)))
start-is dig wallet log coin tip made is = grind (arith, common_steps, links-are, start-same) steps 20000

-- what is due for a coin that the log has
pub due-is : (dig : List ℕ → List ℕ) (wallet : WalletRecords) (log : List RootCall) (coin tip : ℕ) (made : CoinView)
    → coin_at log coin ≡ Some made
    → due_at dig wallet log coin tip
    ≡ due_of log (who wallet).account (guard_of coin made.deposit (spends_at dig wallet coin tip))
due-is dig wallet log coin tip made is =
    ap (λ (found : Option Links). option_map_or
    (λ (links : Links). due_of log (who wallet).account (record { links = links })) found [])
    (links-are dig wallet log coin tip made is)

-- nothing is, where it hasn't
pub due-gone : (dig : List ℕ → List ℕ) (wallet : WalletRecords) (log : List RootCall) (coin tip : ℕ)
    → coin_at log coin ≡ None → due_at dig wallet log coin tip ≡ []
due-gone dig wallet log coin tip is = grind (arith, common_steps, found-coin) steps 20000

-- or where no exit of it stands
due-still : (dig : List ℕ → List ℕ) (wallet : WalletRecords) (log : List RootCall) (coin tip : ℕ)
    → exits_of log coin ≡ [] → due_at dig wallet log coin tip ≡ []
due-still dig wallet log coin tip none = grind (arith, common_steps, due-gone, due-is) steps 20000

pub due-none : (dig : List ℕ → List ℕ) (wallet : WalletRecords) (log : List RootCall) (coin : ℕ) (state : CoinState)
    → exits_of log coin ≡ [] → due_in dig wallet log coin state ≡ []
due-none dig wallet log coin state none = grind (arith, common_steps, due-still) steps 20000

-- one coin more
map-same : (xs : List ℕ) → map (λ x. x) xs ≡ xs
map-same [] = refl
map-same (x ∷ xs) = ap (λ (l : List ℕ). x ∷ l) (map-same xs)

pub range-more : (a n : ℕ) → range_with_len a (n + 1) ≡ range_with_len a n ++ (a + n) ∷ []
range-more a n =
    sym (map-same (range_with_len a (n + 1))) ∙ map-range_with_len_more (λ x. x) a n (a + n) refl
    ∙ ap (λ (l : List ℕ). l ++ (a + n) ∷ []) (map-same (range_with_len a n))

pub last-more : (p : ℕ → Bool) (n : ℕ)
    → find p (reverse (range_with_len 0 (n + 1))) ≡ (if p n then Some n else find p (reverse (range_with_len 0 n)))
last-more p n = grind (arith, common_steps, range-more, reverse-append) steps 20000

pub last-here : (p : ℕ → Bool) (n q : ℕ) → q ≡ n + 1 → p n ≡ true
    → find p (reverse (range_with_len 0 q)) ≡ Some n
last-here p n q is named = grind (arith, common_steps, last-more) steps 20000

pub last-not : (p : ℕ → Bool) (n q : ℕ) → q ≡ n + 1 → p n ≡ false
    → find p (reverse (range_with_len 0 q)) ≡ find p (reverse (range_with_len 0 n))
last-not p n q is other = grind (arith, common_steps, last-more) steps 20000

-- what is found passes the test
find-true : (p : ℕ → Bool) (xs : List ℕ) (q : ℕ) → find p xs ≡ Some q → p q ≡ true
find-true p [] q is = absurd (cc is)
find-true p (x ∷ xs) q is = grind (arith, common_steps, find-true p xs q) steps 20000

-- a leaf that names a coin is bound
pub last-within : (records : List (List ℕ)) (coin q : ℕ) → last_leaf (leaves_in records) coin ≡ Some q
    → q < length (messages_of records)
last-within records coin q is = grind (arith, common_steps, find-true, slice_get_within, length-map) steps 20000
