-- What is due over all coins is due over those of which an exit stands.
use Rattle.wallet_node.proofs.Words.{◌≡◌, ◌⊎◌, ◌<◌, ◌≤◌, ℕ, zero, suc, ◌+◌, ◌==◌, ◌&&◌, Bool, true, false, List, [], ◌∷◌, ◌++◌, None, inl, inr, refl, sym, ◌∙◌, ap, arith, list_any, flat_map, range_with_len, AllByRecursion, cases_Bool, cases_eq, ne_eqb, or_from, nat_tests, common_steps, RootCall, coins, coin_at, exits_of, has_exits, is_exiting, state_of, may_have, leaves_in, WalletRecords, noted, coin_state, due_in, watch_answer, due_of_coin, is_watched}
use Rattle.std.specs.List.Sorted.{IsStrictlySortedBy}
use Rattle.std.specs.Ordering.{nat_cmp}
use Rattle.std.specs.BTreeSet.{BTreeSet, contains, IsOrdered}
use Rattle.std.specs.declared.cmp.Ordering.TheVariants.{Less}
use Rattle.plasma_tx.specs.declared.call.RootCall.TheVariants.{Deposit}
use Rattle.plasma_tx.specs.declared.views.ExitView.{ExitView}
use Rattle.plasma_tx.proofs.States.{is_at-nat}
use Rattle.wallet_core.proofs.OwnCoins.{others_are_nothing}
use Rattle.wallet_node.proofs.Spends.{due-none}

-- ---- rising numbers, and a range

-- they rise, and none is below the first number
abbrev RiseFrom : ℕ → List ℕ → Type 0
RiseFrom low [] = Unit {0}
RiseFrom low (x ∷ xs) = (low ≤ x) × RiseFrom (x + 1) xs

less-means : (x y : ℕ) → nat_cmp x y ≡ Less → x + 1 ≤ y
less-means x y is = grind (arith, nat_tests, is)

later-from : (x : ℕ) (xs : List ℕ) → AllByRecursion (λ y. nat_cmp x y ≡ Less) xs → AllByRecursion (λ y. x + 1 ≤ y) xs
later-from x [] later = tt
later-from x (y ∷ ys) later = (less-means x y later.0, later-from x ys later.1)

rise-from : (low : ℕ) (xs : List ℕ) → AllByRecursion (λ y. low ≤ y) xs → IsStrictlySortedBy nat_cmp xs → RiseFrom low xs
unfolding IsStrictlySortedBy
rise-from low [] from sorted = tt
rise-from low (x ∷ xs) from sorted = (from.0, rise-from (x + 1) xs (later-from x xs sorted.0) sorted.1)

all-from-none : (xs : List ℕ) → AllByRecursion (λ y. 0 ≤ y) xs
all-from-none [] = tt
all-from-none (x ∷ xs) = (omega arith, all-from-none xs)

abbrev among : List ℕ → ℕ → Bool
among xs c = list_any (λ x. x == c) xs

none-below : (low c : ℕ) (xs : List ℕ) → RiseFrom low xs → c < low → among xs c ≡ false
none-below low c [] rise below = refl
none-below low c (x ∷ xs) rise below =
    grind (arith, common_steps, none-below (x + 1) c xs rise.1 (omega arith), or_from, ne_eqb) steps 20000

module _ {X : Type 0} (f : ℕ → List X) where
  none-due : (low : ℕ) (xs : List ℕ) → RiseFrom low xs → ((c : ℕ) → low ≤ c → f c ≡ []) → flat_map f xs ≡ []
  none-due low [] rise none = refl
  none-due low (x ∷ xs) rise none =
      ap (λ (l : List X). l ++ flat_map f xs) (none x rise.0)
      ∙ none-due (x + 1) xs rise.1 (λ c from. none c (omega arith))

  -- numbers that rise, and a range in which nothing comes of the other numbers, nor of those past it
  over-range : (n low : ℕ) (xs : List ℕ) → RiseFrom low xs
      → ((c : ℕ) → low ≤ c → among xs c ≡ false → f c ≡ [])
      → ((c : ℕ) → low + n ≤ c → f c ≡ []) → flat_map f xs ≡ flat_map f (range_with_len low n)
  over-range zero low xs rise other past = none-due low xs rise (λ c from. past c (omega arith))
  over-range (suc n) low [] rise other past =
      over-range n (low + 1) [] tt (λ c from not. other c (omega arith) not) (λ c from. past c (omega arith))
      ∙ ap (λ (l : List X). l ++ flat_map f (range_with_len (low + 1) n)) (sym (other low (omega arith) refl))
  over-range (suc n) low (x ∷ xs) rise other past = elim (cases_eq low x) [
    | inl same ↦
        ap (λ (k : ℕ). f k ++ flat_map f xs) (sym same)
        ∙ ap (λ (l : List X). f low ++ l)
        (over-range n (low + 1) xs (next xs same rise.1)
        (grind (arith, common_steps, or_from, ne_eqb) steps 20000)
        (λ c from. past c (omega arith)))
    | inr apart ↦
        let above : low + 1 ≤ x = higher rise.0 apart in
        over-range n (low + 1) (x ∷ xs) (above, rise.1) (λ c from not. other c (omega arith) not)
        (λ c from. past c (omega arith))
        ∙ ap (λ (l : List X). l ++ flat_map f (range_with_len (low + 1) n))
        (sym (other low (omega arith) (none-below (low + 1) low (x ∷ xs) (above, rise.1) (omega arith))))
  ]
    where
      next : (ys : List ℕ) → low ≡ x → RiseFrom (x + 1) ys → RiseFrom (low + 1) ys
      next ys same from = rw same from

      higher : low ≤ x → (low ≡ x → ⊥) → low + 1 ≤ x
      higher from apart = omega arith

-- ---- coins

-- a log has no coin 0, and none past the number of its coins
coin_at-none : (log : List RootCall) (c : ℕ) → (0 < c → coins log < c) → coin_at log c ≡ None
unfolding coin_at coins
coin_at-none [] c past = refl
coin_at-none (Deposit account amount key ∷ log) c past =
    rw (ne_eqb c (coins log + 1) (λ same. absurd (let less : coins log + 1 < c = past (omega arith) in omega arith)))
    (coin_at-none log c (λ some. (let less : coins log + 1 < c = past some in omega arith)))
coin_at-none (call ∷ log) c past = coin_at-none log c past

no-exits : (views : List ExitView) → has_exits views ≡ false → views ≡ []
no-exits [] none = refl
no-exits (view ∷ views) some = absurd (cc some)

unmade-due : (dig : List ℕ → List ℕ) (wallet : WalletRecords) (log : List RootCall) (coin : ℕ)
    → coin_at log coin ≡ None → due_of_coin dig wallet log coin ≡ []
unfolding coin_state state_of
unmade-due dig wallet log coin none = rw none refl

still-due : (dig : List ℕ → List ℕ) (wallet : WalletRecords) (log : List RootCall) (coin : ℕ)
    → is_exiting log coin ≡ false → due_of_coin dig wallet log coin ≡ []
still-due dig wallet log coin still =
    due-none dig wallet log coin (coin_state dig wallet log coin) (no-exits (exits_of log coin) still)

-- rising coins, beside which nothing is due
watched-but : (dig : List ℕ → List ℕ) (wallet : WalletRecords) (log : List RootCall) (some : BTreeSet ℕ)
    → ((c : ℕ) → contains nat_cmp some c ≡ false → due_of_coin dig wallet log c ≡ []) → IsOrdered nat_cmp some
    → flat_map (due_of_coin dig wallet log) some.keys ≡ watch_answer dig wallet log
unfolding watch_answer
watched-but dig wallet log some still rising =
    over-range due (suc (coins log)) 0 some.keys (rise-from 0 some.keys (all-from-none some.keys) rising)
    (λ c from none. still c ((λ i. list_any (λ coin. is_at-nat c coin i) some.keys) ∙ none))
    (λ c past. unmade-due dig wallet log c (coin_at-none log c (λ some. omega arith)))
    ∙ ap (λ (calls : List RootCall). calls ++ flat_map due (range_with_len 1 (coins log)))
    (unmade-due dig wallet log 0 (coin_at-none log 0 (λ wrong. absurd (omega arith))))
  where
    due : ℕ → List RootCall
    due = due_of_coin dig wallet log

pub watched-exiting : (dig : List ℕ → List ℕ) (wallet : WalletRecords) (log : List RootCall) (exiting : BTreeSet ℕ)
    → ((c : ℕ) → contains nat_cmp exiting c ≡ is_exiting log c) → IsOrdered nat_cmp exiting
    → flat_map (due_of_coin dig wallet log) exiting.keys ≡ watch_answer dig wallet log
watched-exiting dig wallet log exiting exactly rising =
    watched-but dig wallet log exiting (λ c none. still-due dig wallet log c (sym (exactly c) ∙ none)) rising

other-due : (dig : List ℕ → List ℕ) (wallet : WalletRecords) (log : List RootCall) (coin : ℕ)
    → may_have (noted dig wallet) log coin ≡ false → due_of_coin dig wallet log coin ≡ []
unfolding coin_state
other-due dig wallet log coin other =
    ap (due_in dig wallet log coin) (others_are_nothing (noted dig wallet) (leaves_in wallet.leaves) log coin other)

both-false : (one other : Bool) → (one && other) ≡ false → (one ≡ false) ⊎ (other ≡ false)
both-false true other is = inr is
both-false false other is = inl refl

pub watched-own : (dig : List ℕ → List ℕ) (wallet : WalletRecords) (log : List RootCall) (own : BTreeSet ℕ)
    → ((c : ℕ) → contains nat_cmp own c ≡ (may_have (noted dig wallet) log c && is_exiting log c))
    → IsOrdered nat_cmp own
    → flat_map (due_of_coin dig wallet log) own.keys ≡ watch_answer dig wallet log
watched-own dig wallet log own exactly rising =
    grind (arith, common_steps, watched-but, both-false, other-due, still-due) steps 20000

-- ---- what memory is taken for

-- a wallet may have a coin that it holds or leaves with
pub watched-may : (dig : List ℕ → List ℕ) (wallet : WalletRecords) (log : List RootCall) (coin : ℕ)
    → is_watched (coin_state dig wallet log coin) ≡ true → may_have (noted dig wallet) log coin ≡ true
unfolding coin_state
watched-may dig wallet log coin watched = grind (arith, common_steps, cases_Bool, others_are_nothing) steps 20000
