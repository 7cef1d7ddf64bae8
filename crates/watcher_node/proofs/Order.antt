-- Guards in a map by coins and tips.
use Rattle.watcher_node.proofs.Words.{◌≡◌, ◌==◌, ◌&&◌, ◌||◌, not, ℕ, Bool, true, false, cond, nat_lt, List, [], ◌∷◌, ◌++◌, map, filter, Option, Some, is_some, refl, sym, ◌∙◌, ap, inl, inr, arith, list_any, AllByRecursion, keys_of, values_of, lookup, remove_entry, cases_Bool, or_parts, common_steps, KeptCoin, is_watched_at, comes_before, with_watched, by_place, keyed}
use Rattle.std.specs.List.Sorted.{IsStrictlySortedBy}
use Rattle.std.specs.declared.cmp.Ordering.{Ordering}
use Rattle.std.specs.declared.cmp.Ordering.TheVariants.{Less, Equal, Greater}
use Rattle.std.specs.Ordering.{ordering_then, is_lt, is_eq}
use Rattle.std.specs.BTreeMap.{insert_entry, is_at}
use Rattle.std.specs.Cmp.{IsTotalOrder}
use Rattle.std.proofs.lemmas.Cmp.{nat_cmp_total, on_total, then_total, tied_itself}
use Rattle.std.proofs.lemmas.Bool.Decides.{nat_tests}

-- ---- the order of two numbers and two numbers

total : IsTotalOrder by_place
total = then_total (on_total (λ (p : ℕ × ℕ). p.0) nat_cmp_total) (on_total (λ (p : ℕ × ℕ). p.1) nat_cmp_total)

less-by : (l e l' e' : Bool)
    → is_lt (ordering_then (cond l Less (cond e Equal Greater)) (cond l' Less (cond e' Equal Greater)))
    ≡ (l || (e && l'))
less-by l e l' e' = grind (arith, common_steps) steps 20000

same-by : (l e l' e' : Bool) → (e ≡ true → l ≡ false) → (e' ≡ true → l' ≡ false)
    → is_eq (ordering_then (cond l Less (cond e Equal Greater)) (cond l' Less (cond e' Equal Greater)))
    ≡ (e && e')
same-by true true l' e' not-less not-less' = absurd (let wrong = not-less refl in cc wrong)
same-by true false l' e' not-less not-less' = refl
same-by false true true true not-less not-less' = absurd (let wrong = not-less' refl in cc wrong)
same-by false true true false not-less not-less' = refl
same-by false true false true not-less not-less' = refl
same-by false true false false not-less not-less' = refl
same-by false false l' e' not-less not-less' = refl

not-less : (a b : ℕ) → (a == b) ≡ true → nat_lt a b ≡ false
not-less a b same = grind (arith, nat_tests, same)

abbrev place : KeptCoin → ℕ × ℕ
place watched = (watched.coin, watched.tip)

before-is : (one other : KeptCoin) → is_lt (by_place (place one) (place other)) ≡ comes_before one other
before-is one other =
    less-by (nat_lt one.coin other.coin) (one.coin == other.coin) (nat_lt one.tip other.tip) (one.tip == other.tip)

flip : (a b : ℕ) → (a == b) ≡ (b == a)
flip a b = grind arith

at-is : (coin tip : ℕ) (one : KeptCoin) → is_eq (by_place (coin, tip) (place one)) ≡ is_watched_at coin tip one
at-is coin tip one = grind (arith, common_steps, same-by, not-less, flip) steps 20000

-- ---- one that is asked for

has-keyed : (coin tip : ℕ) (all : List KeptCoin)
    → is_some (lookup (is_at (by_place (coin, tip))) (map keyed all)) ≡ list_any (is_watched_at coin tip) all
has-keyed coin tip [] = refl
has-keyed coin tip (x ∷ xs) =
    at (is_eq (by_place (coin, tip) (place x)))
    ∙ (λ i. at-is coin tip x i || has-keyed coin tip xs i)
  where
    found : Option KeptCoin
    found = lookup (is_at (by_place (coin, tip))) (map keyed xs)

    at : (b : Bool) → is_some (cond b (Some x) found) ≡ (b || is_some found)
    at true = refl
    at false = refl

pub asked-keyed : (coin tip : ℕ) (entries : List ((ℕ × ℕ) × KeptCoin)) (all : List KeptCoin) → entries ≡ map keyed all
    → list_any (is_watched_at coin tip) all ≡ is_some (lookup (is_at (by_place (coin, tip))) entries)
asked-keyed coin tip entries all are = grind (arith, common_steps, has-keyed) steps 20000

pub values-keyed : (all : List KeptCoin) → values_of (map keyed all) ≡ all
values-keyed [] = refl
values-keyed (x ∷ xs) = ap (λ (l : List KeptCoin). x ∷ l) (values-keyed xs)

-- ---- one that is put there

abbrev before : KeptCoin → List KeptCoin → List KeptCoin
before watched all = filter (λ other. comes_before other watched) all

abbrev behind : KeptCoin → List KeptCoin → List KeptCoin
behind watched all = filter (λ other. not (comes_before other watched)) all

abbrev AllLater : ℕ × ℕ → List KeptCoin → Type 0
AllLater p all = AllByRecursion (λ q. by_place p q ≡ Less) (keys_of (map keyed all))

after-all : (p q : ℕ × ℕ) (all : List KeptCoin) → by_place p q ≡ Less → AllLater q all → AllLater p all
after-all p q [] less later = tt
after-all p q (x ∷ xs) less later =
    (total.trans p q (place x) less later.0, after-all p q xs less later.1)

-- where one comes after none of them
none-before : (watched : KeptCoin) (all : List KeptCoin) → AllLater (place watched) all
    → (before watched all ≡ []) × (behind watched all ≡ all)
none-before watched [] later = (refl, refl)
none-before watched (x ∷ xs) later =
    let rest = none-before watched xs later.1 in
    let other : comes_before x watched ≡ false = grind (arith, common_steps, before-is, total) steps 20000 in
    rw other (rest.0, ap (λ (l : List KeptCoin). x ∷ l) rest.1)

put-is : (watched : KeptCoin) (all : List KeptCoin) → IsStrictlySortedBy by_place (keys_of (map keyed all))
    → list_any (is_watched_at watched.coin watched.tip) all ≡ false
    → insert_entry by_place (map keyed all) (place watched) watched
    ≡ map keyed (before watched all ++ watched ∷ behind watched all)
unfolding IsStrictlySortedBy
put-is watched [] sorted absent = refl
put-is watched (x ∷ xs) sorted absent =
    at (by_place (place watched) (place x)) refl (put-is watched xs sorted.1 parts.1)
  where
    parts : (is_watched_at watched.coin watched.tip x ≡ false)
        × (list_any (is_watched_at watched.coin watched.tip) xs ≡ false)
    parts = grind (arith, common_steps, or_parts) steps 20000

    at : (o : Ordering) → by_place (place watched) (place x) ≡ o
        → insert_entry by_place (map keyed xs) (place watched) watched
        ≡ map keyed (before watched xs ++ watched ∷ behind watched xs)
        → insert_entry by_place (map keyed (x ∷ xs)) (place watched) watched
        ≡ map keyed (before watched (x ∷ xs) ++ watched ∷ behind watched (x ∷ xs))
    at Less less rest =
        let none = none-before watched (x ∷ xs)
        (less, after-all (place watched) (place x) xs less sorted.0) in
        rw (less, none.0, none.1) refl
    at Equal same rest =
        absurd (let wrong = ap is_eq (sym same) ∙ at-is watched.coin watched.tip x ∙ parts.0 in cc wrong)
    at Greater more rest =
        let first : comes_before x watched ≡ true = grind (arith, common_steps, before-is, total) steps 20000 in
        rw (more, first) (ap (λ (l : List ((ℕ × ℕ) × KeptCoin)). keyed x ∷ l) rest)

pub put-keyed : (watched : KeptCoin) (all : List KeptCoin) (old new : List ((ℕ × ℕ) × KeptCoin))
    → IsStrictlySortedBy by_place (keys_of old) → list_any (is_watched_at watched.coin watched.tip) all ≡ false
    → old ≡ map keyed all → new ≡ insert_entry by_place old (watched.coin, watched.tip) watched
    → new ≡ map keyed (with_watched watched all)
put-keyed watched all old new sorted absent are put = grind (arith, common_steps, put-is) steps 20000

-- one that is there stays
pub kept-keyed : (watched : KeptCoin) (all : List KeptCoin)
    → list_any (is_watched_at watched.coin watched.tip) all ≡ true → map keyed all
    ≡ map keyed (with_watched watched all)
kept-keyed watched all there = rw there refl

-- ---- one that is taken away

none-at : (coin tip : ℕ) (all : List KeptCoin) → AllLater (coin, tip) all
    → filter (λ watched. not (is_watched_at coin tip watched)) all ≡ all
none-at coin tip [] later = refl
none-at coin tip (x ∷ xs) later =
    rw (sym (at-is coin tip x) ∙ ap is_eq later.0) (ap (λ (l : List KeptCoin). x ∷ l) (none-at coin tip xs later.1))

behind-same : (p q : ℕ × ℕ) (all : List KeptCoin) → is_eq (by_place p q) ≡ true → AllLater q all → AllLater p all
behind-same p q [] same later = tt
behind-same p q (x ∷ xs) same later =
    (total.congr p q (place x) (equal (by_place p q) same) ∙ later.0, behind-same p q xs same later.1)
  where
    equal : (o : Ordering) → is_eq o ≡ true → o ≡ Equal
    equal Equal is = refl
    equal o wrong = absurd (cc wrong)

remove-is : (coin tip : ℕ) (all : List KeptCoin) → IsStrictlySortedBy by_place (keys_of (map keyed all))
    → remove_entry (is_at (by_place (coin, tip))) (map keyed all)
    ≡ map keyed (filter (λ watched. not (is_watched_at coin tip watched)) all)
unfolding IsStrictlySortedBy
remove-is coin tip [] sorted = refl
remove-is coin tip (x ∷ xs) sorted = elim (cases_Bool (is_eq (by_place (coin, tip) (place x)))) [
  | inl here ↦
      let there : is_watched_at coin tip x ≡ true = sym (at-is coin tip x) ∙ here in
      rw (here, there)
      (ap (map keyed) (sym (none-at coin tip xs (behind-same (coin, tip) (place x) xs here sorted.0))))
  | inr other ↦
      grind (arith, common_steps, remove-is coin tip xs sorted.1, at-is) steps 20000
]

pub removed-keyed : (coin tip : ℕ) (all : List KeptCoin) (old new : List ((ℕ × ℕ) × KeptCoin))
    → IsStrictlySortedBy by_place (keys_of old) → old ≡ map keyed all
    → new ≡ remove_entry (is_at (by_place (coin, tip))) old
    → new ≡ map keyed (filter (λ watched. not (is_watched_at coin tip watched)) all)
removed-keyed coin tip all old new sorted are gone = grind (arith, common_steps, remove-is) steps 20000

-- one that was put where there was none, and is taken away again
pub put-undone : (p : ℕ × ℕ) (watched : KeptCoin) (old : List ((ℕ × ℕ) × KeptCoin))
    → is_some (lookup (is_at (by_place p)) old) ≡ false
    → remove_entry (is_at (by_place p)) (insert_entry by_place old p watched) ≡ old
put-undone p watched [] absent = rw (tied_itself total p) refl
put-undone p watched (e ∷ es) absent = at (by_place p e.0) refl (put-undone p watched es) absent
  where
    at : (o : Ordering) → by_place p e.0 ≡ o
        → (is_some (lookup (is_at (by_place p)) es) ≡ false
        → remove_entry (is_at (by_place p)) (insert_entry by_place es p watched) ≡ es)
        → is_some (lookup (is_at (by_place p)) (e ∷ es)) ≡ false
        → remove_entry (is_at (by_place p)) (insert_entry by_place (e ∷ es) p watched) ≡ e ∷ es
    at Less less rest none = rw less (rw (tied_itself total p) refl)
    at Equal same rest none = absurd (let wrong = rw same at none in cc wrong)
    at Greater more rest none =
        let later = rw more at none in
        rw more (rw more (ap (λ (l : List ((ℕ × ℕ) × KeptCoin)). e ∷ l) (rest later)))
