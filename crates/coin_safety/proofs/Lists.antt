-- Steps of loops over lists.
use Rattle.coin_safety.proofs.Words.{◌≡◌, ℕ, zero, suc, ◌+◌, ◌<◌, ◌≤◌, List, [], ◌∷◌, ◌++◌, length, map, take, drop, get_or, reverse, slice_set, slice_index_or, refl, sym, ap, ◌∙◌, arith, flat_map, flat_map_more, take_more, reverse-append, reverse-reverse, length-reverse, length-take-le}

-- one more element, with the newest first
pub reversed-more : {X : Type 0} (xs : List X) (i : ℕ) (d : X) → i < length xs
    → reverse (take (i + 1) xs) ≡ get_or xs i d ∷ reverse (take i xs)
reversed-more xs i d within =
    ap reverse (take_more xs i d within) ∙ reverse-append (take i xs) (get_or xs i d ∷ [])

-- what one more element adds
pub flat-more : {X Y : Type 0} (f : X → List Y) (xs : List X) (i : ℕ) (d : X) → i < length xs
    → flat_map f (take i xs) ++ f (get_or xs i d) ≡ flat_map f (take (i + 1) xs)
flat-more f xs i d within =
    flat_map_more f [] (take i xs) (get_or xs i d) ∙ ap (flat_map f) (sym (take_more xs i d within))

-- one more element is changed in place
pub changed-more : {X : Type 0} (f : X → X) (xs : List X) (i : ℕ) (d : X) → i < length xs
    → slice_set (map f (take i xs) ++ drop i xs) i (f (slice_index_or (map f (take i xs) ++ drop i xs) i d))
    ≡ map f (take (i + 1) xs) ++ drop (i + 1) xs
changed-more f [] i d lt = absurd (omega arith)
changed-more f (x ∷ xs) zero d lt = refl
changed-more f (x ∷ xs) (suc i) d lt =
    let e : suc i + 1 ≡ suc (i + 1) = omega arith in
    rw e (ap (λ l. f x ∷ l) (changed-more f xs i d (omega arith)))

-- a log from its calls in order
take-all : {X : Type 0} (xs : List X) (i : ℕ) → length xs ≤ i → take i xs ≡ xs
take-all [] zero le = refl
take-all [] (suc i) le = refl
take-all (x ∷ xs) zero le = absurd (omega arith)
take-all (x ∷ xs) (suc i) le = ap (λ l. x ∷ l) (take-all xs i (omega arith))

pub whole-log : {X : Type 0} (events log : List X) (i : ℕ) → events ≡ reverse log → length events ≤ i
    → reverse (take i events) ≡ log
whole-log events log i is all =
    ap reverse (take-all events i all ∙ is) ∙ reverse-reverse log

-- one more call, where it is at hand
pub log-more : {X : Type 0} (events : List X) (i : ℕ) (x : X) → i < length events → x ≡ get_or events i x
    → reverse (take (i + 1) events) ≡ x ∷ reverse (take i events)
log-more events i x within at =
    reversed-more events i x within ∙ ap (λ y. y ∷ reverse (take i events)) (sym at)

pub so-many : {X : Type 0} (xs : List X) (i : ℕ) → i < length xs → length (reverse (take i xs)) ≡ i
so-many xs i within = length-reverse (take i xs) ∙ length-take-le i xs (omega arith)
