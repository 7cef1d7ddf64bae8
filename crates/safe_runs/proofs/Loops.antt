-- What loops over lists come to with one more element.
use Rattle.std.proofs.Common.{◌≡◌, ◌<◌, ◌+◌, ℕ, List, [], ◌∷◌, ◌++◌, length, take, get_or, map, Option, refl, sym, ap, ◌∙◌}
use Rattle.std.specs.List.{filter_map}
use Rattle.std.specs.Ordering.{nat_cmp}
use Rattle.std.specs.BTreeSet.{insert_key}
use Rattle.std.proofs.lemmas.List.{map-append, take_more}
use Rattle.std.proofs.lemmas.List.Elements.{filter_map-append}
use Rattle.safe_runs.specs.Cases.{rising_with}

pub filter-more : {X Y : Type 0} (f : X → Option Y) (xs : List X) (i : ℕ) (x : X) → i < length xs
    → x ≡ get_or xs i x → filter_map f (take i xs) ++ filter_map f (x ∷ []) ≡ filter_map f (take (i + 1) xs)
filter-more {X} f xs i x less is =
    sym (filter_map-append f (take i xs) (x ∷ []))
    ∙ ap (λ (y : X). filter_map f (take i xs ++ y ∷ [])) is
    ∙ ap (filter_map f) (sym (take_more xs i x less))

-- ---- rising numbers

pub rising-none : (before : List ℕ) → rising_with before [] ≡ before
unfolding rising_with
rising-none before = refl

rising-more : (before numbers : List ℕ) (number : ℕ)
    → rising_with before (numbers ++ number ∷ []) ≡ insert_key nat_cmp (rising_with before numbers) number
unfolding rising_with
rising-more before [] number = refl
rising-more before (first ∷ numbers) number = rising-more (insert_key nat_cmp before first) numbers number

pub rising_at : (before numbers : List ℕ) (i : ℕ) → i < length numbers
    → rising_with before (take (i + 1) numbers)
    ≡ insert_key nat_cmp (rising_with before (take i numbers)) (get_or numbers i 0)
rising_at before numbers i less =
    ap (rising_with before) (take_more numbers i 0 less) ∙ rising-more before (take i numbers) (get_or numbers i 0)

pub rising-map-take : {X : Type 0} (f : X → ℕ) (before : List ℕ) (xs : List X) (i : ℕ) (x : X) → i < length xs
    → x ≡ get_or xs i x
    → rising_with before (map f (take (i + 1) xs)) ≡ insert_key nat_cmp (rising_with before (map f (take i xs))) (f x)
rising-map-take {X} f before xs i x less is =
    ap (λ (l : List X). rising_with before (map f l))
    (take_more xs i x less ∙ ap (λ (y : X). take i xs ++ y ∷ []) (sym is))
    ∙ ap (rising_with before) (map-append f (take i xs) (x ∷ []))
    ∙ rising-more before (map f (take i xs)) (f x)

pub rising-both : (before front back : List ℕ)
    → rising_with (rising_with before front) back ≡ rising_with before (front ++ back)
unfolding rising_with
rising-both before [] back = refl
rising-both before (number ∷ front) back = rising-both (insert_key nat_cmp before number) front back
