-- What is found in lists, and the least of some numbers.
use Rattle.coin_safety.proofs.Words.{◌≡◌, ◌⊎◌, ℕ, ◌≤◌, ◌||◌, min, Bool, true, false, if◌then◌else◌, List, [], ◌∷◌, ◌++◌, find, Some, None, inl, inr, refl, sym, ap, ◌∙◌, subst, arith, nat_le, flat_map, list_any, option_map_or, leb-true, leb-false, true≢false, some_same, Has, least}

-- ---- lists

pub any-found : {X : Type 0} (p : X → Bool) (xs : List X) → list_any p xs ≡ true → (x : X) × Has xs x × (p x ≡ true)
any-found p [] is = absurd (true≢false (sym is))
any-found p (x ∷ xs) is =
    (elim (p x) as (λ b. p x ≡ b → (b || list_any p xs) ≡ true → (y : _) × Has (x ∷ xs) y × (p y ≡ true)) [
      | true ↦ λ own _. (x, inl refl, own)
      | false ↦ λ other rest. let found = any-found p xs rest in (found.0, inr found.1, found.2)
    ]) refl is

pub none-any : {X : Type 0} (p : X → Bool) (xs : List X) (x : X) → list_any p xs ≡ false → Has xs x → p x ≡ false
none-any p [] x none h = absurd h
none-any p (y ∷ ys) x none h =
    (elim (p y) as (λ b. p y ≡ b → (b || list_any p ys) ≡ false → (y ≡ x) ⊎ Has ys x → p x ≡ false) [
      | true ↦ λ own wrong _. absurd (true≢false wrong)
      | false ↦ λ other rest it. elim it [
        | inl same ↦ ap p (sym same) ∙ other
        | inr deeper ↦ none-any p ys x rest deeper
      ]
    ]) refl none h

pub found-has : {X : Type 0} (p : X → Bool) (xs : List X) (x : X) → find p xs ≡ Some x → Has xs x × (p x ≡ true)
found-has p [] x is = absurd (cc is)
found-has p (y ∷ ys) x is =
    (elim (p y) as (λ b. p y ≡ b → (if b then Some y else find p ys) ≡ Some x → Has (y ∷ ys) x × (p x ≡ true)) [
      | true ↦ λ own same. let e = some_same y x same in (inl e, ap p (sym e) ∙ own)
      | false ↦ λ other rest. let found = found-has p ys x rest in (inr found.0, found.1)
    ]) refl is

pub missed : {X : Type 0} (p : X → Bool) (xs : List X) (x : X) → find p xs ≡ None → Has xs x → p x ≡ false
missed p [] x is h = absurd h
missed p (y ∷ ys) x is h =
    (elim (p y) as (λ b. p y ≡ b → (if b then Some y else find p ys) ≡ None → (y ≡ x) ⊎ Has ys x → p x ≡ false) [
      | true ↦ λ own wrong _. absurd (cc wrong)
      | false ↦ λ other rest it. elim it [
        | inl same ↦ ap p (sym same) ∙ other
        | inr deeper ↦ missed p ys x rest deeper
      ]
    ]) refl is h

-- where two lists together are empty, each is
pub front-none : {X : Type 0} (a b : List X) → a ++ b ≡ [] → a ≡ []
front-none [] b e = refl
front-none (z ∷ a) b e = absurd (cc e)

pub back-none : {X : Type 0} (a b : List X) → a ++ b ≡ [] → b ≡ []
back-none [] b e = e
back-none (z ∷ a) b e = absurd (cc e)

-- where nothing comes of the elements, nothing comes of each
pub each-none : {X Y : Type 0} (f : X → List Y) (xs : List X) (x : X) → flat_map f xs ≡ [] → Has xs x → f x ≡ []
each-none f [] x is h = absurd h
each-none f (y ∷ ys) x is (inl same) = ap f (sym same) ∙ front-none (f y) (flat_map f ys) is
each-none f (y ∷ ys) x is (inr h) = each-none f ys x (back-none (f y) (flat_map f ys) is) h

-- ---- the least

pub least-none : (ns : List ℕ) → least ns ≡ None → ns ≡ []
unfolding least
least-none [] is = refl
least-none (n ∷ ns) is = absurd (cc is)

-- the less of one and of what the others have
less-has : (n k m : ℕ) (ns : List ℕ) → Has ns k → min n k ≡ m → Has (n ∷ ns) m
less-has n k m ns h same =
    (elim (nat_le n k) as (λ b. nat_le n k ≡ b → Has (n ∷ ns) m) [
      | true ↦ λ le. let e : n ≡ m = omega (arith, leb-true n k le, same) in inl e
      | false ↦ λ gt. let e : k ≡ m = omega (arith, leb-false n k gt, same) in inr (subst (λ j. Has ns j) e h)
    ]) refl

pub least-has : (ns : List ℕ) (m : ℕ) → least ns ≡ Some m → Has ns m
unfolding least
least-has [] m is = absurd (cc is)
least-has (n ∷ ns) m is =
    (elim (least ns) as (λ o. least ns ≡ o → Some (option_map_or (min n) o n) ≡ Some m → Has (n ∷ ns) m) [
      | None ↦ λ none same. inl (some_same n m same)
      | Some k ↦ λ some same. less-has n k m ns (least-has ns k some) (some_same (min n k) m same)
    ]) refl is

pub least-le : (ns : List ℕ) (m n : ℕ) → least ns ≡ Some m → Has ns n → m ≤ n
unfolding least
least-le [] m n is h = absurd h
least-le (k ∷ ns) m n is h =
    (elim (least ns) as (λ o. least ns ≡ o → Some (option_map_or (min k) o k) ≡ Some m → m ≤ n) [
      | None ↦ λ none same. elim h [
        | inl own ↦ omega (arith, some_same k m same, own)
        | inr deeper ↦ absurd (subst (λ l. Has l n) (least-none ns none) deeper)
      ]
      | Some j ↦ λ some same. elim h [
        | inl own ↦ omega (arith, some_same (min k j) m same, own)
        | inr deeper ↦ omega (arith, some_same (min k j) m same, least-le ns j n some deeper)
      ]
    ]) refl is
