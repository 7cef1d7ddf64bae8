-- Lists: what is in one, what holds of each, and finding.
use Rattle.world_laws.proofs.CoinWords.{RootCall, Challenge, Exit, is_exit, with_exit_changed, with_answer_at, challenge_at, exits, exit_at, exits-distinct, Has, any-has, only-found, has-left, has-right}
use Rattle.std.proofs.Common.{◌≡◌, ◌⊎◌, ℕ, zero, suc, ◌||◌, ◌==◌, ◌&&◌, not, Bool, true, false, if◌then◌else◌, List, [], ◌∷◌, ◌++◌, map, Some, None, inl, inr, refl, sym, ap, ◌∙◌, subst, find, arith, filter, cond}
use Rattle.std.specs.Prelude.{slice_get, is_none}
use Rattle.std.specs.List.{AllByRecursion, list_any, list_all, flat_map}
use Rattle.std.proofs.lemmas.Bool.{eqb-true, and_parts, and_from, or_cases, true≢false, false≢true, false_from_ne_true}
use Rattle.std.proofs.lemmas.Grind.{common_steps}

pub some_same : {A : Type 0} (x y : A) → Some x ≡ Some y → x ≡ y
some_same x y e = cc

pub none_some : {A : Type 0} (x : A) → None ≡ Some x → ⊥
none_some x e = cc

-- ---- two truth values

pub and-seen : (a b : Bool) → (a && not b) ≡ false → a ≡ true → b ≡ true
and-seen true true off on = refl
and-seen true false off on = absurd (true≢false off)
and-seen false b off on = absurd (false≢true on)

pub and-off : (a b : Bool) → (a && b) ≡ false → a ≡ true → b ≡ false
and-off a b off on = grind (arith, common_steps, false≢true)

-- ---- lists

pub any-none : {A : Type 0} (p : A → Bool) (xs : List A) (x : A) → list_any p xs ≡ false → Has xs x → p x ≡ false
any-none p xs x none h = false_from_ne_true (p x) (λ is. true≢false (sym (any-has p xs x h is) ∙ none))

pub any-some : {A : Type 0} (p : A → Bool) (xs : List A) → list_any p xs ≡ true
    → (x : A) × Has xs x × (p x ≡ true)
any-some p [] is = absurd (false≢true is)
any-some p (y ∷ ys) is =
    elim (or_cases (p y) (list_any p ys) is) [
      | inl here ↦ (y, inl refl, here)
      | inr later ↦ let r = any-some p ys later in (r.0, inr r.1, r.2)
    ]

pub all-from : {X : Type 0} (P : X → Type 0) (xs : List X) → ((x : X) → Has xs x → P x) → AllByRecursion P xs
all-from P [] h = tt
all-from P (x ∷ xs) h = (h x (inl refl), all-from P xs (λ y is. h y (inr is)))

pub append-assoc : {A : Type 0} (xs ys zs : List A) → xs ++ (ys ++ zs) ≡ (xs ++ ys) ++ zs
append-assoc [] ys zs = refl
append-assoc (x ∷ xs) ys zs = ap (λ l. x ∷ l) (append-assoc xs ys zs)

pub has-in-flat_map : {X Y : Type 0} (f : X → List Y) (xs : List X) (x : X) (y : Y) → Has xs x → Has (f x) y
    → Has (flat_map f xs) y
has-in-flat_map f [] x y h there = absurd h
has-in-flat_map f (z ∷ zs) x y (inl same) there =
    has-left (f z) (flat_map f zs) y (subst (λ w. Has (f w) y) (sym same) there)
has-in-flat_map f (z ∷ zs) x y (inr h) there = has-right (f z) (flat_map f zs) y (has-in-flat_map f zs x y h there)

pub has-kept : {X : Type 0} (p : X → Bool) (xs : List X) (x : X) → Has xs x → p x ≡ true → Has (filter p xs) x
has-kept p [] x h is = absurd h
has-kept p (y ∷ ys) x (inl same) is =
    subst (λ b. Has (cond b (y ∷ filter p ys) (filter p ys)) x) (sym (ap p same ∙ is)) (inl same)
has-kept p (y ∷ ys) x (inr h) is = grind (arith, common_steps, has-kept p ys x h is)

pub none-any : {X : Type 0} (p : X → Bool) (xs : List X) → is_none (find p xs) ≡ true → list_any p xs ≡ false
none-any p [] none = refl
none-any p (x ∷ xs) none =
    (elim (p x) as (λ b. is_none (if b then Some x else find p xs) ≡ true → (b || list_any p xs) ≡ false) [
      | true ↦ λ wrong. absurd (false≢true wrong)
      | false ↦ λ rest. none-any p xs rest
    ]) none

-- what is found is in the list, and passes
pub find-has : {A : Type 0} (p : A → Bool) (xs : List A) (x : A) → find p xs ≡ Some x → Has xs x × (p x ≡ true)
find-has p [] x found = absurd (none_some x found)
find-has p (y ∷ ys) x found =
    (elim (p y) as (λ b. p y ≡ b → (if b then Some y else find p ys) ≡ Some x → Has (y ∷ ys) x × (p x ≡ true)) [
      | true ↦ λ passes same. (inl (some_same y x same), subst (λ z. p z ≡ true) (some_same y x same) passes)
      | false ↦ λ other later. let r = find-has p ys x later in (inr r.0, r.1)
    ]) refl found

-- ---- exits

pub exit-named : (c e : ℕ) (x : Exit) → is_exit c e x ≡ true → (x.coin ≡ c) × (x.block ≡ e)
exit-named c e x is =
    let parts = and_parts (x.coin == c) (x.block == e) is in
    (eqb-true x.coin c parts.0, eqb-true x.block e parts.1)

pub found-has : (log : List RootCall) (c e : ℕ) (x : Exit) → exit_at log c e ≡ Some x
    → Has (exits log) x × (x.coin ≡ c) × (x.block ≡ e)
unfolding exit_at
found-has log c e x found =
    let r = find-has (is_exit c e) (exits log) x found in
    let name = exit-named c e x r.1 in (r.0, name.0, name.1)

-- the one exit of a name, which is the one that is found, is changed
pub all-changed : (P : Exit → Type 0) (log : List RootCall) (c e : ℕ) (change : Exit → Exit)
    → ((x : Exit) → exit_at log c e ≡ Some x → P x → P (change x)) → AllByRecursion P (exits log)
    → AllByRecursion P (with_exit_changed c e change (exits log))
unfolding exit_at
all-changed P log c e change keeps all =
    each (exits log)
    (λ x h named. keeps x (only-found (is_exit c e) (exits log) x (exits-distinct log c e) h named)) all
  where
    each : (xs : List Exit) → ((x : Exit) → Has xs x → is_exit c e x ≡ true → P x → P (change x))
        → AllByRecursion P xs → AllByRecursion P (with_exit_changed c e change xs)
    each [] f h = tt
    each (x ∷ xs) f h = (
      grind (arith),
      each xs (λ y there. f y (inr there)) h.1,
    )

-- ---- challenges

pub challenge-has : (block : ℕ) (xs : List Challenge) (ch : Challenge) → challenge_at block xs ≡ Some ch
    → Has xs ch × (ch.block ≡ block)
challenge-has block xs ch found =
    let r = find-has (λ (x : Challenge). x.block == block) xs ch found in (r.0, eqb-true ch.block block r.1)

-- the answered challenges are at that block
pub all-answered : (P : Challenge → Type 0) (block : ℕ) (xs : List Challenge)
    → ((ch : Challenge) → ch.block ≡ block → P ch → P (record ch { answered = true })) → AllByRecursion P xs
    → AllByRecursion P (map (with_answer_at block) xs)
all-answered P block [] keeps h = tt
all-answered P block (x ∷ xs) keeps h = grind (arith, common_steps, all-answered P block xs keeps h.1, eqb-true)

-- where each is answered, all are
pub all_answered-from : (xs : List Challenge) → AllByRecursion (λ ch. ch.answered ≡ true) xs
    → list_all (λ ch. ch.answered) xs ≡ true
all_answered-from [] h = refl
all_answered-from (ch ∷ chs) h = and_from _ _ h.0 (all_answered-from chs h.1)

-- what holds of all holds of each
pub passes-has : {A : Type 0} (p : A → Bool) (xs : List A) (x : A) → list_all p xs ≡ true → Has xs x → p x ≡ true
passes-has p [] x all h = absurd h
passes-has p (y ∷ ys) x all (inl is) = ap p (sym is) ∙ (and_parts (p y) (list_all p ys) all).0
passes-has p (y ∷ ys) x all (inr h) = passes-has p ys x (and_parts (p y) (list_all p ys) all).1 h

-- one of two tests passes somewhere
pub any-either : {A : Type 0} (p q : A → Bool) (xs : List A) → list_any (λ x. p x || q x) xs ≡ true
    → (list_any p xs ≡ true) ⊎ (list_any q xs ≡ true)
any-either p q xs is = grind (arith, common_steps, any-some, or_cases, any-has)

pub got-has : {A : Type 0} (xs : List A) (i : ℕ) (x : A) → slice_get xs i ≡ Some x → Has xs x
got-has [] i x is = absurd (none_some x is)
got-has (y ∷ ys) zero x is = inl (some_same y x is)
got-has (y ∷ ys) (suc i) x is = inr (got-has ys i x is)
