-- How many leaves sign a coin away, after one is bound and after one is taken back.
use Rattle.std.proofs.Common.{◌≡◌, zero, ℕ, ◌+◌, ◌≤◌, ◌==◌, ◌&&◌, not, Bool, true, false, if◌then◌else◌, List, [], ◌∷◌, ◌++◌, length, suc, map, reverse, slice_get, Option, Some, None, refl, arith}
use Rattle.std.specs.Prelude.{option_map}
use Rattle.std.proofs.lemmas.Bool.{eq-eqb, ne_eqb, cases_eq}
use Rattle.std.proofs.lemmas.List.{reverse-append, length-reverse, length-map}
use Rattle.std.proofs.lemmas.Grind.{common_steps}
use Rattle.plasma_tx.specs.declared.body.Body.{Body}
use Rattle.world_rules.specs.Events.{leaf_at, is_taken, not_taken, is_sent_from}
use Rattle.coin_verdicts.proofs.Views.{leaf_of}

-- the body names the coin with that parent
abbrev pub is_body : ℕ → ℕ → Body → Bool
is_body c e body = (body.coin == c) && (body.parent == e)

abbrev pub one_if : Bool → ℕ
one_if true = 1
one_if false = 0

-- how many of the bodies pass
abbrev pub count_of : (Body → Bool) → List Body → ℕ
count_of p [] = 0
count_of p (body ∷ bodies) = one_if (p body) + count_of p bodies

-- how many of the bodies that pass a leaf's taking back drops
abbrev pub gone_of : (Body → Bool) → Option Body → ℕ
gone_of p None = 0
gone_of p (Some body) = one_if (p body)

abbrev pub gone : (Body → Bool) → Bool → Option Body → ℕ
gone p true found = 0
gone p false found = gone_of p found

pub past-none : (q : ℕ) (bodies : List Body) → length bodies ≤ q → leaf_at q bodies ≡ None
unfolding leaf_at
past-none q [] past = refl
past-none q (body ∷ bodies) past =
    let more : length bodies ≤ q = omega arith in
    grind (arith, common_steps, past-none q bodies more, ne_eqb) steps 20000

count-if : (p : Body → Bool) (b : Bool) (body : Body) (bodies : List Body)
    → count_of p (if b then bodies else body ∷ bodies) ≡ (if b then 0 else one_if (p body)) + count_of p bodies
count-if p true body bodies = omega arith
count-if p false body bodies = refl

-- taking a leaf back drops its body, where it wasn't taken back before
pub taken-count : (p : Body → Bool) (taken : List ℕ) (q : ℕ) (bodies : List Body)
    → count_of p (not_taken taken bodies)
    ≡ count_of p (not_taken (q ∷ taken) bodies) + gone p (is_taken taken q) (leaf_at q bodies)
unfolding not_taken leaf_at
taken-count p taken q [] = grind (arith, common_steps) steps 20000
taken-count p taken q (body ∷ bodies) =
    grind (arith, common_steps, taken-count p taken q bodies, count-if, cases_eq, eq-eqb, past-none, ne_eqb) steps 20000

-- ---- leaves by their numbers

suc-eqb : (m n : ℕ) → (suc m == suc n) ≡ (m == n)
suc-eqb m n = grind arith

get-last : {X : Type 0} (xs : List X) (x : X) (q : ℕ)
    → slice_get (xs ++ x ∷ []) q ≡ (if q == length xs then Some x else slice_get xs q)
get-last [] x zero = refl
get-last [] x (suc q) = rw (ne_eqb (suc q) 0 (λ same. omega arith)) refl
get-last (y ∷ ys) x zero = rw (ne_eqb 0 (suc (length ys)) (λ same. omega arith)) refl
get-last (y ∷ ys) x (suc q) = rw (suc-eqb q (length ys)) (get-last ys x q)

-- leaf q is what leaf q of the events binds
pub leaf-same : (q : ℕ) (bodies : List Body)
    → slice_get (reverse (map leaf_of bodies)) q ≡ option_map leaf_of (leaf_at q bodies)
unfolding leaf_at
leaf-same q [] = refl
leaf-same q (body ∷ bodies) =
    grind (
      arith,
      common_steps,
      leaf-same q bodies,
      reverse-append,
      leaf_of,
      get-last,
      length-reverse,
      length-map,
    ) steps 20000

-- a coin is sent from a block exactly where such a body is counted
pub sent-counted : (c e : ℕ) (bodies : List Body)
    → is_sent_from bodies c e ≡ not (count_of (is_body c e) bodies == 0)
sent-counted c e [] = refl
sent-counted c e (body ∷ bodies) = grind (arith, common_steps, sent-counted c e bodies, ne_eqb) steps 20000
