-- No two standing exits have one name, and no two challenges of an exit have one block, in any log.
use Rattle.plasma_tx.proofs.Words.{◌≡◌, ℕ, ◌+◌, ◌≤◌, ◌==◌, not, Bool, true, false, if◌then◌else◌, List, [], ◌∷◌, ◌++◌, map, Some, refl, ap, subst, find, filter, arith, is_some, AllByRecursion, eqb-true, and_parts, common_steps, RootCall, StartDeposit, StartSpend, After, Between, Before, Respond, Finish, Challenge, Exit, is_exit, without_exit, with_exit_changed, challenge_at, deposit_exit, spend_exit, with_challenge, with_answer, with_answer_at, new_challenge, exits, exit_at}
use Rattle.plasma_tx.proofs.Stands.{same-challenged}
use Rattle.plasma_tx.proofs.Each.{all-found, each-exit}

-- ---- how many of a list pass a test

abbrev pub one_if : Bool → ℕ
one_if passes = if passes then 1 else 0

module _ {X : Type 0} where
  unfoldable pub count : (X → Bool) → List X → ℕ
  count p [] = 0
  count p (x ∷ xs) = one_if (p x) + count p xs

  pub count-append : (p : X → Bool) (xs : List X) (x : X)
      → count p (xs ++ x ∷ []) ≡ count p xs + one_if (p x)
  unfolding count
  count-append p [] x = omega arith
  count-append p (y ∷ ys) x = omega (arith, count-append p ys x)

  pub count-filter : (p q : X → Bool) (xs : List X) → count p (filter q xs) ≤ count p xs
  unfolding count
  count-filter p q [] = omega arith
  count-filter p q (x ∷ xs) = grind (arith, common_steps, count-filter p q xs) steps 20000

  -- none passes where those that pass were taken out
  pub count-out : (p : X → Bool) (xs : List X) → count p (filter (λ x. not (p x)) xs) ≡ 0
  unfolding count
  count-out p [] = refl
  count-out p (x ∷ xs) = grind (arith, common_steps, count-out p xs) steps 20000

  pub count-map : (p : X → Bool) (change : X → X) → ((x : X) → p (change x) ≡ p x) → (xs : List X)
      → count p (map change xs) ≡ count p xs
  unfolding count
  count-map p change same [] = refl
  count-map p change same (x ∷ xs) = grind (arith, common_steps, count-map p change same xs) steps 20000

  -- where none is found, none passes
  pub count-none : (p : X → Bool) (xs : List X) → is_some (find p xs) ≡ false → count p xs ≡ 0
  unfolding count
  count-none p [] is = refl
  count-none p (x ∷ xs) is =
      (elim (p x) as (λ b. is_some (if b then Some x else find p xs) ≡ false
      → one_if b + count p xs ≡ 0) [
        | true ↦ λ wrong. absurd (cc)
        | false ↦ λ later. omega (arith, count-none p xs later)
      ]) is

  -- where none passes, taking out what passes, or changing it, leaves the list
  pub filter-none : (p : X → Bool) (xs : List X) → count p xs ≡ 0 → filter (λ x. not (p x)) xs ≡ xs
  unfolding count
  filter-none p [] none = refl
  filter-none p (x ∷ xs) none = grind (arith, common_steps, filter-none p xs (omega arith)) steps 20000

  pub map-none : (p : X → Bool) (change : X → X) (xs : List X) → count p xs ≡ 0
      → map (λ x. if p x then change x else x) xs ≡ xs
  unfolding count
  map-none p change [] none = refl
  map-none p change (x ∷ xs) none = grind (arith, common_steps, map-none p change xs (omega arith)) steps 20000

-- ---- names of exits

-- at most one exit has each name
abbrev pub AreDistinct : List Exit → Type 0
AreDistinct exits = (c e : ℕ) → count (is_exit c e) exits ≤ 1

distinct-filter : (p : Exit → Bool) (xs : List Exit) → AreDistinct xs → AreDistinct (filter p xs)
distinct-filter p xs distinct c e = omega (arith, distinct c e, count-filter (is_exit c e) p xs)

distinct-started : (new : Exit) (xs : List Exit) → AreDistinct xs
    → AreDistinct (without_exit new.coin new.block xs ++ new ∷ [])
distinct-started new xs distinct c e =
    let rest : List Exit = without_exit new.coin new.block xs in
    let added = count-append (is_exit c e) rest new in
    (elim (is_exit c e new) as (λ b. is_exit c e new ≡ b → count (is_exit c e) (rest ++ new ∷ []) ≤ 1) [
      | true ↦ λ named.
          let parts = and_parts (new.coin == c) (new.block == e) named in
          let none : count (is_exit c e) rest ≡ 0 = subst (λ (p : ℕ × ℕ). count (is_exit p.0 p.1) rest
          ≡ 0) (λ i. (eqb-true new.coin c parts.0 i, eqb-true new.block e parts.1 i))
          (count-out (is_exit new.coin new.block) xs) in
          grind (arith, common_steps) steps 20000
      | false ↦ grind (arith, common_steps, count-filter) steps 20000
    ]) refl

-- a change that keeps coin and block keeps names
distinct-changed : (k m : ℕ) (change : Exit → Exit) → ((x : Exit) → (change x).coin ≡ x.coin)
    → ((x : Exit) → (change x).block ≡ x.block) → (xs : List Exit) → AreDistinct xs
    → AreDistinct (with_exit_changed k m change xs)
distinct-changed k m change coin block xs distinct c e =
    omega (arith, distinct c e, count-map (is_exit c e) (λ x. if is_exit k m x then change x else x) same xs)
  where
    same : (x : Exit) → is_exit c e (if is_exit k m x then change x else x) ≡ is_exit c e x
    same x = grind (arith, common_steps) steps 20000

distinct-none : AreDistinct []
unfolding count
distinct-none c e = omega arith

pub exits-distinct : (log : List RootCall) → AreDistinct (exits log)
unfolding exits
exits-distinct [] = distinct-none
exits-distinct (StartDeposit account k m ∷ log) =
    distinct-started (deposit_exit log account k m) (exits log) (exits-distinct log)
exits-distinct (StartSpend account k parent exit ∷ log) =
    distinct-started (spend_exit log account k parent exit) (exits log) (exits-distinct log)
exits-distinct (After account k m spend ∷ log) =
    distinct-filter (λ x. not (is_exit k m x)) (exits log) (exits-distinct log)
exits-distinct (Between account k m spend ∷ log) =
    distinct-filter (λ x. not (is_exit k m x)) (exits log) (exits-distinct log)
exits-distinct (Finish account k m ∷ log) =
    distinct-filter (λ x. not (is_exit k m x)) (exits log) (exits-distinct log)
exits-distinct (Before account k m shown ∷ log) =
    let new : Challenge = new_challenge log account k m shown in
    distinct-changed k m (with_challenge new) (λ x. ap (λ (y : Exit). y.coin) (same-challenged new x))
    (λ x. ap (λ (y : Exit). y.block) (same-challenged new x)) (exits log) (exits-distinct log)
exits-distinct (Respond account k m challenged spend ∷ log) =
    distinct-changed k m (with_answer challenged) (λ x. refl) (λ x. refl) (exits log) (exits-distinct log)
exits-distinct (call ∷ log) = exits-distinct log

-- ---- blocks of challenges

-- the challenge is at the block
abbrev pub is_at : ℕ → Challenge → Bool
is_at block challenge = challenge.block == block

-- at most one challenge of the exit is at each block
abbrev pub IsChallengedOnce : Exit → Type 0
IsChallengedOnce x = (b : ℕ) → count (is_at b) x.challenges ≤ 1

once-none : (b : ℕ) → count (is_at b) [] ≤ 1
unfolding count
once-none b = omega arith

once-more : (new : Challenge) (challenges : List Challenge) → is_some (challenge_at new.block challenges) ≡ false
    → ((b : ℕ) → count (is_at b) challenges ≤ 1) → (b : ℕ) → count (is_at b) (challenges ++ new ∷ []) ≤ 1
once-more new challenges none old b = grind (arith, common_steps, count-append, eqb-true, count-none) steps 20000

once-answered : (n : ℕ) (challenges : List Challenge) → ((b : ℕ) → count (is_at b) challenges ≤ 1)
    → (b : ℕ) → count (is_at b) (map (with_answer_at n) challenges) ≤ 1
once-answered n challenges old b = grind (arith, common_steps, count-map) steps 20000

once : (log : List RootCall) → AllByRecursion IsChallengedOnce (exits log)
unfolding exits
once [] = tt
once (StartDeposit account c block ∷ log) =
    each-exit IsChallengedOnce log (StartDeposit account c block) once-none tt (once log)
once (StartSpend account c parent exit ∷ log) =
    each-exit IsChallengedOnce log (StartSpend account c parent exit) once-none tt (once log)
once (Before account c e shown ∷ log) =
    each-exit IsChallengedOnce log (Before account c e shown) tt
    (λ x none old. once-more (new_challenge log account c e shown) x.challenges none old) (once log)
once (Respond account c e challenged spend ∷ log) =
    each-exit IsChallengedOnce log (Respond account c e challenged spend) tt
    (λ x old. once-answered challenged x.challenges old) (once log)
once (call ∷ log) = each-exit IsChallengedOnce log call tt tt (once log)

-- a standing exit is challenged once at each block
pub challenged-once : (log : List RootCall) (c e : ℕ) (exit : Exit) → exit_at log c e ≡ Some exit
    → IsChallengedOnce exit
unfolding exit_at
challenged-once log c e exit stands = (all-found IsChallengedOnce (is_exit c e) (exits log) exit (once log) stands).0
