-- Lists of exits and responses: finding one by its name, adding one, taking one out, changing one.
use Rattle.plasma_tx.proofs.Words.{◌≡◌, ℕ, ◌==◌, ◌&&◌, ◌||◌, not, Bool, true, false, if◌then◌else◌, List, [], ◌∷◌, ◌++◌, map, Option, Some, None, refl, sym, ap, ◌∙◌, subst, find, filter, arith, list_any, option_map, option_or, cases_eq, eqb-true, eq-eqb, ne_eqb, and_parts, false_from_ne_true, true≢false, find-append, list_any-append, common_steps, Response, Exit, Challenge, is_exit, without_exit, with_exit_changed, challenge_at, with_answer_at, is_response_to, without_responses, is_responded}

pub some_same : {A : Type 0} (x y : A) → Some x ≡ Some y → x ≡ y
some_same x y e = cc

pub eqb-flip : (x y : ℕ) → (x == y) ≡ (y == x)
eqb-flip x y = grind (arith, common_steps, cases_eq, eq-eqb, ne_eqb) steps 20000

-- two names that one thing has are one name
both : (a b c e k m : ℕ) → ((a == c) && (b == e)) ≡ true → ((a == k) && (b == m)) ≡ true → ((k == c) && (m == e)) ≡ true
both a b c e k m h j = grind (arith, common_steps, and_parts, eq-eqb, eqb-true) steps 20000

-- a thing of one of two names that are one has the other
other_name : (a b c e k m : ℕ) → ((k == c) && (m == e)) ≡ true → ((a == c) && (b == e)) ≡ ((a == k) && (b == m))
other_name a b c e k m is = grind (arith, common_steps, and_parts, eqb-true) steps 20000

pub option_or-none : {X : Type 0} (o : Option X) → option_or o None ≡ o
option_or-none o = grind (arith, common_steps) steps 20000

-- ---- filters of things with names

-- what has a name passes where what has another name was taken out
find-other : {X : Type 0} (p q : X → Bool) (t : Bool) → ((x : X) → p x ≡ true → q x ≡ true → t ≡ true)
    → (t ≡ true → (x : X) → p x ≡ q x)
    → (xs : List X) → find p (filter (λ x. not (q x)) xs) ≡ (if t then None else find p xs)
find-other {X} p q t meet same [] = grind (arith, common_steps) steps 20000
find-other {X} p q t meet same (x ∷ xs) =
    grind (arith, common_steps, find-other p q t meet same xs, false_from_ne_true, true≢false) steps 20000

any-other : {X : Type 0} (p q : X → Bool) (t : Bool) → ((x : X) → p x ≡ true → q x ≡ true → t ≡ true)
    → (t ≡ true → (x : X) → p x ≡ true → q x ≡ true)
    → (xs : List X) → list_any p (filter (λ x. not (q x)) xs) ≡ (if t then false else list_any p xs)
any-other p q t meet same [] = elim t as (λ b. false ≡ (if b then false else false)) [ true ↦ refl | false ↦ refl ]
any-other p q t meet same (x ∷ xs) =
    grind (arith, common_steps, any-other p q t meet same xs, false_from_ne_true, true≢false) steps 20000

-- ---- exits

-- taking out the exit of a name
pub find-without : (c e k m : ℕ) (exits : List Exit) → find (is_exit c e) (without_exit k m exits)
    ≡ (if (k == c) && (m == e) then None else find (is_exit c e) exits)
find-without c e k m exits =
    find-other (is_exit c e) (is_exit k m) ((k == c) && (m == e)) (λ x h j. both x.coin x.block c e k m h j)
    (λ is x. other_name x.coin x.block c e k m is) exits

-- adding an exit in place of that of its name
pub find-started : (c e : ℕ) (new : Exit) (exits : List Exit)
    → find (is_exit c e) (without_exit new.coin new.block exits ++ new ∷ [])
    ≡ (if (new.coin == c) && (new.block == e) then Some new else find (is_exit c e) exits)
find-started c e new exits = grind (arith, common_steps, find-append, find-without, option_or-none) steps 20000

-- changing the exit of a name, which keeps its name
pub find-changed : (c e k m : ℕ) (change : Exit → Exit) → ((x : Exit) → (change x).coin ≡ x.coin)
    → ((x : Exit) → (change x).block ≡ x.block) → (exits : List Exit)
    → find (is_exit c e) (with_exit_changed k m change exits)
    ≡ (if (k == c) && (m == e) then option_map change (find (is_exit c e) exits) else find (is_exit c e) exits)
find-changed c e k m change coin block [] = grind (arith, common_steps) steps 20000
find-changed c e k m change coin block (x ∷ xs) =
    let rest = find-changed c e k m change coin block xs in
    (elim (is_exit k m x) as (λ b. is_exit k m x ≡ b
    → find (is_exit c e) ((if b then change x else x) ∷ with_exit_changed k m change xs)
    ≡ (if (k == c) && (m == e) then option_map change
    (if is_exit c e x then Some x else find (is_exit c e) xs) else (if is_exit c e x then Some x else find
    (is_exit c e) xs))) [
      | true ↦ λ named.
          ap (λ (b : Bool). if b then Some (change x) else find (is_exit c e) (with_exit_changed k m change xs))
          (λ i. (coin x i == c) && (block x i == e))
          ∙ (elim (is_exit c e x) as (λ b. is_exit c e x ≡ b
          → (if b then Some (change x) else find (is_exit c e) (with_exit_changed k m change xs))
          ≡ (if (k == c) && (m == e) then option_map change
          (if b then Some x else find (is_exit c e) xs) else (if b then Some x else find (is_exit c e) xs))) [
            | true ↦ grind (arith, common_steps, both) steps 20000
            | false ↦ λ other. rest
          ]) refl
      | false ↦ grind (arith, common_steps, true≢false, other_name) steps 20000
    ]) refl

-- ---- responses

pub responded-without : (c e b k m : ℕ) (responses : List Response)
    → is_responded c e b (without_responses k m responses)
    ≡ (if (k == c) && (m == e) then false else is_responded c e b responses)
responded-without c e b k m responses =
    any-other (λ r. is_response_to c e r && (r.block == b)) (is_response_to k m) ((k == c) && (m == e))
    (λ r h j. both r.coin r.exit c e k m (and_parts (is_response_to c e r) (r.block == b) h).0 j)
    (λ is r h. sym (other_name r.coin r.exit c e k m is) ∙ (and_parts (is_response_to c e r) (r.block == b) h).0)
    responses

pub responded-push : (c e b k m n : ℕ) (responses : List Response)
    → is_responded c e b (responses ++ record { coin = k; exit = m; block = n } ∷ [])
    ≡ (((k == c) && (m == e) && (n == b)) || is_responded c e b responses)
responded-push c e b k m n responses = grind (arith, common_steps, list_any-append) steps 20000

-- ---- challenges

-- the challenge that is found is at the block
pub challenge-at : (b : ℕ) (challenges : List Challenge) (x : Challenge) → challenge_at b challenges ≡ Some x
    → (x.block == b) ≡ true
challenge-at b [] x is = absurd (cc is)
challenge-at b (y ∷ ys) x is =
    (elim (y.block == b) as (λ t. (y.block == b) ≡ t → (if t then Some y else challenge_at b ys) ≡ Some x
    → (x.block == b) ≡ true) [
      | true ↦ λ at same. subst (λ (z : Challenge). (z.block == b) ≡ true) (some_same y x same) at
      | false ↦ λ apart later. challenge-at b ys x later
    ]) refl is

pub challenge_at-push : (b : ℕ) (challenges : List Challenge) (new : Challenge)
    → challenge_at b (challenges ++ new ∷ []) ≡ option_or (challenge_at b challenges)
    (if new.block == b then Some new else None)
challenge_at-push b challenges new = find-append (λ (x : Challenge). x.block == b) challenges (new ∷ [])

pub challenge_at-answered : (b n : ℕ) (challenges : List Challenge)
    → challenge_at b (map (with_answer_at n) challenges) ≡ option_map (with_answer_at n) (challenge_at b challenges)
challenge_at-answered b n [] = refl
challenge_at-answered b n (x ∷ xs) = grind (arith, common_steps, challenge_at-answered b n xs) steps 20000
