-- The standing exits are in the order of their starts, and their challenges in the order of the Befores.
use Rattle.plasma_tx.proofs.Words.{◌≡◌, ℕ, zero, suc, ◌<◌, ◌≤◌, ◌==◌, ◌&&◌, not, Bool, true, false, if◌then◌else◌, List, [], ◌∷◌, ◌++◌, map, length, get_or, Option, Some, None, refl, sym, ap, ◌∙◌, subst, find, filter, arith, is_some, option_map, AllByRecursion, AllPairs, eq-eqb, common_steps, RootCall, StartDeposit, StartSpend, After, Between, Before, Respond, Finish, Challenge, Exit, is_exit, without_exit, with_exit_changed, challenge_at, deposit_exit, spend_exit, with_challenge, with_answer, with_answer_at, new_challenge, exits, exit_at, start_place, before_place, first_before, was_responded, with_answered, ExitsAreInOrder, ChallengesAreInOrder}
use Rattle.plasma_tx.proofs.Names.{eqb-flip, find-without, find-started, find-changed, some_same}
use Rattle.plasma_tx.proofs.Challenged.{challenges_are}
use Rattle.plasma_tx.proofs.Stands.{same-challenged}

-- the places rise along a list, and all are below a bound
abbrev pub Rising : {X : Type 0} → (X → ℕ) → ℕ → List X → Type 0
Rising place top [] = Unit {0}
Rising place top (x ∷ xs) = (place x < top) × AllByRecursion (λ y. place x < place y) xs × Rising place top xs

module _ {X : Type 0} where
  all-above : (f g : X → ℕ) (x : X) (xs : List X) → g x ≡ f x → AllByRecursion (λ y. g y ≡ f y) xs
      → AllByRecursion (λ y. f x < f y) xs → AllByRecursion (λ y. g x < g y) xs
  all-above f g x [] same all above = tt
  all-above f g x (y ∷ ys) same all above = (omega (arith, same, all.0, above.0), all-above f g x ys same all.1 above.1)

  -- the same places, and a higher bound
  rising-same : (f g : X → ℕ) (top more : ℕ) → top ≤ more → (xs : List X) → AllByRecursion (λ y. g y ≡ f y) xs
      → Rising f top xs → Rising g more xs
  rising-same f g top more le [] all h = tt
  rising-same f g top more le (x ∷ xs) all h =
      (omega (arith, all.0, h.0), all-above f g x xs all.0 all.1 h.1, rising-same f g top more le xs all.1 h.2)

  all-same : (f : X → ℕ) (xs : List X) → AllByRecursion (λ y. f y ≡ f y) xs
  all-same f [] = tt
  all-same f (x ∷ xs) = (refl, all-same f xs)

  all-filter : (P : X → Type 0) (p : X → Bool) (xs : List X) → AllByRecursion P xs → AllByRecursion P (filter p xs)
  all-filter P p [] h = tt
  all-filter P p (x ∷ xs) h = grind (arith, common_steps, all-filter P p xs h.1) steps 20000

  rising-filter : (f : X → ℕ) (top : ℕ) (p : X → Bool) (xs : List X) → Rising f top xs → Rising f top (filter p xs)
  rising-filter f top p [] h = tt
  rising-filter f top p (x ∷ xs) h = grind (arith, common_steps, rising-filter f top p xs h.2, all-filter) steps 20000

  all-map : (f : X → ℕ) (n : ℕ) (h : X → X) → ((x : X) → f (h x) ≡ f x) → (xs : List X)
      → AllByRecursion (λ y. n < f y) xs → AllByRecursion (λ y. n < f y) (map h xs)
  all-map f n h same [] all = tt
  all-map f n h same (x ∷ xs) all = (omega (arith, same x, all.0), all-map f n h same xs all.1)

  rising-map : (f : X → ℕ) (top : ℕ) (h : X → X) → ((x : X) → f (h x) ≡ f x) → (xs : List X) → Rising f top xs
      → Rising f top (map h xs)
  rising-map f top h same [] all = tt
  rising-map f top h same (x ∷ xs) all = (
    omega (arith, same x, all.0),
    subst (λ n. AllByRecursion (λ y. n < f y) (map h xs)) (sym (same x))
        (all-map f (f x) h same xs all.1),
    rising-map f top h same xs all.2,
  )

  all-push : (P : X → Type 0) (xs : List X) (x : X) → AllByRecursion P xs → P x → AllByRecursion P (xs ++ x ∷ [])
  all-push P [] x h p = (p, tt)
  all-push P (y ∷ ys) x h p = (h.0, all-push P ys x h.1 p)

  rising-push : (f : X → ℕ) (top more : ℕ) → top < more → (xs : List X) (new : X) → f new ≡ top → Rising f top xs
      → Rising f more (xs ++ new ∷ [])
  rising-push f top more lt [] new is h = (omega arith, tt, tt)
  rising-push f top more lt (x ∷ xs) new is h =
      grind (arith, common_steps, rising-push f top more lt xs new is h.2, all-push, more) steps 20000

  all-at : (P : X → Type 0) (xs : List X) → AllByRecursion P xs → (k : ℕ) (d : X) → k < length xs → P (get_or xs k d)
  all-at P [] h k d lt = absurd (omega arith)
  all-at P (x ∷ xs) h zero d lt = h.0
  all-at P (x ∷ xs) h (suc k) d lt = all-at P xs h.1 k d (omega arith)

  rising-pairs : (f : X → ℕ) (top : ℕ) (xs : List X) → Rising f top xs → AllPairs (λ x y. f x < f y) xs
  rising-pairs f top [] h i j d lt long = absurd (omega arith)
  rising-pairs f top (x ∷ xs) h i zero d lt long = absurd (omega arith)
  rising-pairs f top (x ∷ xs) h zero (suc j) d lt long = all-at (λ y. f x < f y) xs h.1 j d (omega arith)
  rising-pairs f top (x ∷ xs) h (suc i) (suc j) d lt long = rising-pairs f top xs h.2 i j d (omega arith) (omega arith)

-- ---- exits

-- where the exit was started
abbrev place_in : List RootCall → Exit → ℕ
place_in log exit = start_place log exit.coin exit.block

-- the exits of other names keep their places where one starts
other_places : (k m top : ℕ) (f : Exit → ℕ) (exits : List Exit)
    → AllByRecursion (λ x. (if (k == x.coin) && (m == x.block) then top else f x) ≡ f x) (without_exit k m exits)
other_places k m top f [] = tt
other_places k m top f (x ∷ xs) = grind (arith, common_steps, other_places k m top f xs, eqb-flip) steps 20000

rising-started : (k m top more : ℕ) (f : Exit → ℕ) (exits : List Exit) (new : Exit) → top < more → new.coin ≡ k
    → new.block ≡ m → Rising f top exits
    → Rising (λ x. if (k == x.coin) && (m == x.block) then top else f x) more (without_exit k m exits ++ new ∷ [])
rising-started k m top more f exits new lt coin block h =
    let g = λ (x : Exit). if (k == x.coin) && (m == x.block) then top else f x in
    rising-push g top more lt (without_exit k m exits) new
    (simp (eq-eqb k new.coin (sym coin), eq-eqb m new.block (sym block)))
    (rising-same f g top top (omega arith) (without_exit k m exits) (other_places k m top f exits)
    (rising-filter f top (λ x. not (is_exit k m x)) exits h))

rising-more : (f : Exit → ℕ) (top more : ℕ) → top ≤ more → (exits : List Exit) → Rising f top exits
    → Rising f more exits
rising-more f top more le exits h = rising-same f f top more le exits (all-same f exits) h

-- a change that keeps names keeps places
rising-changed : (log : List RootCall) (k m top : ℕ) (change : Exit → Exit) → ((x : Exit) → (change x).coin ≡ x.coin)
    → ((x : Exit) → (change x).block ≡ x.block)
    → (exits : List Exit) → Rising (place_in log) top exits → Rising (place_in log) top
    (with_exit_changed k m change exits)
rising-changed log k m top change coin block exits h = grind (arith, common_steps, rising-map) steps 20000

rise : (log : List RootCall) → Rising (place_in log) (length log) (exits log)
unfolding exits start_place
rise [] = tt
rise (StartDeposit account k m ∷ log) = rising-started k m (length log) (suc (length log)) (place_in log) (exits log)
    (deposit_exit log account k m) (omega arith) refl refl (rise log)
rise (StartSpend account k parent exit ∷ log) = rising-started k exit.block (length log) (suc (length log))
    (place_in log) (exits log) (spend_exit log account k parent exit) (omega arith) refl refl (rise log)
rise (After account k m spend ∷ log) = rising-more (place_in log) (length log) (suc (length log)) (omega arith)
    (without_exit k m (exits log))
    (rising-filter (place_in log) (length log) (λ x. not (is_exit k m x)) (exits log) (rise log))
rise (Between account k m spend ∷ log) = rising-more (place_in log) (length log) (suc (length log)) (omega arith)
    (without_exit k m (exits log))
    (rising-filter (place_in log) (length log) (λ x. not (is_exit k m x)) (exits log) (rise log))
rise (Finish account k m ∷ log) = rising-more (place_in log) (length log) (suc (length log)) (omega arith)
    (without_exit k m (exits log))
    (rising-filter (place_in log) (length log) (λ x. not (is_exit k m x)) (exits log) (rise log))
rise (Before account k m shown ∷ log) =
    let new = new_challenge log account k m shown in
    rising-changed log k m (suc (length log)) (with_challenge new)
    (λ x. ap (λ (y : Exit). y.coin) (same-challenged new x))
    (λ x. ap (λ (y : Exit). y.block) (same-challenged new x)) (exits log)
    (rising-more (place_in log) (length log) (suc (length log)) (omega arith) (exits log) (rise log))
rise (Respond account k m challenged spend ∷ log) =
    grind (arith, common_steps, rise log, rising-changed, challenged, rising-more) steps 20000
rise (call ∷ log) = rising-more (place_in log) (length log) (suc (length log)) (omega arith)
    (exits log) (rise log)

pub exits_are_in_order : ExitsAreInOrder
exits_are_in_order log = rising-pairs (place_in log) (length log) (exits log) (rise log)

-- ---- challenges

-- what holds of each block that is found holds of each challenge
each-found : (P : ℕ → Type 0) (xs : List Challenge) → ((b : ℕ) → is_some (challenge_at b xs) ≡ true → P b)
    → AllByRecursion (λ x. P x.block) xs
each-found P [] h = tt
each-found P (x ∷ xs) h =
    (h x.block (simp (eq-eqb x.block x.block refl)), each-found P xs (λ b found. h b (later b found)))
  where
    later : (b : ℕ) → is_some (challenge_at b xs) ≡ true
        → is_some (if x.block == b then Some x else challenge_at b xs) ≡ true
    later b found = grind (arith, common_steps) steps 20000

module _ (c e : ℕ) where
  -- where the challenge was made
  abbrev made_in : List RootCall → Challenge → ℕ
  made_in log challenge = before_place log c e challenge.block

  -- and after one more call
  abbrev made_before : List RootCall → Challenge → ℕ
  made_before log challenge = if is_some
      (first_before log c e challenge.block) then before_place log c e challenge.block else length log

  abbrev Rises : (Challenge → ℕ) → ℕ → Option Exit → Type 0
  Rises place top found = (exit : Exit) → found ≡ Some exit → Rising place top exit.challenges

  is_first : (log : List RootCall) (exit : Exit) → find (is_exit c e) (exits log) ≡ Some exit → (b : ℕ)
      → is_some (first_before log c e b) ≡ is_some (challenge_at b exit.challenges)
  is_first log exit is b = sym (ap is_some (challenges_are log c e b exit is) ∙ mapped (first_before log c e b))
    where
      mapped : (o : Option Challenge) → is_some (option_map (with_answered (was_responded log c e b)) o) ≡ is_some o
      mapped None = refl
      mapped (Some x) = refl

  -- any further call keeps the places
  later : (log : List RootCall) → Rises (made_in log) (length log) (find (is_exit c e) (exits log))
      → Rises (made_before log) (length log) (find (is_exit c e) (exits log))
  later log h exit is =
      rising-same (made_in log) (made_before log) (length log) (length log) (omega arith) exit.challenges
      (each-found (λ b. (if is_some (first_before log c e b) then before_place log c e b else length log)
      ≡ before_place log c e b) exit.challenges
      (λ b found. ap (λ (t : Bool). if t then before_place log c e b else length log) (is_first log exit is b ∙ found)))
      (h exit is)

  more : (place : Challenge → ℕ) (top : ℕ) (found : Option Exit) → Rises place top found → Rises place (suc top) found
  more place top found h exit is = rising-same place place top (suc top) (omega arith) exit.challenges
      (all-same place exit.challenges) (h exit is)

  started : (t : Bool) (place : Challenge → ℕ) (top : ℕ) (new : Exit) (found : Option Exit) → new.challenges ≡ []
      → Rises place top found
      → Rises (λ x. if t then 0 else place x) top (if t then Some new else found)
  started t place top new found bare h exit is = grind (arith, common_steps, some_same) steps 20000

  ended : (t : Bool) (place : Challenge → ℕ) (top : ℕ) (found : Option Exit) → Rises place top found
      → Rises place top (if t then None else found)
  ended t place top found h exit is = grind (arith, common_steps) steps 20000

  challenged : (t : Bool) (place : Challenge → ℕ) (top : ℕ) (new : Challenge) (found : Option Exit)
      → ((x : Exit) → found ≡ Some x → is_some (challenge_at new.block x.challenges) ≡ false → place new ≡ top)
      → Rises place top found
      → Rises place (suc top) (if t then option_map (with_challenge new) found else found)
  challenged true place top new None first h exit is = absurd (cc is)
  challenged true place top new (Some x) first h exit is =
      subst (λ (y : Exit). Rising place (suc top) y.challenges) (some_same (with_challenge new x) exit is)
      ((elim (is_some (challenge_at new.block x.challenges)) as (λ b. is_some (challenge_at new.block x.challenges)
      ≡ b → Rising place (suc top)
      (if b then x else record x { challenges = x.challenges ++ new ∷ [] }).challenges) [
        | true ↦ λ there. more place top (Some x) h x refl
        | false ↦ λ none. rising-push place top (suc top) (omega arith) x.challenges new (first x refl none) (h x refl)
      ]) refl)
  challenged false place top new found first h exit is = more place top found h exit is

  answered : (t : Bool) (log : List RootCall) (top n : ℕ) (found : Option Exit) → Rises (made_before log) top found
      → Rises (made_before log) top (if t then option_map (with_answer n) found else found)
  answered true log top n None h exit is = absurd (cc is)
  answered true log top n (Some x) h exit is =
      subst (λ (y : Exit). Rising (made_before log) top y.challenges) (some_same (with_answer n x) exit is)
      (rising-map (made_before log) top (with_answer_at n) same x.challenges (h x refl))
    where
      same : (y : Challenge) → made_before log (with_answer_at n y) ≡ made_before log y
      same y = elim (y.block == n) as (λ b. made_before log (if b then record y { answered = true } else y)
          ≡ made_before log y) [ true ↦ refl | false ↦ refl ]
  answered false log top n found h exit is = h exit is

  rises : (log : List RootCall) → Rises (made_in log) (length log) (find (is_exit c e) (exits log))
  unfolding exits before_place
  rises [] = λ exit is. absurd (cc is)
  rises (StartDeposit account k m ∷ log) =
      let new : Exit = deposit_exit log account k m in
      subst (Rises (λ x. if (k == c) && (m == e) then 0 else made_before log x) (suc (length log)))
      (sym (find-started c e new (exits log)))
      (started ((k == c) && (m == e)) (made_before log) (suc (length log)) new (find (is_exit c e) (exits log)) refl
      (more (made_before log) (length log) _ (later log (rises log))))
  rises (StartSpend account k parent exit ∷ log) =
      let new : Exit = spend_exit log account k parent exit in
      subst (Rises (λ x. if (k == c) && (exit.block == e) then 0 else made_before log x) (suc (length log)))
      (sym (find-started c e new (exits log)))
      (started ((k == c) && (exit.block == e)) (made_before log) (suc (length log)) new
      (find (is_exit c e) (exits log)) refl (more (made_before log) (length log) _ (later log (rises log))))
  rises (After account k m spend ∷ log) =
      subst (Rises (made_before log) (suc (length log))) (sym (find-without c e k m (exits log)))
      (ended ((k == c) && (m == e)) (made_before log) (suc (length log)) (find (is_exit c e) (exits log))
      (more (made_before log) (length log) _ (later log (rises log))))
  rises (Between account k m spend ∷ log) =
      subst (Rises (made_before log) (suc (length log))) (sym (find-without c e k m (exits log)))
      (ended ((k == c) && (m == e)) (made_before log) (suc (length log)) (find (is_exit c e) (exits log))
      (more (made_before log) (length log) _ (later log (rises log))))
  rises (Finish account k m ∷ log) =
      subst (Rises (made_before log) (suc (length log))) (sym (find-without c e k m (exits log)))
      (ended ((k == c) && (m == e)) (made_before log) (suc (length log)) (find (is_exit c e) (exits log))
      (more (made_before log) (length log) _ (later log (rises log))))
  rises (Before account k m shown ∷ log) =
      let new = new_challenge log account k m shown in
      let first : (x : Exit) → find (is_exit c e) (exits log) ≡ Some x
      → is_some (challenge_at new.block x.challenges) ≡ false → made_before log new ≡ length log =
      grind (arith, common_steps, is_first) steps 20000 in
      subst (Rises (made_before log) (suc (length log)))
      (sym (find-changed c e k m (with_challenge new) (λ x. ap (λ (y : Exit). y.coin) (same-challenged new x))
      (λ x. ap (λ (y : Exit). y.block) (same-challenged new x)) (exits log)))
      (challenged ((k == c) && (m == e)) (made_before log) (length log) new (find (is_exit c e) (exits log)) first
      (later log (rises log)))
  rises (Respond account k m n spend ∷ log) =
      subst (Rises (made_before log) (suc (length log)))
      (sym (find-changed c e k m (with_answer n) (λ x. refl) (λ x. refl) (exits log)))
      (answered ((k == c) && (m == e)) log (suc (length log)) n (find (is_exit c e) (exits log))
      (more (made_before log) (length log) _ (later log (rises log))))
  rises (call ∷ log) = more (made_before log) (length log) _ (later log (rises log))

pub challenges_are_in_order : ChallengesAreInOrder
unfolding exit_at
challenges_are_in_order log c e exit is = rising-pairs (λ (x : Challenge). before_place log c e x.block)
    (length log) exit.challenges (rises c e log exit is)
