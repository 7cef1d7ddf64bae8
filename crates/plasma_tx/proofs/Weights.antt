-- Lists of movements, and of exits, weighed: the weight of a movement is its amount, or what an account has of it.
use Rattle.plasma_tx.proofs.Words.{◌≡◌, ℕ, ◌+◌, ◌*◌, ◌≤◌, ◌==◌, cond, not, Bool, true, false, if◌then◌else◌, List, [], ◌∷◌, ◌++◌, map, length, Option, Some, None, refl, ap, find, filter, arith, is_some, list_all, common_steps, EXIT_BOND, CHALLENGE_BOND, Movement, CoinView, Challenge, Exit, is_exit, without_exit, with_exit_changed, challenge_at, with_challenge, with_answer, with_answer_at, moved, challenge_bonds, exit_bonds, amount_of, amount_released, share_of, bonds}
use Rattle.plasma_tx.proofs.Each.{some_same}
use Rattle.plasma_tx.proofs.RuleNames.{count, filter-none, map-none, count-none, is_at}

-- the weight of a list of movements
abbrev pub weight_of : (Movement → ℕ) → List Movement → ℕ
weight_of w [] = 0
weight_of w (movement ∷ movements) = w movement + weight_of w movements

-- the weight by amounts, and by the account's part of them
abbrev pub by_amount : Movement → ℕ
by_amount movement = movement.amount

abbrev pub by_share : ℕ → Movement → ℕ
by_share account movement = if movement.account == account then movement.amount else 0

abbrev pub total : List Movement → ℕ
total movements = weight_of by_amount movements

pub share_of-is : (account : ℕ) (movements : List Movement)
    → share_of account movements ≡ weight_of (by_share account) movements
unfolding share_of
share_of-is account [] = refl
share_of-is account (movement ∷ movements) = omega (arith, share_of-is account movements)

module _ (w : Movement → ℕ) where
  pub weight_of-append : (xs ys : List Movement) → weight_of w (xs ++ ys) ≡ weight_of w xs + weight_of w ys
  weight_of-append [] ys = omega arith
  weight_of-append (x ∷ xs) ys = omega (arith, weight_of-append xs ys)

  -- ---- challenges

  -- the weight of the bond of a challenge that is open
  abbrev pub bond_weight : Challenge → ℕ
  bond_weight challenge = if challenge.answered then 0 else w (moved challenge.by CHALLENGE_BOND)

  unfoldable pub open_weight : List Challenge → ℕ
  open_weight [] = 0
  open_weight (challenge ∷ challenges) = bond_weight challenge + open_weight challenges

  open_weight-is : (challenges : List Challenge)
      → weight_of w (challenge_bonds (filter (λ challenge. not challenge.answered) challenges)) ≡ open_weight challenges
  unfolding open_weight
  open_weight-is [] = refl
  open_weight-is (y ∷ ys) = grind (arith, common_steps, open_weight-is ys) steps 20000

  open_weight-append : (challenges : List Challenge) (new : Challenge)
      → open_weight (challenges ++ new ∷ []) ≡ open_weight challenges + bond_weight new
  unfolding open_weight
  open_weight-append [] new = omega arith
  open_weight-append (y ∷ ys) new = omega (arith, open_weight-append ys new)

  bond_weight-open : (one : Challenge) → one.answered ≡ false → bond_weight one ≡ w (moved one.by CHALLENGE_BOND)
  bond_weight-open one is = ap (λ (b : Bool). if b then 0 else w (moved one.by CHALLENGE_BOND)) is

  -- one open challenge is answered
  open_weight-answered : (block : ℕ) (challenges : List Challenge) (one : Challenge)
      → count (is_at block) challenges ≤ 1 → challenge_at block challenges ≡ Some one → one.answered ≡ false
      → open_weight (map (with_answer_at block) challenges) + w (moved one.by CHALLENGE_BOND) ≡ open_weight challenges
  unfolding open_weight count
  open_weight-answered block [] one once there is = absurd (cc there)
  open_weight-answered block (y ∷ ys) one once there is =
      (elim (y.block == block) as (λ t. (if t then 1 else 0) + count (is_at block) ys ≤ 1
      → (if t then Some y else challenge_at block ys) ≡ Some one
      → bond_weight (if t then record y { answered = true } else y) + open_weight (map (with_answer_at block) ys)
      + w (moved one.by CHALLENGE_BOND) ≡ bond_weight y + open_weight ys) [
        | true ↦ λ few same.
            let rest : map (with_answer_at block) ys ≡ ys =
            map-none (is_at block) (λ (x : Challenge). record x { answered = true }) ys (omega arith) in
            grind (arith, common_steps, some_same, bond_weight-open) steps 20000
        | false ↦ λ few later. omega (arith, open_weight-answered block ys one (omega arith) later is)
      ]) once there

  -- ---- exits

  -- the weight of what is held for an exit
  abbrev pub exit_weight : Exit → ℕ
  exit_weight exit = w (moved exit.account EXIT_BOND) + open_weight exit.challenges

  pub exit_weight-is : (exit : Exit) → weight_of w (exit_bonds (Some exit)) ≡ exit_weight exit
  exit_weight-is exit = ap (λ n. w (moved exit.account EXIT_BOND) + n) (open_weight-is exit.challenges)

  pub exit_weight-new : (exit : Exit) → exit.challenges ≡ [] → exit_weight exit ≡ w (moved exit.account EXIT_BOND)
  unfolding open_weight
  exit_weight-new exit bare = omega (arith, ap (λ xs. open_weight xs) bare)

  pub exit_weight-challenged : (exit : Exit) (new : Challenge)
      → is_some (challenge_at new.block exit.challenges) ≡ false → new.answered ≡ false
      → exit_weight (with_challenge new exit) ≡ exit_weight exit + w (moved new.by CHALLENGE_BOND)
  exit_weight-challenged exit new none is =
      grind (arith, common_steps, open_weight-append, bond_weight-open) steps 20000

  pub exit_weight-answered : (exit : Exit) (block : ℕ) (one : Challenge) → count (is_at block) exit.challenges ≤ 1
      → challenge_at block exit.challenges ≡ Some one → one.answered ≡ false
      → exit_weight (with_answer block exit) + w (moved one.by CHALLENGE_BOND) ≡ exit_weight exit
  exit_weight-answered exit block one once there is =
      omega (arith, open_weight-answered block exit.challenges one once there is)

  -- the weight of what is held for these exits
  unfoldable pub exits_weight : List Exit → ℕ
  exits_weight [] = 0
  exits_weight (exit ∷ exits) = exit_weight exit + exits_weight exits

  exits_weight-append : (exits : List Exit) (new : Exit)
      → exits_weight (exits ++ new ∷ []) ≡ exits_weight exits + exit_weight new
  unfolding exits_weight
  exits_weight-append [] new = omega arith
  exits_weight-append (x ∷ xs) new = omega (arith, exits_weight-append xs new)

  -- an exit that doesn't stand is started
  pub exits_weight-started : (new : Exit) (exits : List Exit) → find (is_exit new.coin new.block) exits ≡ None
      → new.challenges ≡ []
      → exits_weight (without_exit new.coin new.block exits ++ new ∷ [])
      ≡ exits_weight exits + w (moved new.account EXIT_BOND)
  exits_weight-started new exits none bare =
      let same : without_exit new.coin new.block exits ≡ exits = filter-none (is_exit new.coin new.block) exits
      (count-none (is_exit new.coin new.block) exits (ap is_some none)) in
      grind (arith, common_steps, exits_weight-append, exit_weight-new) steps 20000

  -- one of distinct exits is taken out
  pub exits_weight-without : (c e : ℕ) (exits : List Exit) (t : Exit) → count (is_exit c e) exits ≤ 1
      → find (is_exit c e) exits ≡ Some t
      → exits_weight (without_exit c e exits) + exit_weight t ≡ exits_weight exits
  unfolding exits_weight count
  exits_weight-without c e [] t once there = absurd (cc there)
  exits_weight-without c e (x ∷ xs) t once there =
      (elim (is_exit c e x) as (λ b. (if b then 1 else 0) + count (is_exit c e) xs ≤ 1
      → (if b then Some x else find (is_exit c e) xs) ≡ Some t
      → exits_weight (cond (not b) (x ∷ without_exit c e xs) (without_exit c e xs)) + exit_weight t
      ≡ exit_weight x + exits_weight xs) [
        | true ↦ λ few same. omega (
          arith,
          ap (λ ys. exits_weight ys) (filter-none (is_exit c e) xs (omega arith)),
          ap (λ (y : Exit). exit_weight y) (some_same x t same),
        )
        | false ↦ λ few later. omega (arith, exits_weight-without c e xs t (omega arith) later)
      ]) once there

  -- one of distinct exits is changed
  pub exits_weight-changed : (c e : ℕ) (change : Exit → Exit) (exits : List Exit) (t : Exit)
      → count (is_exit c e) exits ≤ 1 → find (is_exit c e) exits ≡ Some t
      → exits_weight (with_exit_changed c e change exits) + exit_weight t ≡ exits_weight exits + exit_weight (change t)
  unfolding exits_weight count
  exits_weight-changed c e change [] t once there = absurd (cc there)
  exits_weight-changed c e change (x ∷ xs) t once there =
      (elim (is_exit c e x) as (λ b. (if b then 1 else 0) + count (is_exit c e) xs ≤ 1
      → (if b then Some x else find (is_exit c e) xs) ≡ Some t
      → exit_weight (if b then change x else x) + exits_weight (with_exit_changed c e change xs) + exit_weight t
      ≡ exit_weight x + exits_weight xs + exit_weight (change t)) [
        | true ↦ λ few same. omega (
          arith,
          ap (λ ys. exits_weight ys) (map-none (is_exit c e) change xs (omega arith)),
          ap (λ (y : Exit). exit_weight y) (some_same x t same),
          ap (λ (y : Exit). exit_weight (change y)) (some_same x t same),
        )
        | false ↦ λ few later. omega (arith, exits_weight-changed c e change xs t (omega arith) later)
      ]) once there

  -- ---- coins

  -- the weight of a coin's amount, at its depositor
  abbrev pub coin_weight : Option CoinView → ℕ
  coin_weight None = 0
  coin_weight (Some coin) = w (moved coin.owner.account coin.amount)

  -- a finish lets go of the coin where no challenge is open and the coin isn't withdrawn
  pub amount_released-is : (challenges : List Challenge) (withdrawn : Bool) (coin : Option CoinView)
      → weight_of w (amount_released (filter (λ challenge. not challenge.answered) challenges) withdrawn coin)
      ≡ (if list_all (λ challenge. challenge.answered) challenges then (if withdrawn then 0 else coin_weight coin)
      else 0)
  amount_released-is [] true coin = refl
  amount_released-is [] false None = refl
  amount_released-is [] false (Some coin) = omega arith
  amount_released-is (y ∷ ys) withdrawn coin =
      grind (arith, common_steps, amount_released-is ys withdrawn coin) steps 20000

-- ---- weights by amounts

open_weight-amounts : (challenges : List Challenge)
    → open_weight by_amount challenges
    ≡ CHALLENGE_BOND * length (filter (λ challenge. not challenge.answered) challenges)
unfolding open_weight
open_weight-amounts [] = refl
open_weight-amounts (y ∷ ys) = grind (arith, common_steps, open_weight-amounts ys) steps 20000

pub exits_weight-amounts : (exits : List Exit) → exits_weight by_amount exits ≡ bonds exits
unfolding exits_weight bonds
exits_weight-amounts [] = refl
exits_weight-amounts (x ∷ xs) = omega (arith, open_weight-amounts x.challenges, exits_weight-amounts xs)

pub coin_weight-amount : (coin : Option CoinView) → coin_weight by_amount coin ≡ amount_of coin
coin_weight-amount coin = grind (arith, common_steps) steps 20000
