-- Sums over exits: an exit is started, taken out or changed.
use Rattle.money_laws.proofs.Basics.{◌≡◌, ℕ, ◌+◌, ◌≤◌, cond, not, true, false, if◌then◌else◌, List, [], ◌∷◌, ◌++◌, Some, None, ap, find, arith, is_some}
use Rattle.money_laws.proofs.CoinWords.{RootCall, Exit, is_exit, without_exit, with_exit_changed, exits, exit_at, some_same, count, filter-none, map-none, count-none, exits-distinct}
use Rattle.money_laws.proofs.WorldWords.{sum_over}

module _ (of : Exit → ℕ) where
  over-append : (xs : List Exit) (new : Exit) → sum_over of (xs ++ new ∷ []) ≡ sum_over of xs + of new
  unfolding sum_over
  over-append [] new = omega arith
  over-append (x ∷ xs) new = omega (arith, over-append xs new)

  -- an exit that doesn't stand is started
  over-started : (new : Exit) (xs : List Exit) → find (is_exit new.coin new.block) xs ≡ None
      → sum_over of (without_exit new.coin new.block xs ++ new ∷ []) ≡ sum_over of xs + of new
  over-started new xs none =
      let same : without_exit new.coin new.block xs ≡ xs = filter-none (is_exit new.coin new.block) xs
      (count-none (is_exit new.coin new.block) xs (ap is_some none)) in
      omega (arith, over-append (without_exit new.coin new.block xs) new, ap (λ ys. sum_over of ys) same)

  -- one of distinct exits is taken out
  over-without : (c e : ℕ) (xs : List Exit) (t : Exit) → count (is_exit c e) xs ≤ 1
      → find (is_exit c e) xs ≡ Some t → sum_over of (without_exit c e xs) + of t ≡ sum_over of xs
  unfolding sum_over count
  over-without c e [] t once there = absurd (cc there)
  over-without c e (x ∷ xs) t once there =
      (elim (is_exit c e x) as (λ b. (if b then 1 else 0) + count (is_exit c e) xs ≤ 1
      → (if b then Some x else find (is_exit c e) xs) ≡ Some t
      → sum_over of (cond (not b) (x ∷ without_exit c e xs) (without_exit c e xs)) + of t
      ≡ of x + sum_over of xs) [
        | true ↦ λ few same. omega (
          arith,
          ap (λ ys. sum_over of ys) (filter-none (is_exit c e) xs (omega arith)),
          ap (λ (y : Exit). of y) (some_same x t same),
        )
        | false ↦ λ few later. omega (arith, over-without c e xs t (omega arith) later)
      ]) once there

  -- one of distinct exits is changed
  over-changed : (c e : ℕ) (change : Exit → Exit) (xs : List Exit) (t : Exit) → count (is_exit c e) xs ≤ 1
      → find (is_exit c e) xs ≡ Some t
      → sum_over of (with_exit_changed c e change xs) + of t ≡ sum_over of xs + of (change t)
  unfolding sum_over count
  over-changed c e change [] t once there = absurd (cc there)
  over-changed c e change (x ∷ xs) t once there =
      (elim (is_exit c e x) as (λ b. (if b then 1 else 0) + count (is_exit c e) xs ≤ 1
      → (if b then Some x else find (is_exit c e) xs) ≡ Some t
      → of (if b then change x else x) + sum_over of (with_exit_changed c e change xs) + of t
      ≡ of x + sum_over of xs + of (change t)) [
        | true ↦ λ few same. omega (
          arith,
          ap (λ ys. sum_over of ys) (map-none (is_exit c e) change xs (omega arith)),
          ap (λ (y : Exit). of y) (some_same x t same),
          ap (λ (y : Exit). of (change y)) (some_same x t same),
        )
        | false ↦ λ few later. omega (arith, over-changed c e change xs t (omega arith) later)
      ]) once there

  -- ---- the standing exits of a log

  pub begun : (log : List RootCall) (new : Exit) → exit_at log new.coin new.block ≡ None
      → sum_over of (without_exit new.coin new.block (exits log) ++ new ∷ []) ≡ sum_over of (exits log) + of new
  unfolding exit_at
  begun log new none = over-started new (exits log) none

  pub ended : (log : List RootCall) (c e : ℕ) (t : Exit) → exit_at log c e ≡ Some t
      → sum_over of (without_exit c e (exits log)) + of t ≡ sum_over of (exits log)
  unfolding exit_at
  ended log c e t there = over-without c e (exits log) t (exits-distinct log c e) there

  pub changed : (log : List RootCall) (c e : ℕ) (change : Exit → Exit) (t : Exit) → exit_at log c e ≡ Some t
      → sum_over of (with_exit_changed c e change (exits log)) + of t ≡ sum_over of (exits log) + of (change t)
  unfolding exit_at
  changed log c e change t there = over-changed c e change (exits log) t (exits-distinct log c e) there
