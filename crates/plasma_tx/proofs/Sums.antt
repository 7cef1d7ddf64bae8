-- Sums over numbers, and the shares of movements in them.
use Rattle.plasma_tx.proofs.Words.{◌≡◌, ℕ, zero, suc, ◌+◌, ◌-◌, ◌<◌, ◌≤◌, ◌≢◌, ◌==◌, if◌then◌else◌, List, [], ◌∷◌, inl, inr, refl, sym, ◌∙◌, subst, arith, add-one, AllByRecursion, cases_eq, eq-eqb, ne_eqb, common_steps, Movement, moved, share_of, sum_below}
use Rattle.plasma_tx.proofs.Weights.{total}

pub sum_below-same : (f g : ℕ → ℕ) (n : ℕ) → ((k : ℕ) → k < n → f k ≡ g k) → sum_below f n ≡ sum_below g n
unfolding sum_below
sum_below-same f g zero same = refl
sum_below-same f g (suc n) same =
    omega (arith, sum_below-same f g n (λ k h. same k (omega arith)), same n (omega arith))

sum_below-add : (f g : ℕ → ℕ) (n : ℕ) → sum_below (λ k. f k + g k) n ≡ sum_below f n + sum_below g n
unfolding sum_below
sum_below-add f g zero = refl
sum_below-add f g (suc n) = omega (arith, sum_below-add f g n)

pub sum_below-zero : (n : ℕ) → sum_below (λ k. 0) n ≡ 0
unfolding sum_below
sum_below-zero zero = refl
sum_below-zero (suc n) = omega (arith, sum_below-zero n)

pub sum_below-next : (f : ℕ → ℕ) (n : ℕ) → sum_below f (n + 1) ≡ sum_below f n + f n
unfolding sum_below
sum_below-next f n = rw add-one refl

-- one term is no more than the sum
pub sum_below-term : (f : ℕ → ℕ) (n i : ℕ) → i < n → f i ≤ sum_below f n
unfolding sum_below
sum_below-term f zero i below = absurd (omega arith)
sum_below-term f (suc n) i below =
    elim (cases_eq i n) [
      | inl is ↦ subst (λ m. f m ≤ sum_below f n + f n) (sym is) (omega arith)
      | inr isnt ↦ omega (arith, sum_below-term f n i (omega arith))
    ]

-- two functions that differ at one number
pub sum_below-at : (f g : ℕ → ℕ) (n i : ℕ) → i < n → ((k : ℕ) → k ≢ i → f k ≡ g k)
    → sum_below f n + g i ≡ sum_below g n + f i
unfolding sum_below
sum_below-at f g zero i below same = absurd (omega arith)
sum_below-at f g (suc n) i below same =
    elim (cases_eq i n) [
      | inl is ↦ grind (arith, common_steps, sum_below-same) steps 20000
      | inr isnt ↦ omega (arith, sum_below-at f g n i (omega arith) same, same n (λ e. isnt (sym e)))
    ]

sum_below-less : (f g h : ℕ → ℕ) (n : ℕ) → ((k : ℕ) → h k ≤ f k + g k)
    → sum_below (λ k. f k + g k - h k) n + sum_below h n ≡ sum_below f n + sum_below g n
unfolding sum_below
sum_below-less f g h zero below = refl
sum_below-less f g h (suc n) below = omega (arith, sum_below-less f g h n below, below n)

-- each movement is of one of the first n accounts
abbrev pub MovedBelow : ℕ → List Movement → Type 0
MovedBelow n movements = AllByRecursion (λ movement. movement.account < n) movements

sum_below-one : (n account amount : ℕ) → account < n → sum_below (λ k. if account == k then amount else 0) n ≡ amount
sum_below-one n account amount below =
    let f : ℕ → ℕ = λ k. if account == k then amount else 0 in
    let own : f account ≡ amount = simp (eq-eqb account account refl) in
    let zeros : sum_below (λ k. 0) n ≡ 0 = sum_below-zero n in
    let e : sum_below f n + 0 ≡ sum_below (λ k. 0) n + f account =
    sum_below-at f (λ k. 0) n account below (λ k apart. simp (ne_eqb account k (λ same. apart (sym same)))) in
    omega arith

-- each movement of one of the first n accounts is in one share
sum_below-share_of : (n : ℕ) (movements : List Movement) → MovedBelow n movements
    → sum_below (λ account. share_of account movements) n ≡ total movements
unfolding share_of
sum_below-share_of n [] below = sum_below-zero n
sum_below-share_of n (m ∷ ms) below =
    sum_below-add (λ k. if m.account == k then m.amount else 0) (λ k. share_of k ms) n
    ∙ omega (arith, sum_below-one n m.account m.amount below.0, sum_below-share_of n ms below.1)

-- a sum over the accounts, after movements to them and from them
pub sum_below-moved : (n : ℕ) (f : ℕ → ℕ) (to from : List Movement)
    → ((account : ℕ) → share_of account from ≤ f account) → MovedBelow n to → MovedBelow n from
    → sum_below (λ account. f account + share_of account to - share_of account from) n + total from
    ≡ sum_below f n + total to
sum_below-moved n f to from enough below_to below_from =
    let less : sum_below (λ a. f a + share_of a to - share_of a from) n + sum_below (λ a. share_of a from) n
    ≡ sum_below f n + sum_below (λ a. share_of a to) n =
    sum_below-less f (λ a. share_of a to) (λ a. share_of a from) n (λ k. omega (arith, enough k)) in
    omega (arith, less, sum_below-share_of n to below_to, sum_below-share_of n from below_from)

-- who has enough covers what is taken
pub share_of-le : (f : ℕ → ℕ) (account amount : ℕ) → amount ≤ f account → (a : ℕ)
    → share_of a (moved account amount ∷ []) ≤ f a
unfolding share_of
share_of-le f account amount enough a = grind (arith, common_steps, cases_eq, eq-eqb, ne_eqb) steps 20000
