-- The money of an exit that leaves: the shares of the accounts in it, by its slot.
use Rattle.root_contract.proofs.Words.{◌≡◌, ℕ, ◌+◌, ◌≤◌, not, Bool, true, false, if◌then◌else◌, List, [], ◌∷◌, ◌++◌, length, map, filter, Option, Some, None, refl, sym, ap, ◌∙◌, arith, option_to_list, option_map, eq-eqb, common_steps, Kept, Slot, amount_at, EXIT_BOND, CHALLENGE_BOND, Movement, moved, share_of, cancel_pays, exit_bonds, Challenge, as_challenge, as_exit, open_bonds, first_open, unpaid_amount, payout_of, released_of, finish_paid, finish_released}

-- ---- shares

-- the share in a first movement and in the others
pub share-cons : (a : ℕ) (x : Movement) (xs : List Movement)
    → share_of a (x ∷ xs) ≡ amount_at x.account x.amount a + share_of a xs
unfolding share_of
share-cons a x xs = refl

-- nobody has a share in no movement
pub share-none : (a : ℕ) → share_of a [] ≡ 0
unfolding share_of
share-none a = refl

-- the share in one movement is the amount at its account
pub share-one : (a account amount : ℕ) → share_of a (moved account amount ∷ []) ≡ amount_at account amount a
share-one a account amount = omega (arith, share-cons a (moved account amount) [], share-none a)

-- the share in two lists is the sum of those in each
pub share-append : (a : ℕ) (xs ys : List Movement) → share_of a (xs ++ ys) ≡ share_of a xs + share_of a ys
share-append a [] ys = omega (arith, share-none a)
share-append a (x ∷ xs) ys =
    omega (arith, share-cons a x xs, share-cons a x (xs ++ ys), share-append a xs ys)

-- the amount at its own account
pub amount-own : (a amount : ℕ) → amount_at a amount a ≡ amount
amount-own a amount = ap (λ (b : Bool). if b then amount else 0) (eq-eqb a a refl)

-- ---- open challenges

-- the bond of a challenge that is open, and that of one that is answered
pub share-open : (challenge : Kept) → challenge.answered ≡ false → (a : ℕ)
    → share_of a (open_bonds (challenge ∷ [])) ≡ amount_at challenge.by CHALLENGE_BOND a
share-open challenge is a = grind (arith, common_steps, share-one) steps 20000

pub share-answered : (challenge : Kept) → challenge.answered ≡ true → (a : ℕ)
    → share_of a (open_bonds (challenge ∷ [])) ≡ 0
share-answered challenge is a = grind (arith, common_steps, share-none) steps 20000

-- of the account of an open challenge so much is held as its bond
pub share-by : (challenge : Kept) → challenge.answered ≡ false
    → share_of challenge.by (open_bonds (challenge ∷ [])) ≡ CHALLENGE_BOND
share-by challenge is = share-open challenge is challenge.by ∙ amount-own challenge.by CHALLENGE_BOND

-- the bonds of a first challenge and of the others
pub share-first : (a : ℕ) (x : Kept) (xs : List Kept)
    → share_of a (open_bonds (x ∷ xs)) ≡ share_of a (open_bonds (x ∷ [])) + share_of a (open_bonds xs)
share-first a x xs = grind (arith, common_steps, share-cons, share-one, share-none) steps 20000

-- the same of a list that is known to be so cut
pub share-cut : (rest : List Kept) (x : Kept) (xs : List Kept) → rest ≡ x ∷ xs → (a : ℕ)
    → share_of a (open_bonds rest) ≡ share_of a (open_bonds (x ∷ [])) + share_of a (open_bonds xs)
share-cut rest x xs cut a = ap (λ (l : List Kept). share_of a (open_bonds l)) cut ∙ share-first a x xs

-- where no challenge is left, no bond is
pub share-empty : (rest : List Kept) → length rest ≡ 0 → (a : ℕ) → share_of a (open_bonds rest) ≡ 0
share-empty rest none a = grind (arith, common_steps, share-none) steps 20000

-- ---- an exit that leaves, by its slot and its slot's challenges

-- the open ones of these challenges as the views have them
abbrev opens : List Kept → List Challenge
opens xs = filter (λ challenge. not challenge.answered) (map as_challenge xs)

-- where a challenge is open, the exit's bond goes to the account of the first of them, and nothing of the coin is
-- let go
pub payout-first : (unpaid : Option Movement) (account who : ℕ) (xs : List Kept) → first_open xs ≡ Some who
    → payout_of unpaid account (opens xs) ≡ moved who EXIT_BOND ∷ open_bonds xs
payout-first unpaid account who [] is = absurd (cc is)
payout-first unpaid account who (x ∷ xs) is = grind (arith, is, payout-first unpaid account who xs)

pub released-first : (unpaid : Option Movement) (who : ℕ) (xs : List Kept) → first_open xs ≡ Some who
    → released_of unpaid (opens xs) ≡ []
released-first unpaid who [] is = absurd (cc is)
released-first unpaid who (x ∷ xs) is = grind (arith, is, released-first unpaid who xs)

-- of that account so much is held as a challenge's bond
pub share-first_open : (who : ℕ) (xs : List Kept) → first_open xs ≡ Some who
    → CHALLENGE_BOND ≤ share_of who (open_bonds xs)
share-first_open who [] is = absurd (cc is)
share-first_open who (x ∷ xs) is =
    grind (arith, is, share-first who x xs, share-by x, share-answered x, share-first_open who xs)

-- where no challenge is open, none is among the open ones
pub none-open : (xs : List Kept) → first_open xs ≡ None → opens xs ≡ []
none-open [] is = refl
none-open (x ∷ xs) is = grind (arith, is, none-open xs)

-- the shares in what a cancelled exit pays, and in its bonds
pub share-cancel : (challenger : ℕ) (o : Option Slot) (slot : Slot) (xs : List Kept) → o ≡ Some slot
    → xs ≡ slot.challenges → (a : ℕ) → share_of a (cancel_pays challenger (option_map as_exit o))
    ≡ amount_at challenger EXIT_BOND a + share_of a (open_bonds xs)
share-cancel challenger o slot xs is same a = grind (arith, common_steps, share-cons) steps 20000

pub share-bonds : (o : Option Slot) (slot : Slot) (xs : List Kept) → o ≡ Some slot
    → xs ≡ slot.challenges → (a : ℕ) → share_of a (exit_bonds (option_map as_exit o))
    ≡ amount_at slot.owner.account EXIT_BOND a + share_of a (open_bonds xs)
share-bonds o slot xs is same a = grind (arith, common_steps, share-cons) steps 20000

-- the shares in what a finish pays, and in what it lets go, where a challenge is open
pub share-paid_open : (unpaid : Option Movement) (o : Option Slot) (slot : Slot) (who : ℕ) (xs : List Kept)
    → o ≡ Some slot → xs ≡ slot.challenges → first_open xs ≡ Some who → (a : ℕ)
    → share_of a (finish_paid unpaid (option_map as_exit o))
    ≡ amount_at who EXIT_BOND a + share_of a (open_bonds xs)
share-paid_open unpaid o slot who xs is same first a = grind (arith, common_steps, payout-first, share-cons) steps 20000

pub share-released_open : (unpaid : Option Movement) (o : Option Slot) (slot : Slot) (who : ℕ) (xs : List Kept)
    → o ≡ Some slot → xs ≡ slot.challenges → first_open xs ≡ Some who → (a : ℕ)
    → share_of a (finish_released unpaid (option_map as_exit o))
    ≡ amount_at slot.owner.account EXIT_BOND a + share_of a (open_bonds xs)
share-released_open unpaid o slot who xs is same first a =
    ap (λ (o : Option Slot). share_of a (finish_released unpaid (option_map as_exit o))) is
    ∙ share-append a (exit_bonds (Some (as_exit slot))) (released_of unpaid (opens slot.challenges))
    ∙ ap (λ (l : List Movement). share_of a (exit_bonds (Some (as_exit slot))) + share_of a l)
    (ap (λ (l : List Kept). released_of unpaid (opens l)) (sym same) ∙ released-first unpaid who xs first)
    ∙ omega (arith, share-none a, share-bonds (Some slot) slot xs refl same a)

-- the same where no challenge is open
pub share-paid : (unpaid : Option Movement) (o : Option Slot) (slot : Slot) (xs : List Kept)
    → o ≡ Some slot → xs ≡ slot.challenges → first_open xs ≡ None → (a : ℕ)
    → share_of a (finish_paid unpaid (option_map as_exit o))
    ≡ amount_at slot.owner.account EXIT_BOND a
    + share_of a (moved slot.owner.account (unpaid_amount unpaid) ∷ [])
share-paid unpaid o slot xs is same none a = grind (arith, common_steps, none-open, share-cons) steps 20000

pub share-released : (unpaid : Option Movement) (o : Option Slot) (slot : Slot) (xs : List Kept)
    → o ≡ Some slot → xs ≡ slot.challenges → first_open xs ≡ None → (a : ℕ)
    → share_of a (finish_released unpaid (option_map as_exit o))
    ≡ amount_at slot.owner.account EXIT_BOND a + share_of a (option_to_list unpaid)
share-released unpaid o slot xs is same none a = grind (arith, common_steps, none-open, share-cons) steps 20000

-- ---- what is unpaid of a coin

-- the share in what is let go, and in what is paid
pub share-unpaid : (o : Option Movement) (coin : Movement) → o ≡ Some coin → (a : ℕ)
    → share_of a (option_to_list o) ≡ amount_at coin.account coin.amount a
share-unpaid o coin is a =
    ap (λ (o : Option Movement). share_of a (option_to_list o)) is ∙ share-one a coin.account coin.amount

pub share-to : (o : Option Movement) (coin : Movement) (to : ℕ) → o ≡ Some coin → (a : ℕ)
    → share_of a (moved to (unpaid_amount o) ∷ []) ≡ amount_at to coin.amount a
share-to o coin to is a =
    share-one a to (unpaid_amount o) ∙ ap (λ (o : Option Movement). amount_at to (unpaid_amount o) a) is

-- where nothing is unpaid, nothing is let go or paid
pub share-paid_up : (o : Option Movement) → o ≡ None → (a : ℕ) → share_of a (option_to_list o) ≡ 0
share-paid_up o is a = ap (λ (o : Option Movement). share_of a (option_to_list o)) is ∙ share-none a

pub share-to_none : (o : Option Movement) (to : ℕ) → o ≡ None → (a : ℕ)
    → share_of a (moved to (unpaid_amount o) ∷ []) ≡ 0
share-to_none o to is a = grind (arith, common_steps, share-one) steps 20000
