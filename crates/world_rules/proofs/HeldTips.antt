-- The blocks at which a wallet ever held a coin are among its tips, and the greatest of them is its held tip.
use Rattle.world_rules.proofs.Basics.{◌≡◌, ◌⊎◌, ℕ, ◌≤◌, ◌==◌, ◌&&◌, ◌||◌, max, map, filter, Bool, true, false, if◌then◌else◌, List, [], ◌∷◌, Option, Some, None, inl, inr, refl, arith, list_any, option_map_or, cases_lt, and_parts, or_cases, or_left, or_right, eqb-true, eq-eqb, false≢true, list_any-append, common_steps}
use Rattle.world_rules.proofs.CoinWords.{Owner, RootCall, CoinView, coin_at, Bundle, coin_at-grown, greatest}
use Rattle.world_rules.proofs.WorldWords.{Event, log_of, wallet_owner, accepted, is_bundle, was_deposited, holds, ever_held, own_deposit_of, possible_tips, held_tip}

-- ---- the greatest of some numbers that pass a test

abbrev has : ℕ → List ℕ → Bool
has e xs = list_any (λ x. x == e) xs

-- a number that passes is among those that do
has-filter : (p : ℕ → Bool) (e : ℕ) (xs : List ℕ) → has e xs ≡ true → p e ≡ true → has e (filter p xs) ≡ true
has-filter p e [] is passes = is
has-filter p e (x ∷ xs) is passes = elim (or_cases (x == e) (has e xs) is) [
  | inl here ↦ grind (arith, common_steps, eqb-true, or_left)
  | inr later ↦ kept (p x) (has-filter p e xs later passes)
]
  where
    kept : (b : Bool) → has e (filter p xs) ≡ true → has e (if b then x ∷ filter p xs else filter p xs) ≡ true
    kept true rest = or_right (x == e) (has e (filter p xs)) rest
    kept false rest = rest

-- and what is among them passes
filter-passes : (p : ℕ → Bool) (e : ℕ) (xs : List ℕ) → has e (filter p xs) ≡ true → p e ≡ true
filter-passes p e [] is = absurd (false≢true is)
filter-passes p e (x ∷ xs) is = grind (arith, common_steps, filter-passes p e xs, or_cases, eqb-true)

greatest-some : (xs : List ℕ) (e : ℕ) → has e xs ≡ true → (m : ℕ) × (greatest xs ≡ Some m)
unfolding greatest
greatest-some [] e is = absurd (false≢true is)
greatest-some (x ∷ xs) e is = (option_map_or (max x) (greatest xs) x, refl)

-- the greatest is one of them
greatest-has : (xs : List ℕ) (m : ℕ) → greatest xs ≡ Some m → has m xs ≡ true
unfolding greatest
greatest-has [] m is = absurd (cc is)
greatest-has (x ∷ xs) m is = grind (arith, common_steps, greatest-has xs, or_left, eq-eqb, cases_lt, or_right)

-- and none is greater
greatest-le : (xs : List ℕ) (m e : ℕ) → greatest xs ≡ Some m → has e xs ≡ true → e ≤ m
unfolding greatest
greatest-le [] m e is among = absurd (cc is)
greatest-le (x ∷ xs) m e is among =
    at (greatest xs) refl is (or_cases (x == e) (has e xs) among) (λ y. greatest-le xs y e)
  where
    at : (o : Option ℕ) → greatest xs ≡ o → Some (option_map_or (max x) o x) ≡ Some m
        → ((x == e) ≡ true) ⊎ (has e xs ≡ true)
        → ((y : ℕ) → greatest xs ≡ Some y → has e xs ≡ true → e ≤ y) → e ≤ m
    at None none same (inl here) rest =
        let a : x ≡ e = eqb-true x e here in let b : x ≡ m = cc same in omega arith
    at None none same (inr later) rest = let w = greatest-some xs e later in absurd (cc (w.1, none))
    at (Some y) some same (inl here) rest =
        let a : x ≡ e = eqb-true x e here in let b : max x y ≡ m = cc same in omega arith
    at (Some y) some same (inr later) rest =
        let a : e ≤ y = rest y some later in let b : max x y ≡ m = cc same in omega arith

-- ---- what stays along events

-- a wallet that was declared keeps its owner, after each event
abbrev pub OwnersStay : List Event → Type 0
OwnersStay [] = Unit {0}
OwnersStay (event ∷ events) =
    ((w : ℕ) (me : Owner) → wallet_owner events w ≡ Some me → wallet_owner (event ∷ events) w ≡ Some me)
    × OwnersStay events

-- the log has the coin
pub record IsCoin (log : List RootCall) (c : ℕ) : Type 0 where
  pub made : CoinView
  pub is : coin_at log c ≡ Some made

-- a coin that is there stays
pub coin-stays : (event : Event) (events : List Event) (c : ℕ) (made : CoinView)
    → coin_at (log_of events) c ≡ Some made → coin_at (log_of (event ∷ events)) c ≡ Some made
unfolding log_of
coin-stays event events c made is = grind (arith, common_steps, coin_at-grown)

pub accepted-stay : (event : Event) (events : List Event) (w c e : ℕ)
    → list_any (is_bundle c e) (accepted events w) ≡ true
    → list_any (is_bundle c e) (accepted (event ∷ events) w) ≡ true
unfolding accepted
accepted-stay event events w c e is = grind (arith, common_steps, or_right)

-- ---- tips

-- the wallet came to have the coin at the block: it was deposited there to it, or it accepted it with that tip
pub record IsTip (events : List Event) (w c e : ℕ) : Type 0 where
  pub me : Owner
  pub owner : wallet_owner events w ≡ Some me
  pub at : (was_deposited me e (coin_at (log_of events) c) || list_any (is_bundle c e) (accepted events w)) ≡ true

pub deposited-stays : (event : Event) (events : List Event) (me : Owner) (c e : ℕ)
    → was_deposited me e (coin_at (log_of events) c) ≡ true
    → was_deposited me e (coin_at (log_of (event ∷ events)) c) ≡ true
deposited-stays event events me c e is = grind (arith, common_steps, false≢true, coin-stays)

first : (a b c : Bool) → (a && b && c) ≡ true → a ≡ true
first a b c is = grind (arith, common_steps)

holds-tip : (events : List Event) (w c e : ℕ) → holds events w c e ≡ true → IsTip events w c e
unfolding holds
holds-tip events w c e is = grind (arith, common_steps, false≢true, first)

tip-stays : (event : Event) (events : List Event) (w c e : ℕ)
    → ((v : ℕ) (me : Owner) → wallet_owner events v ≡ Some me → wallet_owner (event ∷ events) v ≡ Some me)
    → IsTip events w c e → IsTip (event ∷ events) w c e
tip-stays event events w c e stay tip =
    grind (arith, common_steps, or_cases, or_left, deposited-stays, or_right, accepted-stay)

-- a block at which the wallet ever held the coin is such a block
pub ever-tip : (events : List Event) (w c e : ℕ) → OwnersStay events → ever_held events w c e ≡ true
    → IsTip events w c e
unfolding ever_held
ever-tip [] w c e stay is = holds-tip [] w c e is
ever-tip (event ∷ events) w c e stay is =
    elim (or_cases (holds (event ∷ events) w c e) (ever_held events w c e) is) [
      | inl now ↦ holds-tip (event ∷ events) w c e now
      | inr before ↦ tip-stays event events w c e stay.0 (ever-tip events w c e stay.1 before)
    ]

own-has : (me : Owner) (e : ℕ) (o : Option CoinView) → was_deposited me e o ≡ true
    → has e (own_deposit_of (Some me) o) ≡ true
own-has me e o is = grind (arith, common_steps, and_parts, or_left)

taken-has : (c e : ℕ) (bundles : List Bundle) → list_any (is_bundle c e) bundles ≡ true
    → has e (map (λ bundle. bundle.tip) (filter (λ bundle. bundle.coin == c) bundles)) ≡ true
taken-has c e [] is = is
taken-has c e (bundle ∷ bundles) is =
    elim (or_cases (is_bundle c e bundle) (list_any (is_bundle c e) bundles) is) [
      | inl here ↦ grind (arith, common_steps, and_parts, or_left)
      | inr later ↦ more (bundle.coin == c) (taken-has c e bundles later)
    ]
  where
    tips : List Bundle → List ℕ
    tips others = map (λ b. b.tip) (filter (λ b. b.coin == c) others)

    tips_with : Bool → Bundle → List Bundle → List ℕ
    tips_with b one others =
        map (λ b. b.tip) (if b then one ∷ filter (λ b. b.coin == c) others else filter (λ b. b.coin == c) others)

    more : (b : Bool) → has e (tips bundles) ≡ true → has e (tips_with b bundle bundles) ≡ true
    more true rest = or_right (bundle.tip == e) (has e (tips bundles)) rest
    more false rest = rest

tip-has : (events : List Event) (w c e : ℕ) → IsTip events w c e → has e (possible_tips events w c) ≡ true
tip-has events w c e tip = grind (arith, common_steps, list_any-append, or_cases, or_left, own-has, or_right, taken-has)

-- ---- the held tip

-- the wallet ever held the coin at the block, and at none that is greater
pub record IsHeldTip (events : List Event) (w c tip : ℕ) : Type 0 where
  pub held : ever_held events w c tip ≡ true
  pub most : (e : ℕ) → ever_held events w c e ≡ true → e ≤ tip

held-among : (events : List Event) (w c e : ℕ) → OwnersStay events → ever_held events w c e ≡ true
    → has e (filter (ever_held events w c) (possible_tips events w c)) ≡ true
held-among events w c e stay held = grind (arith, common_steps, has-filter, tip-has, ever-tip)

pub held_tip-is : (events : List Event) (w c tip : ℕ) → OwnersStay events → held_tip events w c ≡ Some tip
    → IsHeldTip events w c tip
unfolding held_tip
held_tip-is events w c tip stay is = record {
  held = filter-passes (ever_held events w c) tip (possible_tips events w c)
      (greatest-has (filter (ever_held events w c) (possible_tips events w c)) tip is);
  most = λ e held. greatest-le (filter (ever_held events w c) (possible_tips events w c)) tip e is
      (held-among events w c e stay held);
}

pub held_tip-some : (events : List Event) (w c e : ℕ) → OwnersStay events → ever_held events w c e ≡ true
    → (tip : ℕ) × (held_tip events w c ≡ Some tip)
unfolding held_tip
held_tip-some events w c e stay held =
    greatest-some (filter (ever_held events w c) (possible_tips events w c)) e (held-among events w c e stay held)
