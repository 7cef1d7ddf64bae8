-- A coin that a wallet may not have is nothing to it; and the set of those that it may have, number by number.
use Rattle.wallet_core.proofs.Words.{◌≡◌, ◌+◌, ◌==◌, ◌&&◌, ◌||◌, Bool, true, false, if◌then◌else◌, List, [], ◌∷◌, ◌++◌, ℕ, refl, arith, take, list_any, nat_cmp, BTreeSet, contains, cases_eq, eq-eqb, ne_eqb, list_any-append, common_steps, RootCall, coins, coin_at, deposits_of, own_deposit, noted_tips, OtherCoinsAreNothing}
use Rattle.plasma_tx.specs.declared.call.RootCall.TheVariants.{Deposit}
use Rattle.plasma_tx.specs.declared.owner.Owner.{Owner}
use Rattle.wallet_core.specs.declared.notes.CoinTip.{CoinTip}
use Rattle.wallet_core.proofs.StateLaws.{nothing_is}

abbrev among : ℕ → List ℕ → Bool
among c xs = list_any (λ x. x == c) xs

abbrev noted : ℕ → List CoinTip → Bool
noted c notes = list_any (λ note. note.coin == c) notes

-- ---- a coin that it may not have

or_parts : (a b : Bool) → (a || b) ≡ false → (a ≡ false) × (b ≡ false)
or_parts true b wrong = absurd (cc wrong)
or_parts false b is = (refl, is)

no_tips : (coin : ℕ) (notes : List CoinTip) → noted coin notes ≡ false → noted_tips coin notes ≡ []
no_tips coin [] none = refl
no_tips coin (note ∷ notes) none =
    let parts = or_parts (note.coin == coin) (noted coin notes) none in
    grind (arith, common_steps, no_tips coin notes parts.1) steps 20000

-- another account's deposit is no deposit of the wallet's
not_own : (me : Owner) (log : List RootCall) (coin : ℕ) → among coin (deposits_of log me.account) ≡ false
    → own_deposit me (coin_at log coin) ≡ []
unfolding coin_at deposits_of
not_own me [] coin none = refl
not_own me (Deposit account amount key ∷ log) coin none =
    grind (
      arith,
      common_steps,
      not_own me log coin (before (me.account == account) none),
      cases_eq,
      eq-eqb,
      here,
      ne_eqb,
      before,
    ) steps 20000
  where
    before : (b : Bool)
        → among coin (if b then deposits_of log me.account ++ (coins log + 1) ∷ [] else deposits_of log me.account)
        ≡ false
        → among coin (deposits_of log me.account) ≡ false
    before true without = grind (arith, common_steps, or_parts, list_any-append) steps 20000
    before false without = without

    here : coin ≡ coins log + 1 → me.account ≡ account → ⊥
    here last mine = grind (arith, common_steps, eq-eqb, or_parts, list_any-append) steps 20000
not_own me (call ∷ log) coin none = not_own me log coin none

pub others_are_nothing : OtherCoinsAreNothing
others_are_nothing notes leaves log coin none =
    grind (arith, common_steps, or_parts, nothing_is, not_own, no_tips) steps 20000

-- ---- the set, number by number

-- what either has that this holds of
shared : (one other e : Bool) → ((one && e) || (other && e)) ≡ ((one || (other || false)) && e)
shared one other e = grind (arith, common_steps) steps 20000

moved : (one other more : Bool) → ((one || other) || (more || false)) ≡ ((one || (more || false)) || other)
moved one other more = grind (arith, common_steps) steps 20000

-- the set after one more of some coins, of those of which this holds
pub grown-coins : (holds : ℕ → Bool) (some all : List ℕ) (i x : ℕ) (own new : BTreeSet ℕ) → some ≡ all
    → take (i + 1) some ≡ take i some ++ x ∷ []
    → ((c : ℕ) → contains nat_cmp new c ≡ (contains nat_cmp own c || ((x == c) && holds c)))
    → ((c : ℕ) → contains nat_cmp own c ≡ (among c (take i all) && holds c)) → (c : ℕ)
    → contains nat_cmp new c ≡ (among c (take (i + 1) all) && holds c)
grown-coins holds some all i x own new same next is had c =
    grind (arith, common_steps, shared, list_any-append) steps 20000

-- the set after one more of some notes
pub grown-notes : (holds : ℕ → Bool) (some all : List CoinTip) (i : ℕ) (x : CoinTip) (own new : BTreeSet ℕ)
    (deposits : List ℕ)
    → some ≡ all → take (i + 1) some ≡ take i some ++ x ∷ []
    → ((c : ℕ) → contains nat_cmp new c ≡ (contains nat_cmp own c || ((x.coin == c) && holds c)))
    → ((c : ℕ) → contains nat_cmp own c ≡ ((noted c (take i all) || among c deposits) && holds c)) → (c : ℕ)
    → contains nat_cmp new c ≡ ((noted c (take (i + 1) all) || among c deposits) && holds c)
grown-notes holds some all i x own new deposits same next is had c =
    grind (arith, common_steps, shared, moved, list_any-append) steps 20000
