-- The greatest of some numbers, the lowest leaf, and the laws of what a coin is to a wallet.
use Rattle.wallet_core.proofs.Words.{◌≡◌, ◌≢◌, ◌<◌, ◌≤◌, ◌+◌, ◌==◌, ◌&&◌, ◌||◌, ◌⊎◌, inl, inr, max, not, Bool, true, false, cond, if◌then◌else◌, List, [], ◌∷◌, length, slice_index_or, ℕ, zero, suc, Option, Some, None, is_some, is_none, find, refl, sym, ap, subst, ◌∙◌, arith, fold, reduce, list_any, range_with_len, All, Contains, nat_cmp, cond-true, cond-false, cases_lt, cases_eq, eq-eqb, and_left, and_parts, and_from, or_right, list_any_at, common_steps, RootCall, coin_at, is_withdrawn, tips_of, greatest, sends_by, spends_tip, sending_leaf, is_noted, state_at, state_by, state_of, holds, is_signed_away, IsTip, IsLowestLeaf, NoLeaf, SendingIs, LeavingIs, HeldIs, NothingIs, KeptCoinsAreHeld, HeldCoinsAreKept}
use Rattle.std.specs.Option.{option_map_or}
use Rattle.std.specs.BTreeMap.{is_at}
use Rattle.std.proofs.lemmas.List.Elements.{All-contains}
use Rattle.std.proofs.lemmas.Option.{slice_get_past, slice_get-get_or}
use Rattle.std.proofs.Math.Nat.{le-max_left}
use Rattle.plasma_tx.proofs.States.{is_at-nat}
use Rattle.plasma_tx.specs.declared.views.CoinView.{CoinView}
use Rattle.wallet_core.specs.declared.notes.LeafRecord.{LeafRecord}
use Rattle.wallet_core.specs.declared.notes.Notes.{Notes}
use Rattle.wallet_core.specs.declared.coin_state.CoinState.TheVariants.{Nothing, Sending, Leaving, Held}

-- ---- the greatest of some numbers

max_assoc : (a b c : ℕ) → max (max a b) c ≡ max a (max b c)
max_assoc a b c = omega arith

fold_max : (a : ℕ) (xs : List ℕ) → fold max a xs ≡ option_map_or (max a) (greatest xs) a
unfolding greatest
fold_max a [] = refl
fold_max a (x ∷ xs) = grind (arith, common_steps, fold_max (max a x) xs, max_assoc) steps 20000

-- the greatest, as a chain of std picks it
pub reduce_max : (xs : List ℕ) → reduce max xs ≡ greatest xs
unfolding greatest
reduce_max [] = refl
reduce_max (x ∷ xs) = ap Some (fold_max x xs)

no_greatest : (xs : List ℕ) → greatest xs ≡ None → xs ≡ []
unfolding greatest
no_greatest [] e = refl
no_greatest (x ∷ xs) e = absurd (cc e)

none_is_greatest : (xs : List ℕ) → xs ≡ [] → greatest xs ≡ None
unfolding greatest
none_is_greatest [] e = refl
none_is_greatest (x ∷ xs) e = absurd (cc e)

-- m is one of the numbers, and none is greater
abbrev IsGreatest : List ℕ → ℕ → Type 0
IsGreatest xs m = Contains xs m × All (λ x. x ≤ m) xs

alone : (x : ℕ) → IsGreatest (x ∷ []) x
alone x = grind (arith, common_steps) steps 20000

-- one more number, where m is the greatest of the others
one_more : (x m : ℕ) (xs : List ℕ) → IsGreatest xs m → IsGreatest (x ∷ xs) (max x m)
one_more x m xs ((k, lt, is), all) = (
  elim (cases_lt x m) [
    | inl below ↦ let e : m ≡ max x m = omega arith in subst (Contains (x ∷ xs)) e (suc k, (omega arith), is)
    | inr above ↦ let e : x ≡ max x m = omega arith in subst (Contains (x ∷ xs)) e (0, (omega arith), refl)
  ],
  most,
)
  where
    most : All (λ y. y ≤ max x m) (x ∷ xs)
    most zero d h = le-max_left x m
    most (suc i) d h = let known : slice_index_or xs i d ≤ m = all i d (omega arith) in omega arith

by_rest : (x m : ℕ) (xs : List ℕ) → ((y : ℕ) → greatest xs ≡ Some y → IsGreatest xs y) → (o : Option ℕ)
    → greatest xs ≡ o → Some (option_map_or (max x) o x) ≡ Some m → IsGreatest (x ∷ xs) m
by_rest x m xs rest None none is = grind (arith, common_steps, no_greatest, alone) steps 20000
by_rest x m xs rest (Some y) some is =
    let max_is : max x y ≡ m = cc is in subst (IsGreatest (x ∷ xs)) max_is (one_more x y xs (rest y some))

the_greatest : (xs : List ℕ) (m : ℕ) → greatest xs ≡ Some m → IsGreatest xs m
unfolding greatest
the_greatest [] m e = absurd (cc e)
the_greatest (x ∷ xs) m e = by_rest x m xs (the_greatest xs) (greatest xs) refl e

is_greatest : (xs : List ℕ) (m : ℕ) → Contains xs m → All (λ x. x ≤ m) xs → greatest xs ≡ Some m
is_greatest xs m one most = by (greatest xs) refl
  where
    none_in : (ys : List ℕ) → ys ≡ [] → Contains ys m → None ≡ Some m
    none_in ys nil (k, lt, is) = let no : length ys ≡ 0 = ap (λ (zs : List ℕ). length zs) nil in absurd (omega arith)

    by : (o : Option ℕ) → greatest xs ≡ o → o ≡ Some m
    by None none = none_in xs (no_greatest xs none) one
    by (Some y) some =
        let is = the_greatest xs y some in
        let m_below : m ≤ y = All-contains (λ x. x ≤ y) xs m is.1 one in
        let y_below : y ≤ m = All-contains (λ x. x ≤ m) xs y most is.0 in
        grind (arith, common_steps) steps 20000

-- ---- numbers in a set

-- after an insert a number is in the set where it is the inserted one or was in it
pub has_after_insert : (old new : List ℕ) (q : ℕ)
    → ((n : ℕ) → list_any (is_at (nat_cmp n)) new
    ≡ cond (is_at (nat_cmp q) n) true (list_any (is_at (nat_cmp n)) old))
    → (n : ℕ) → list_any (λ other. other == n) new ≡ ((n == q) || list_any (λ other. other == n) old)
has_after_insert old new q updated n =
    (λ i. list_any (λ other. sym (is_at-nat n other) i) new) ∙ updated n
    ∙ (λ i. cond (is_at-nat q n i) true (list_any (λ other. is_at-nat n other i) old))
    ∙ either (n == q) (list_any (λ other. other == n) old)
  where
    either : (b has : Bool) → cond b true has ≡ (b || has)
    either true has = refl
    either false has = refl

-- ---- the first number that passes a test

first_at : (p : ℕ → Bool) (a n q : ℕ) → a ≤ q → q < a + n → p q ≡ true → ((k : ℕ) → a ≤ k → k < q → p k ≡ false)
    → find p (range_with_len a n) ≡ Some q
first_at p a zero q low high is before = absurd (omega arith)
first_at p a (suc n) q low high is before = elim (cases_eq a q) [
  | inl same ↦ cond-true (p a) _ _ (ap p same ∙ is) ∙ ap Some same
  | inr other ↦ cond-false (p a) _ _ (before a (omega arith) (omega arith))
      ∙ first_at p (a + 1) n q (omega arith) (omega arith) is (λ k l h. before k (omega arith) h)
]

none_at : (p : ℕ → Bool) (a n : ℕ) → ((k : ℕ) → a ≤ k → k < a + n → p k ≡ false) → find p (range_with_len a n) ≡ None
none_at p a zero all = refl
none_at p a (suc n) all =
    cond-false (p a) _ _ (all a (omega arith) (omega arith))
    ∙ none_at p (a + 1) n (λ k l h. all k (omega arith) (omega arith))

first_is : (p : ℕ → Bool) (a n q : ℕ) → find p (range_with_len a n) ≡ Some q
    → (p q ≡ true) × ((k : ℕ) → a ≤ k → k < q → p k ≡ false)
first_is p a zero q e = absurd (cc e)
first_is p a (suc n) q e = grind (arith, common_steps, first_is p (a + 1) n q, cases_eq) steps 20000

all_fail : (p : ℕ → Bool) (a n : ℕ) → find p (range_with_len a n) ≡ None
    → (k : ℕ) → a ≤ k → k < a + n → p k ≡ false
all_fail p a zero e k l h = absurd (omega arith)
all_fail p a (suc n) e k l h = by (p a) refl e (λ r b t. all_fail p (a + 1) n r k b t)
  where
    by : (b : Bool) → p a ≡ b → cond b (Some a) (find p (range_with_len (a + 1) n)) ≡ None
        → (find p (range_with_len (a + 1) n) ≡ None → a + 1 ≤ k → k < a + 1 + n → p k ≡ false) → p k ≡ false
    by true is none rest = absurd (cc none)
    by false is none rest = grind (arith, common_steps, cases_eq) steps 20000

-- ---- the lowest leaf

past_leaves : (reclaimed : List ℕ) (leaves : List LeafRecord) (coin tip q : ℕ) → length leaves ≤ q
    → sends_by reclaimed leaves coin tip q ≡ false
past_leaves reclaimed leaves coin tip q past = grind (arith, common_steps, and_left, slice_get_past) steps 20000

-- a leaf signs the coin away by what it binds and by its number
pub sends_at : (reclaimed : List ℕ) (leaves : List LeafRecord) (coin tip q : ℕ) (leaf : LeafRecord)
    → q < length leaves
    → sends_by reclaimed leaves coin tip q
    ≡ (spends_tip coin tip (slice_index_or leaves q leaf) && not (list_any (λ other. other == q) reclaimed))
sends_at reclaimed leaves coin tip q leaf inside = grind (arith, common_steps, slice_get-get_or) steps 20000

-- the leaf that signs the coin away is the lowest one
pub sending_lowest : (reclaimed : List ℕ) (leaves : List LeafRecord) (coin tip q : ℕ)
    → sends_by reclaimed leaves coin tip q ≡ true
    → ((k : ℕ) → k < q → sends_by reclaimed leaves coin tip k ≡ false)
    → sending_leaf reclaimed leaves coin tip ≡ Some q
unfolding sending_leaf
sending_lowest reclaimed leaves coin tip q sends before = elim (cases_lt q (length leaves)) [
  | inl inside ↦ first_at (sends_by reclaimed leaves coin tip) 0 (length leaves) q (omega arith) (omega arith) sends
      (λ k l h. before k h)
  | inr past ↦ grind (arith, common_steps, past_leaves) steps 20000
]

-- no leaf signs it away
pub sending_none : (reclaimed : List ℕ) (leaves : List LeafRecord) (coin tip : ℕ)
    → ((k : ℕ) → k < length leaves → sends_by reclaimed leaves coin tip k ≡ false)
    → sending_leaf reclaimed leaves coin tip ≡ None
unfolding sending_leaf
sending_none reclaimed leaves coin tip all =
    none_at (sends_by reclaimed leaves coin tip) 0 (length leaves) (λ k l h. all k (omega arith))

lowest_sending : (notes : Notes) (leaves : List LeafRecord) (coin tip q : ℕ)
    → sending_leaf notes.reclaimed leaves coin tip ≡ Some q → IsLowestLeaf notes leaves coin tip q
unfolding sending_leaf
lowest_sending notes leaves coin tip q e = grind (arith, common_steps, first_is) steps 20000

none_sending : (notes : Notes) (leaves : List LeafRecord) (coin tip : ℕ)
    → sending_leaf notes.reclaimed leaves coin tip ≡ None → NoLeaf notes leaves coin tip
unfolding sending_leaf
none_sending notes leaves coin tip e q = elim (cases_lt q (length leaves)) [
  | inl inside ↦ all_fail (sends_by notes.reclaimed leaves coin tip) 0 (length leaves) e q (omega arith) (omega arith)
  | inr past ↦ past_leaves notes.reclaimed leaves coin tip q past
]

-- ---- what a coin is at its tip

at_tip : (notes : Notes) (leaves : List LeafRecord) (log : List RootCall) (coin tip : ℕ) → IsTip notes log coin tip
    → state_of notes leaves log coin ≡ state_at notes coin tip (sending_leaf notes.reclaimed leaves coin tip)
unfolding state_of
at_tip notes leaves log coin tip is =
    ap (λ (b : Bool). if b then Nothing else state_by notes leaves coin (greatest (tips_of notes log coin))) is_there
    ∙ ap (state_by notes leaves coin) (is_greatest (tips_of notes log coin) tip is.is_one is.greatest)
  where
    made : (o : Option CoinView) → o ≢ None → is_none o ≡ false
    made None missing = absurd (missing refl)
    made (Some coin) missing = refl

    is_there : (is_none (coin_at log coin) || is_withdrawn log coin) ≡ false
    is_there = ap (λ (b : Bool). b || is_withdrawn log coin) (made (coin_at log coin) is.exists) ∙ is.not_withdrawn

-- the log has no such coin, or it is withdrawn, or the wallet never came to have it
abbrev IsAbsent : Notes → List RootCall → ℕ → Type 0
IsAbsent notes log coin = (coin_at log coin ≡ None) ⊎ (is_withdrawn log coin ≡ true) ⊎ (tips_of notes log coin ≡ [])

absent : (notes : Notes) (leaves : List LeafRecord) (log : List RootCall) (coin : ℕ) → IsAbsent notes log coin
    → state_of notes leaves log coin ≡ Nothing
unfolding state_of
absent notes leaves log coin (inl no_coin) = grind (arith, common_steps) steps 20000
absent notes leaves log coin (inr (inl withdrawn)) = grind (arith, common_steps, or_right) steps 20000
absent notes leaves log coin (inr (inr no_tips)) = grind (arith, common_steps, none_is_greatest) steps 20000

-- each coin is absent or has a tip
absent_or_tip : (notes : Notes) (log : List RootCall) (coin : ℕ)
    → IsAbsent notes log coin ⊎ ((tip : ℕ) × IsTip notes log coin tip)
absent_or_tip notes log coin =
    by (coin_at log coin) refl (is_withdrawn log coin) refl (greatest (tips_of notes log coin)) refl
  where
    by : (made : Option CoinView) → coin_at log coin ≡ made → (gone : Bool) → is_withdrawn log coin ≡ gone
        → (o : Option ℕ) → greatest (tips_of notes log coin) ≡ o
        → IsAbsent notes log coin ⊎ ((tip : ℕ) × IsTip notes log coin tip)
    by None none gone g o h = inl (inl none)
    by (Some made) m true g o h = inl (inr (inl g))
    by (Some made) m false g None h = inl (inr (inr (no_greatest (tips_of notes log coin) h)))
    by (Some made) m false g (Some tip) h =
        let is = the_greatest (tips_of notes log coin) tip h in
        inr (tip, record { exists = λ none. absurd (cc (m, none)); not_withdrawn = g; is_one = is.0; greatest = is.1 })

-- by what leaf and what note a coin is what it is at its tip
sends_there : (notes : Notes) (coin t tip q : ℕ) (o : Option ℕ) → state_at notes coin t o ≡ Sending tip q
    → (t ≡ tip) × (o ≡ Some q)
sends_there notes coin t tip q o e = grind (arith, common_steps) steps 20000

leaves_there : (notes : Notes) (coin t tip : ℕ) (o : Option ℕ) → state_at notes coin t o ≡ Leaving tip
    → (t ≡ tip) × (o ≡ None) × (is_noted coin t notes.leaving ≡ true)
leaves_there notes coin t tip o e = grind (arith, common_steps) steps 20000

held_there : (notes : Notes) (coin t tip : ℕ) (o : Option ℕ) → state_at notes coin t o ≡ Held tip
    → (t ≡ tip) × (o ≡ None) × (is_noted coin t notes.leaving ≡ false)
held_there notes coin t tip o e = grind (arith, common_steps) steps 20000

something_there : (notes : Notes) (coin t : ℕ) (o : Option ℕ) → state_at notes coin t o ≡ Nothing → ⊥
something_there notes coin t o e = grind (arith, common_steps) steps 20000

no_leaf : (notes : Notes) (leaves : List LeafRecord) (coin tip : ℕ) → NoLeaf notes leaves coin tip
    → sending_leaf notes.reclaimed leaves coin tip ≡ None
no_leaf notes leaves coin tip none = sending_none notes.reclaimed leaves coin tip (λ k h. none k)

-- ---- the laws

pub sending_is : SendingIs
sending_is notes leaves log coin tip q = (to, from)
  where
    to : state_of notes leaves log coin ≡ Sending tip q
        → IsTip notes log coin tip × IsLowestLeaf notes leaves coin tip q
    to e = elim (absent_or_tip notes log coin) [
      | inl gone ↦ let no = absent notes leaves log coin gone in absurd (cc (e, no))
      | inr found ↦
          let is = sends_there notes coin found.0 tip q (sending_leaf notes.reclaimed leaves coin found.0)
          (sym (at_tip notes leaves log coin found.0 found.1) ∙ e) in (
            subst (IsTip notes log coin) is.0 found.1,
            subst (λ t. IsLowestLeaf notes leaves coin t q) is.0 (lowest_sending notes leaves coin found.0 q is.1),
          )
    ]

    from : IsTip notes log coin tip → IsLowestLeaf notes leaves coin tip q
        → state_of notes leaves log coin ≡ Sending tip q
    from is lowest = at_tip notes leaves log coin tip is
        ∙ ap (state_at notes coin tip) (sending_lowest notes.reclaimed leaves coin tip q lowest.sends lowest.lowest)

pub leaving_is : LeavingIs
leaving_is notes leaves log coin tip = (to, from)
  where
    to : state_of notes leaves log coin ≡ Leaving tip
        → IsTip notes log coin tip × NoLeaf notes leaves coin tip × (is_noted coin tip notes.leaving ≡ true)
    to e = elim (absent_or_tip notes log coin) [
      | inl gone ↦ let no = absent notes leaves log coin gone in absurd (cc (e, no))
      | inr found ↦
          let is = leaves_there notes coin found.0 tip (sending_leaf notes.reclaimed leaves coin found.0)
          (sym (at_tip notes leaves log coin found.0 found.1) ∙ e) in (
            subst (IsTip notes log coin) is.0 found.1,
            subst (NoLeaf notes leaves coin) is.0 (none_sending notes leaves coin found.0 is.1),
            subst (λ t. is_noted coin t notes.leaving ≡ true) is.0 is.2,
          )
    ]

    from : IsTip notes log coin tip → NoLeaf notes leaves coin tip → is_noted coin tip notes.leaving ≡ true
        → state_of notes leaves log coin ≡ Leaving tip
    from is none noted = at_tip notes leaves log coin tip is
        ∙ ap (state_at notes coin tip) (no_leaf notes leaves coin tip none)
        ∙ ap (λ (b : Bool). if b then Leaving tip else Held tip) noted

pub held_is : HeldIs
held_is notes leaves log coin tip = (to, from)
  where
    to : state_of notes leaves log coin ≡ Held tip
        → IsTip notes log coin tip × NoLeaf notes leaves coin tip × (is_noted coin tip notes.leaving ≡ false)
    to e = elim (absent_or_tip notes log coin) [
      | inl gone ↦ let no = absent notes leaves log coin gone in absurd (cc (e, no))
      | inr found ↦
          let is = held_there notes coin found.0 tip (sending_leaf notes.reclaimed leaves coin found.0)
          (sym (at_tip notes leaves log coin found.0 found.1) ∙ e) in (
            subst (IsTip notes log coin) is.0 found.1,
            subst (NoLeaf notes leaves coin) is.0 (none_sending notes leaves coin found.0 is.1),
            subst (λ t. is_noted coin t notes.leaving ≡ false) is.0 is.2,
          )
    ]

    from : IsTip notes log coin tip → NoLeaf notes leaves coin tip → is_noted coin tip notes.leaving ≡ false
        → state_of notes leaves log coin ≡ Held tip
    from is none noted = at_tip notes leaves log coin tip is
        ∙ ap (state_at notes coin tip) (no_leaf notes leaves coin tip none)
        ∙ ap (λ (b : Bool). if b then Leaving tip else Held tip) noted

pub nothing_is : NothingIs
nothing_is notes leaves log coin = (to, absent notes leaves log coin)
  where
    to : state_of notes leaves log coin ≡ Nothing → IsAbsent notes log coin
    to e = elim (absent_or_tip notes log coin) [
      | inl gone ↦ gone
      | inr found ↦ absurd (something_there notes coin found.0 (sending_leaf notes.reclaimed leaves coin found.0)
          (sym (at_tip notes leaves log coin found.0 found.1) ∙ e))
    ]

has_tip : (xs : List ℕ) (m : ℕ) → Contains xs m → list_any (λ x. x == m) xs ≡ true
has_tip xs m (k, lt, is) = list_any_at (λ x. x == m) xs k m lt (eq-eqb (slice_index_or xs k m) m is)

holds_at : (notes : Notes) (leaves : List LeafRecord) (log : List RootCall) (coin tip : ℕ) → IsTip notes log coin tip
    → NoLeaf notes leaves coin tip → holds notes leaves log coin tip ≡ true
unfolding holds
holds_at notes leaves log coin tip is none = grind (arith, common_steps, and_from, has_tip, no_leaf) steps 20000

pub kept_coins_are_held : KeptCoinsAreHeld
kept_coins_are_held notes leaves log coin tip (inl held) =
    let is = (held_is notes leaves log coin tip).0 held in holds_at notes leaves log coin tip is.0 is.1
kept_coins_are_held notes leaves log coin tip (inr leaving) =
    let is = (leaving_is notes leaves log coin tip).0 leaving in holds_at notes leaves log coin tip is.0 is.1

pub held_coins_are_kept : HeldCoinsAreKept
unfolding holds
held_coins_are_kept notes leaves log coin tip is held =
    let kept = and_parts _ (not (is_withdrawn log coin)) held in
    let here = and_parts _ (not (is_signed_away notes leaves coin tip)) kept.0 in
    by (none_sending notes leaves coin tip (none (sending_leaf notes.reclaimed leaves coin tip) here.1))
    (is_noted coin tip notes.leaving) refl
  where
    none : (o : Option ℕ) → not (is_some o) ≡ true → o ≡ None
    none None e = refl
    none (Some q) e = absurd (cc e)

    by : NoLeaf notes leaves coin tip → (b : Bool) → is_noted coin tip notes.leaving ≡ b
        → (state_of notes leaves log coin ≡ Held tip) ⊎ (state_of notes leaves log coin ≡ Leaving tip)
    by free true noted = inr ((leaving_is notes leaves log coin tip).1 is free noted)
    by free false noted = inl ((held_is notes leaves log coin tip).1 is free noted)
