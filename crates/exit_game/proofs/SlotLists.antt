-- Lists of slots: one changed, one taken out, one added.
use Rattle.exit_game.proofs.Words.{◌≡◌, ℕ, suc, ◌+◌, ◌<◌, ◌≤◌, ◌==◌, ◌||◌, cond, not, Bool, true, false, if◌then◌else◌, List, [], ◌∷◌, ◌++◌, length, take, drop, slice_set, slice_index_or, Some, None, refl, sym, ap, ◌∙◌, subst, find, position, arith, cases_lt, cases_eq, eq-eqb, ne_eqb, eqb-true, lt-ltb, le-ltb, common_steps, Slot, AreDistinct, slot_at, without_slot, with_slot_changed}
use Rattle.std.specs.Prelude.{IsSome, Result, OnOk, OnErr}
use Rattle.std.specs.List.{list_any, position_or_len}
use Rattle.std.proofs.lemmas.List.Folds.{list_any-append}

some_same : {A : Type 0} (x y : A) → Some x ≡ Some y → x ≡ y
some_same x y e = cc

eqb-flip : (x y : ℕ) → (x == y) ≡ (y == x)
eqb-flip x y = grind (arith, common_steps, cases_eq, eq-eqb, ne_eqb) steps 20000

-- no slot at the block is changed where there is none
changed-none : (m : ℕ) (change : Slot → Slot) (slots : List Slot)
    → list_any (λ x. x.block == m) slots ≡ false → with_slot_changed m change slots ≡ slots
changed-none m change [] none = refl
changed-none m change (x ∷ xs) none =
    (elim (x.block == m) as (λ b. (b || list_any (λ y. y.block == m) xs) ≡ false
    → (if b then change x else x) ∷ with_slot_changed m change xs ≡ x ∷ xs) [
      | true ↦ λ wrong. absurd (cc wrong)
      | false ↦ λ rest. ap (λ (l : List Slot). x ∷ l) (changed-none m change xs rest)
    ]) none

-- the one slot at the block is changed where it stands
changed-at : (m : ℕ) (change : Slot → Slot) (slots : List Slot) (d : Slot) → AreDistinct slots
    → position_or_len (λ x. x.block == m) slots < length slots
    → slice_set slots (position_or_len (λ x. x.block == m) slots)
    (change (slice_index_or slots (position_or_len (λ x. x.block == m) slots) d)) ≡ with_slot_changed m change slots
changed-at m change [] d distinct lt = absurd (omega arith)
changed-at m change (x ∷ xs) d distinct lt =
    (elim (x.block == m) as (λ b. (x.block == m) ≡ b
    → cond (not b) (1 + position_or_len (λ y. y.block == m) xs) 0 < length (x ∷ xs)
    → slice_set (x ∷ xs) (cond (not b) (1 + position_or_len (λ y. y.block == m) xs) 0)
    (change (slice_index_or (x ∷ xs) (cond (not b) (1 + position_or_len (λ y. y.block == m) xs) 0) d))
    ≡ (if b then change x else x) ∷ with_slot_changed m change xs) [
      | true ↦ λ is _. ap (λ (l : List Slot). change x ∷ l)
          (sym (changed-none m change xs
          (subst (λ n. list_any (λ y. y.block == n) xs ≡ false) (eqb-true x.block m is) distinct.0)))
      | false ↦ λ isnt within.
          at_next (position_or_len (λ y. y.block == m) xs) (1 + position_or_len (λ y. y.block == m) xs) (omega arith)
          ∙ ap (λ (l : List Slot). x ∷ l) (changed-at m change xs d distinct.1 (omega arith))
    ]) refl lt
  where
    at_next : (n place : ℕ) → place ≡ suc n → slice_set (x ∷ xs) place (change (slice_index_or (x ∷ xs) place d))
        ≡ x ∷ slice_set xs n (change (slice_index_or xs n d))
    at_next n place e = rw e refl

changed-absent : (m : ℕ) (change : Slot → Slot) (slots : List Slot)
    → length slots ≤ position_or_len (λ x. x.block == m) slots → with_slot_changed m change slots ≡ slots
changed-absent m change [] le = refl
changed-absent m change (x ∷ xs) le =
    (elim (x.block == m) as (λ b. length (x ∷ xs) ≤ cond (not b) (1 + position_or_len (λ y. y.block == m) xs) 0
    → (if b then change x else x) ∷ with_slot_changed m change xs ≡ x ∷ xs) [
      | true ↦ λ wrong. absurd (omega arith)
      | false ↦ λ rest. ap (λ (l : List Slot). x ∷ l) (changed-absent m change xs (omega arith))
    ]) le

or_parts : (a b : Bool) → (a || b) ≡ false → (a ≡ false) × (b ≡ false)
or_parts a b wrong = grind (arith, common_steps) steps 20000

any-changed : (m k : ℕ) (change : Slot → Slot) → ((x : Slot) → (change x).block ≡ x.block)
    → (slots : List Slot)
    → list_any (λ x. x.block == k) (with_slot_changed m change slots) ≡ list_any (λ x. x.block == k) slots
any-changed m k change same [] = refl
any-changed m k change same (x ∷ xs) =
    elim (x.block ==
    m) as (λ b. (((if b then change x else x).block == k) || list_any (λ y. y.block == k)
    (with_slot_changed m change xs)) ≡ ((x.block == k) || list_any (λ y. y.block == k) xs)) [
      | true ↦ λ i. (same x i == k) || any-changed m k change same xs i
      | false ↦ λ i. (x.block == k) || any-changed m k change same xs i
    ]

pub distinct-changed : (m : ℕ) (change : Slot → Slot) → ((x : Slot) → (change x).block ≡ x.block)
    → (slots : List Slot) → AreDistinct slots → AreDistinct (with_slot_changed m change slots)
distinct-changed m change same [] h = tt
distinct-changed m change same (x ∷ xs) h =
    elim (x.block == m) as (λ b. AreDistinct ((if b then change x else x) ∷ with_slot_changed m change xs)) [
      | true ↦ (
        ap (λ n. list_any (λ y. y.block == n) (with_slot_changed m change xs)) (same x)
            ∙ any-changed m x.block change same xs ∙ h.0,
        distinct-changed m change same xs h.1,
      )
      | false ↦ (any-changed m x.block change same xs ∙ h.0, distinct-changed m change same xs h.1)
    ]

any-without : (m k : ℕ) (slots : List Slot) → list_any (λ x. x.block == k) slots ≡ false
    → list_any (λ x. x.block == k) (without_slot m slots) ≡ false
any-without m k [] h = refl
any-without m k (x ∷ xs) h =
    let parts = or_parts (x.block == k) (list_any (λ y. y.block == k) xs) h in
    grind (arith, common_steps, any-without m k xs parts.1) steps 20000

pub distinct-without : (m : ℕ) (slots : List Slot) → AreDistinct slots → AreDistinct (without_slot m slots)
distinct-without m [] h = tt
distinct-without m (x ∷ xs) h =
    elim (x.block == m) as (λ b. AreDistinct (cond (not b) (x ∷ without_slot m xs) (without_slot m xs))) [
      | true ↦ distinct-without m xs h.1
      | false ↦ (any-without m x.block xs h.0, distinct-without m xs h.1)
    ]

-- one more slot, at a block of its own
pub distinct-push : (slots : List Slot) (new : Slot) → AreDistinct slots
    → list_any (λ x. x.block == new.block) slots ≡ false → AreDistinct (slots ++ new ∷ [])
distinct-push [] new h none = (refl, tt)
distinct-push (x ∷ xs) new h none =
    let parts = or_parts (x.block == new.block) (list_any (λ y. y.block == new.block) xs) none in (
      grind (arith, common_steps, list_any-append, eqb-flip) steps 20000,
      distinct-push xs new h.1 parts.1,
    )

-- the slot that is found at a place is changed there
pub changed-place : (m : ℕ) (change : Slot → Slot) (slots : List Slot) (place : ℕ) (item new : Slot)
    → AreDistinct slots
    → Some place ≡ position (λ x. x.block == m) slots → item ≡ slice_index_or slots place item → new ≡ change item
    → slice_set slots place new ≡ with_slot_changed m change slots
changed-place m change slots place item new distinct found at is =
    grind (arith, common_steps, cases_lt, some_same, lt-ltb, changed-at, le-ltb) steps 20000

-- none is changed where none is found
pub changed-nowhere : (m : ℕ) (change : Slot → Slot) (slots : List Slot)
    → None ≡ position (λ x. x.block == m) slots → slots ≡ with_slot_changed m change slots
changed-nowhere m change slots found = grind (arith, common_steps, cases_lt, lt-ltb, changed-absent) steps 20000

-- ---- a slot that is taken out

without-none : (m : ℕ) (slots : List Slot) → list_any (λ x. x.block == m) slots ≡ false → without_slot m slots ≡ slots
without-none m [] none = refl
without-none m (x ∷ xs) none =
    let parts = or_parts (x.block == m) (list_any (λ y. y.block == m) xs) none in
    grind (arith, common_steps, without-none m xs parts.1) steps 20000

-- what is found at a place, and what is left without it
abbrev IsTaken : ℕ → List Slot → ℕ → Slot → Type 0
IsTaken m slots place d =
    (slot_at m slots ≡ Some (slice_index_or slots place d))
    × (take place slots ++ drop (suc place) slots ≡ without_slot m slots)

taken-at : (m : ℕ) (slots : List Slot) (d : Slot) → AreDistinct slots
    → position_or_len (λ x. x.block == m) slots < length slots
    → IsTaken m slots (position_or_len (λ x. x.block == m) slots) d
taken-at m [] d distinct lt = absurd (omega arith)
taken-at m (x ∷ xs) d distinct lt =
    (elim (x.block == m) as (λ b. (x.block == m) ≡ b
    → cond (not b) (1 + position_or_len (λ y. y.block == m) xs) 0 < length (x ∷ xs)
    → ((if b then Some x else find (λ y. y.block == m) xs)
    ≡ Some (slice_index_or (x ∷ xs) (cond (not b) (1 + position_or_len (λ y. y.block == m) xs) 0) d))
    × (take (cond (not b) (1 + position_or_len (λ y. y.block == m) xs) 0) (x ∷ xs)
    ++ drop (suc (cond (not b) (1 + position_or_len (λ y. y.block == m) xs) 0)) (x ∷ xs)
    ≡ cond (not b) (x ∷ without_slot m xs) (without_slot m xs))) [
      | true ↦ λ is _. (
        refl,
        sym (without-none m xs
            (subst (λ n. list_any (λ y. y.block == n) xs ≡ false) (eqb-true x.block m is) distinct.0)),
      )
      | false ↦ λ isnt within.
          let rest : IsTaken m xs (position_or_len (λ y. y.block == m) xs) d =
          taken-at m xs d distinct.1 (omega arith) in
          at_next (position_or_len (λ y. y.block == m) xs) (1 + position_or_len (λ y. y.block == m) xs) (omega arith)
          rest.0 rest.1
    ]) refl lt
  where
    at_next : (n place : ℕ) → place ≡ suc n → find (λ y. y.block == m) xs ≡ Some (slice_index_or xs n d)
        → take n xs ++ drop (suc n) xs ≡ without_slot m xs
        → (find (λ y. y.block == m) xs ≡ Some (slice_index_or (x ∷ xs) place d))
        × (take place (x ∷ xs) ++ drop (suc place) (x ∷ xs) ≡ x ∷ without_slot m xs)
    at_next n place e found left = rw e (found, ap (λ (l : List Slot). x ∷ l) left)

-- the place at which one is found
place-of : (m : ℕ) (slots : List Slot) (place : ℕ) → Some place ≡ position (λ x. x.block == m) slots
    → (position_or_len (λ x. x.block == m) slots ≡ place) × (position_or_len (λ x. x.block == m) slots < length slots)
place-of m slots place found = grind (arith, common_steps, cases_lt, some_same, lt-ltb, le-ltb) steps 20000

pub taken-slot : (m : ℕ) (slots : List Slot) (place : ℕ) (item : Slot) → AreDistinct slots
    → Some place ≡ position (λ x. x.block == m) slots → item ≡ slice_index_or slots place item
    → slot_at m slots ≡ Some item
taken-slot m slots place item distinct found at = grind (arith, common_steps, place-of, taken-at) steps 20000

pub taken-others : (m : ℕ) (slots : List Slot) (place : ℕ) (item : Slot) → AreDistinct slots
    → Some place ≡ position (λ x. x.block == m) slots
    → take place slots ++ drop (suc place) slots ≡ without_slot m slots
taken-others m slots place item distinct found =
    let p = place-of m slots place found in
    ap (λ n. take n slots ++ drop (suc n) slots) (sym p.0) ∙ (taken-at m slots item distinct p.1).1

-- ---- a slot that isn't there

absent : (m : ℕ) (slots : List Slot) → length slots ≤ position_or_len (λ x. x.block == m) slots → slot_at m slots ≡ None
absent m [] le = refl
absent m (x ∷ xs) le =
    (elim (x.block == m) as (λ b. length (x ∷ xs) ≤ cond (not b) (1 + position_or_len (λ y. y.block == m) xs) 0
    → (if b then Some x else find (λ y. y.block == m) xs) ≡ None) [
      | true ↦ λ wrong. absurd (omega arith)
      | false ↦ λ rest. absent m xs (omega arith)
    ]) le

pub found-nowhere : (m : ℕ) (slots : List Slot) → None ≡ position (λ x. x.block == m) slots → IsSome (slot_at m slots)
    → ⊥
found-nowhere m slots found there = grind (arith, common_steps, cases_lt, lt-ltb, absent) steps 20000

-- where no slot is found at a block, none is there
pub none-any : (m : ℕ) (slots : List Slot) → slot_at m slots ≡ None → list_any (λ x. x.block == m) slots ≡ false
none-any m [] none = refl
none-any m (x ∷ xs) none =
    (elim (x.block == m) as (λ b. (if b then Some x else find (λ y. y.block == m) xs) ≡ None
    → (b || list_any (λ y. y.block == m) xs) ≡ false) [
      | true ↦ λ wrong. absurd (cc wrong)
      | false ↦ λ rest. none-any m xs rest
    ]) none

-- distinct slots, whichever of two lists a call left
pub either-way : {A E : Type 0} (changed kept new : List Slot) (r : Result A E) → OnOk r (new ≡ changed)
    → OnErr r (new ≡ kept)
    → AreDistinct changed → AreDistinct kept → AreDistinct new
either-way changed kept new r ok err is_changed is_kept = grind (arith, common_steps) steps 20000
