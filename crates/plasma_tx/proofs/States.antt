-- A map of coins after a write at one coin, and a list of exits after a change of one.
use Rattle.plasma_tx.proofs.Words.{◌≡◌, ℕ, suc, ◌+◌, ◌<◌, ◌≤◌, ◌==◌, ◌||◌, cond, not, Bool, true, false, if◌then◌else◌, List, [], ◌∷◌, ◌++◌, length, slice_set, slice_index_or, Some, None, inl, inr, refl, sym, ap, ◌∙◌, subst, position, arith, Result, OnOk, OnErr, unwrap_or, list_any, position_or_len, nat_cmp, BTreeMap, get, is_at, BTreeSet, contains, cases_lt, cases_eq, eq-eqb, ne_eqb, eqb-true, lt-ltb, le-ltb, list_any-append, common_steps, States, ExitView, Standing, AreDistinct, without_view, with_view_changed, with_challenge_view, ChallengeView, has_exits, AreExiting, item_at, other_in, standing_in}
use Rattle.std.proofs.lemmas.Option.{slice_get_past}
use Rattle.plasma_tx.proofs.Keeps.{item_at-push}
use Rattle.plasma_tx.proofs.Names.{eqb-flip, some_same}

-- a number compares as equal to itself alone
pub is_at-nat : (k c : ℕ) → is_at (nat_cmp k) c ≡ (c == k)
is_at-nat k c = grind (arith, common_steps, cases_lt, lt-ltb, ne_eqb, cases_eq, le-ltb, eq-eqb) steps 20000

-- another coin's state stays, whether memory ran out or not
pub state-apart : {X Y : Type 0} (old new : States) (k : ℕ) (state : Standing) (result : Result X Y)
    → OnOk result ((c : ℕ) → standing_in new c ≡ (if c == k then state else standing_in old c))
    → OnErr result ((c : ℕ) → standing_in new c ≡ standing_in old c)
    → (c : ℕ) → (c == k) ≡ false → standing_in new c ≡ standing_in old c
state-apart old new k state result ok err c other = grind (arith, common_steps) steps 20000

-- a state and its coin's place among those of which an exit stands, changed together
pub exiting-changed : (old new : States) (before after : BTreeSet ℕ) (k : ℕ)
    → contains nat_cmp after k ≡ has_exits (standing_in new k).exits
    → ((c : ℕ) → is_at (nat_cmp k) c ≡ false → contains nat_cmp after c ≡ contains nat_cmp before c)
    → ((c : ℕ) → (c == k) ≡ false → standing_in new c ≡ standing_in old c)
    → AreExiting old before → AreExiting new after
exiting-changed old new before after k here apart same are c =
    elim (cases_eq c k) [
      | inl is ↦ subst (λ n. contains nat_cmp after n ≡ has_exits (standing_in new n).exits) (sym is) here
      | inr other ↦ apart c (is_at-nat k c ∙ ne_eqb c k other) ∙ are c
          ∙ ap (λ (s : Standing). has_exits s.exits) (sym (same c (ne_eqb c k other)))
    ]

-- one more coin has its place, with what was kept of its number
pub standing-added : (made after : List Standing) (others less : BTreeMap ℕ Standing) (state : Standing) (k : ℕ)
    → after ≡ made ++ state ∷ [] → k ≡ length made + 1 → state ≡ other_in others k
    → ((c : ℕ) → is_at (nat_cmp k) c ≡ false → get nat_cmp less c ≡ get nat_cmp others c) → (c : ℕ)
    → unwrap_or (item_at after c) (other_in less c) ≡ unwrap_or (item_at made c) (other_in others c)
standing-added made after others less state k after_is k_is state_is apart c =
    grind (arith, common_steps, item_at-push, cases_eq, eq-eqb, ne_eqb, is_at-nat, slice_get_past) steps 20000

-- ---- lists of exits

-- no exit at the block is changed where there is none
changed-none : (m : ℕ) (change : ExitView → ExitView) (exits : List ExitView)
    → list_any (λ x. x.block == m) exits ≡ false → with_view_changed m change exits ≡ exits
changed-none m change [] none = refl
changed-none m change (x ∷ xs) none =
    (elim (x.block == m) as (λ b. (b || list_any (λ y. y.block == m) xs) ≡ false
    → (if b then change x else x) ∷ with_view_changed m change xs ≡ x ∷ xs) [
      | true ↦ λ wrong. absurd (cc wrong)
      | false ↦ λ rest. ap (λ (l : List ExitView). x ∷ l) (changed-none m change xs rest)
    ]) none

-- the one exit at the block is changed where it stands
changed-at : (m : ℕ) (change : ExitView → ExitView) (exits : List ExitView) (d : ExitView) → AreDistinct exits
    → position_or_len (λ x. x.block == m) exits < length exits
    → slice_set exits (position_or_len (λ x. x.block == m) exits)
    (change (slice_index_or exits (position_or_len (λ x. x.block == m) exits) d)) ≡ with_view_changed m change exits
changed-at m change [] d distinct lt = absurd (omega arith)
changed-at m change (x ∷ xs) d distinct lt =
    (elim (x.block == m) as (λ b. (x.block == m) ≡ b
    → cond (not b) (1 + position_or_len (λ y. y.block == m) xs) 0 < length (x ∷ xs)
    → slice_set (x ∷ xs) (cond (not b) (1 + position_or_len (λ y. y.block == m) xs) 0)
    (change (slice_index_or (x ∷ xs) (cond (not b) (1 + position_or_len (λ y. y.block == m) xs) 0) d))
    ≡ (if b then change x else x) ∷ with_view_changed m change xs) [
      | true ↦ λ is _. ap (λ (l : List ExitView). change x ∷ l)
          (sym (changed-none m change xs
          (subst (λ n. list_any (λ y. y.block == n) xs ≡ false) (eqb-true x.block m is) distinct.0)))
      | false ↦ λ isnt within.
          at_next (position_or_len (λ y. y.block == m) xs) (1 + position_or_len (λ y. y.block == m) xs) (omega arith)
          ∙ ap (λ (l : List ExitView). x ∷ l) (changed-at m change xs d distinct.1 (omega arith))
    ]) refl lt
  where
    at_next : (n place : ℕ) → place ≡ suc n → slice_set (x ∷ xs) place (change (slice_index_or (x ∷ xs) place d))
        ≡ x ∷ slice_set xs n (change (slice_index_or xs n d))
    at_next n place e = rw e refl

changed-absent : (m : ℕ) (change : ExitView → ExitView) (exits : List ExitView)
    → length exits ≤ position_or_len (λ x. x.block == m) exits → with_view_changed m change exits ≡ exits
changed-absent m change [] le = refl
changed-absent m change (x ∷ xs) le =
    (elim (x.block == m) as (λ b. length (x ∷ xs) ≤ cond (not b) (1 + position_or_len (λ y. y.block == m) xs) 0
    → (if b then change x else x) ∷ with_view_changed m change xs ≡ x ∷ xs) [
      | true ↦ λ wrong. absurd (omega arith)
      | false ↦ λ rest. ap (λ (l : List ExitView). x ∷ l) (changed-absent m change xs (omega arith))
    ]) le

-- ---- exits stay at blocks of their own

or_parts : (a b : Bool) → (a || b) ≡ false → (a ≡ false) × (b ≡ false)
or_parts a b wrong = grind (arith, common_steps) steps 20000

any-changed : (m k : ℕ) (change : ExitView → ExitView) → ((x : ExitView) → (change x).block ≡ x.block)
    → (exits : List ExitView)
    → list_any (λ x. x.block == k) (with_view_changed m change exits) ≡ list_any (λ x. x.block == k) exits
any-changed m k change same [] = refl
any-changed m k change same (x ∷ xs) =
    elim (x.block ==
    m) as (λ b. (((if b then change x else x).block == k) || list_any (λ y. y.block == k)
    (with_view_changed m change xs)) ≡ ((x.block == k) || list_any (λ y. y.block == k) xs)) [
      | true ↦ λ i. (same x i == k) || any-changed m k change same xs i
      | false ↦ λ i. (x.block == k) || any-changed m k change same xs i
    ]

pub distinct-changed : (m : ℕ) (change : ExitView → ExitView) → ((x : ExitView) → (change x).block ≡ x.block)
    → (exits : List ExitView) → AreDistinct exits → AreDistinct (with_view_changed m change exits)
distinct-changed m change same [] h = tt
distinct-changed m change same (x ∷ xs) h =
    elim (x.block == m) as (λ b. AreDistinct ((if b then change x else x) ∷ with_view_changed m change xs)) [
      | true ↦ (
        ap (λ n. list_any (λ y. y.block == n) (with_view_changed m change xs)) (same x)
            ∙ any-changed m x.block change same xs ∙ h.0,
        distinct-changed m change same xs h.1,
      )
      | false ↦ (any-changed m x.block change same xs ∙ h.0, distinct-changed m change same xs h.1)
    ]

any-without : (m k : ℕ) (exits : List ExitView) → list_any (λ x. x.block == k) exits ≡ false
    → list_any (λ x. x.block == k) (without_view m exits) ≡ false
any-without m k [] h = refl
any-without m k (x ∷ xs) h =
    let parts = or_parts (x.block == k) (list_any (λ y. y.block == k) xs) h in
    grind (arith, common_steps, any-without m k xs parts.1) steps 20000

pub distinct-without : (m : ℕ) (exits : List ExitView) → AreDistinct exits → AreDistinct (without_view m exits)
distinct-without m [] h = tt
distinct-without m (x ∷ xs) h =
    elim (x.block == m) as (λ b. AreDistinct (cond (not b) (x ∷ without_view m xs) (without_view m xs))) [
      | true ↦ distinct-without m xs h.1
      | false ↦ (any-without m x.block xs h.0, distinct-without m xs h.1)
    ]

-- no exit at the block is left
gone : (m : ℕ) (exits : List ExitView) → list_any (λ x. x.block == m) (without_view m exits) ≡ false
gone m [] = refl
gone m (x ∷ xs) = grind (arith, common_steps, gone m xs) steps 20000

distinct-push : (exits : List ExitView) (new : ExitView) → AreDistinct exits
    → list_any (λ x. x.block == new.block) exits ≡ false → AreDistinct (exits ++ new ∷ [])
distinct-push [] new h none = (refl, tt)
distinct-push (x ∷ xs) new h none =
    let parts = or_parts (x.block == new.block) (list_any (λ y. y.block == new.block) xs) none in (
      grind (arith, common_steps, list_any-append, eqb-flip) steps 20000,
      distinct-push xs new h.1 parts.1,
    )

pub distinct-started : (new : ExitView) (exits : List ExitView) → AreDistinct exits
    → AreDistinct (without_view new.block exits ++ new ∷ [])
distinct-started new exits h = distinct-push (without_view new.block exits) new (distinct-without new.block exits h)
    (gone new.block exits)

-- the exit that is found at a place is changed there
pub changed-place : (m : ℕ) (change : ExitView → ExitView) (exits : List ExitView) (place : ℕ) (item new : ExitView)
    → AreDistinct exits
    → Some place ≡ position (λ x. x.block == m) exits → item ≡ slice_index_or exits place item → new ≡ change item
    → slice_set exits place new ≡ with_view_changed m change exits
changed-place m change exits place item new distinct found at is =
    grind (arith, common_steps, cases_lt, some_same, lt-ltb, changed-at, le-ltb) steps 20000

-- none is changed where none is found
pub changed-nowhere : (m : ℕ) (change : ExitView → ExitView) (exits : List ExitView)
    → None ≡ position (λ x. x.block == m) exits → exits ≡ with_view_changed m change exits
changed-nowhere m change exits found = grind (arith, common_steps, cases_lt, lt-ltb, changed-absent) steps 20000

-- a challenge keeps the exit's block
pub same_block : (challenge : ChallengeView) (exit : ExitView) → (with_challenge_view challenge exit).block ≡ exit.block
same_block challenge exit = grind (arith, common_steps) steps 20000
