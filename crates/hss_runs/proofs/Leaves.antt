-- Which leaf is next, case by case, and after a bottom key was opened.
use Rattle.hss_runs.proofs.Words.{◌≡◌, ◌⊎◌, ◌<◌, ◌-◌, ◌+◌, ℕ, Bool, true, false, cond, List, [], ◌∷◌, ◌++◌, Some, None, Ok, refl, ◌∙◌, ap, inl, inr, arith, nat_lt, and_parts, cases_Bool, lt-ltb, ltb-true, HssSeed, Entry, Opens, Binds, bottom_key, entries_of, opened_count, used_in, entry_may_follow, level_records, may_follow, has_leaf, NextLeaf, next_leaf}
use Rattle.std.proofs.lemmas.Nat.{pow_pos}
use Rattle.lms_sign.specs.Types.{height, leaf_count}
use Rattle.hss_keys.proofs.Counts.{entries-more, follows_as, has-next, next_key, next_leaf as bound-next, opened-more, used-none}
use Rattle.hss_keys.proofs.Form.{are_counted, behind-append, step_out}

-- the next leaf is one of the last bottom key, which has one left
pub record IsOfLast (seed : HssSeed) (entries : List Entry) (next : NextLeaf) : Type 0 where
  pub has : has_leaf seed entries ≡ true
  pub top_leaf : next.top_leaf ≡ opened_count entries - 1
  pub leaf : next.leaf ≡ used_in entries

-- or the first of the next one, which a top leaf is left for
pub record IsOfNew (seed : HssSeed) (entries : List Entry) (next : NextLeaf) : Type 0 where
  pub has_none : has_leaf seed entries ≡ false
  pub left : opened_count entries < leaf_count seed.top
  pub top_leaf : next.top_leaf ≡ opened_count entries
  pub leaf : next.leaf ≡ 0

choice : (has less : Bool) (last new next : NextLeaf) → cond has (Some last) (cond less (Some new) None) ≡ Some next
    → ((has ≡ true) × (next ≡ last)) ⊎ ((has ≡ false) × (less ≡ true) × (next ≡ new))
choice true less last new next is = inl (refl, cc)
choice false true last new next is = inr (refl, refl, cc)
choice false false last new next is = absurd (cc (is))

module _ (seed : HssSeed) (entries : List Entry) (next : NextLeaf) (is : next_leaf seed entries ≡ Some next) where
  last : NextLeaf
  last = record { top_leaf = opened_count entries - 1; leaf = used_in entries; opens = false }

  new : NextLeaf
  new = record { top_leaf = opened_count entries; leaf = 0; opens = true }

  chosen : ((has_leaf seed entries ≡ true) × (next ≡ last))
      ⊎ ((has_leaf seed entries ≡ false) × (nat_lt (opened_count entries) (leaf_count seed.top) ≡ true) × (next ≡ new))
  unfolding last new
  chosen =
      choice (has_leaf seed entries) (nat_lt (opened_count entries) (leaf_count seed.top)) last new next is

  pub of-last : next.opens ≡ false → IsOfLast seed entries next
  unfolding last new
  of-last opens = elim chosen [
    | inl here ↦ record {
      has = here.0;
      top_leaf = ap (λ (n : NextLeaf). n.top_leaf) here.1;
      leaf = ap (λ (n : NextLeaf). n.leaf) here.1;
    }
    | inr there ↦ absurd (let wrong = ap (λ (n : NextLeaf). n.opens) there.2 in cc (wrong, opens))
  ]

  pub of-new : next.opens ≡ true → IsOfNew seed entries next
  unfolding last new
  of-new opens = elim chosen [
    | inl here ↦ absurd (let wrong = ap (λ (n : NextLeaf). n.opens) here.1 in cc (wrong, opens))
    | inr there ↦ record {
      has_none = there.0;
      left = ltb-true (opened_count entries) (leaf_count seed.top) there.1;
      top_leaf = ap (λ (n : NextLeaf). n.top_leaf) there.2;
      leaf = ap (λ (n : NextLeaf). n.leaf) there.2;
    }
  ]

  -- its bottom key has a top leaf
  pub top-within : opened_count entries < leaf_count seed.top + 1 → next.top_leaf < leaf_count seed.top
  unfolding last new
  top-within most = elim chosen [
    | inl here ↦ (let same = ap (λ (n : NextLeaf). n.top_leaf) here.1 in
        let some = ltb-true 0 (opened_count entries) (and_parts _ _ here.0).0 in omega (arith, same, some, most))
    | inr there ↦ (let same = ap (λ (n : NextLeaf). n.top_leaf) there.2 in
        let less = ltb-true (opened_count entries) (leaf_count seed.top) there.1 in omega (arith, same, less))
  ]

-- ---- behind an opening

-- where a record more makes a signer's records, that one may follow
follows : (seed : HssSeed) (records : List (List ℕ)) (body : List ℕ) → level_records seed records ≡ Ok records
    → level_records seed (records ++ body ∷ []) ≡ Ok (records ++ body ∷ []) → may_follow seed records body ≡ true
follows seed records body are more = elim (cases_Bool (may_follow seed records body)) [
  | inl may ↦ may
  | inr not ↦ absurd (
      let out = behind-append seed [] records records (body ∷ []) are ∙ step_out seed records body [] not in
      cc (out, more)
      )
]

-- and where the last bottom key has no leaf left, it opens the next one
opens : (seed : HssSeed) (before : List Entry) (entry : Entry) → has_leaf seed before ≡ false
    → entry_may_follow seed before entry ≡ true
    → entry ≡ Opens (opened_count before) (bottom_key seed (opened_count before))
opens seed before (Opens j key) none may =
    let is = next_key seed before j key may in
    (λ i. Opens (is.next i) ((is.key_is ∙ ap (bottom_key seed) is.next) i))
opens seed before (Binds j q message) none may =
    absurd (let has = has-next seed before j q (bound-next seed before j q message may) in cc (has, none))

module _ (seed : HssSeed) (records : List (List ℕ)) (body : List ℕ) (are : level_records seed records ≡ Ok records)
    (none : has_leaf seed (entries_of records) ≡ false)
    (more : level_records seed (records ++ body ∷ []) ≡ Ok (records ++ body ∷ [])) where
  j : ℕ
  j = opened_count (entries_of records)

  entries-behind : entries_of (records ++ body ∷ []) ≡ entries_of records ++ Opens j (bottom_key seed j) ∷ []
  unfolding j
  entries-behind =
      let entry = follows_as seed records body (follows seed records body are more) in
      entries-more records body entry.0 entry.1
      ∙ ap (λ (e : Entry). entries_of records ++ e ∷ []) (opens seed (entries_of records) entry.0 none entry.2)

  -- the next leaf is then its first
  pub next-behind : next_leaf seed (entries_of (records ++ body ∷ []))
      ≡ Some (record { top_leaf = opened_count (entries_of records); leaf = 0; opens = false })
  unfolding j height
  next-behind =
      let before = entries_of records in
      let after = before ++ Opens j (bottom_key seed j) ∷ [] in
      let count : opened_count after ≡ j + 1 = opened-more before j (bottom_key seed j) in
      let used : used_in after ≡ 0 =
      used-none before j (bottom_key seed j) ((are_counted seed records are).later j (omega arith)) in
      let least : 0 < leaf_count seed.bottom = pow_pos (height seed.bottom) in
      let has : has_leaf seed after ≡ true = rw (
        lt-ltb 0 (opened_count after) (omega (arith, count)),
        lt-ltb (used_in after) (leaf_count seed.bottom) (omega (arith, used, least)),
      ) refl in
      let same : opened_count after - 1 ≡ j = omega (arith, count) in
      ap (next_leaf seed) entries-behind
      ∙ rw has (λ i. Some (record { top_leaf = same i; leaf = used i; opens = false }))
