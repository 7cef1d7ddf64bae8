-- When records are those of a two-level signer.
use Rattle.hss_keys.proofs.Words.{◌≡◌, ◌<◌, ◌+◌, ℕ, suc, get_or, true, false, List, [], ◌∷◌, ◌++◌, length, drop, take, Ok, Err, refl, sym, ◌∙◌, ap, subst, inl, inr, arith, append_assoc, append-nil, cases_Bool, take-append-drop, drop-cons, common_steps, spelled, HssSeed, entries_of, level_records, may_follow, records_behind}
use Rattle.hss_keys.proofs.Counts.{entries-more, entry_counted, follows_as, no_records_counted, AreCounted}

module _ (seed : HssSeed) where
  -- one step of a reading
  pub step_on : (before : List (List ℕ)) (body : List ℕ) (records : List (List ℕ))
      → may_follow seed before body ≡ true
      → records_behind seed before (body ∷ records) ≡ records_behind seed (before ++ body ∷ []) records
  unfolding records_behind
  step_on before body records may = rw may refl

  pub step_out : (before : List (List ℕ)) (body : List ℕ) (records : List (List ℕ))
      → may_follow seed before body ≡ false
      → records_behind seed before (body ∷ records) ≡ Err (length (spelled before))
  unfolding records_behind
  step_out before body records may = rw may refl

  -- a reading that goes through keeps what each record that may follow keeps
  pub behind-keeps : (P : List (List ℕ) → Type 0) → ((before : List (List ℕ)) (body : List ℕ) → P before
      → may_follow seed before body ≡ true → P (before ++ body ∷ []))
      → (before records all : List (List ℕ)) → records_behind seed before records ≡ Ok all → P before → P all
  unfolding records_behind
  behind-keeps P step before [] all is here = (let same : before ≡ all = cc is in subst P same here)
  behind-keeps P step before (body ∷ records) all is here = elim (cases_Bool (may_follow seed before body)) [
    | inl may ↦ behind-keeps P step (before ++ body ∷ []) records all
        (sym (step_on before body records may) ∙ is) (step before body here may)
    | inr not ↦ absurd (let out = step_out before body records not in cc (out, is))
  ]

  -- and gives what was before and the records
  pub behind-all : (before records all : List (List ℕ)) → records_behind seed before records ≡ Ok all
      → before ++ records ≡ all
  unfolding records_behind
  behind-all before [] all is = append-nil before ∙ cc is
  behind-all before (body ∷ records) all is = elim (cases_Bool (may_follow seed before body)) [
    | inl may ↦ sym (append_assoc before (body ∷ []) records)
        ∙ behind-all (before ++ body ∷ []) records all (sym (step_on before body records may) ∙ is)
    | inr not ↦ absurd (let out = step_out before body records not in cc (out, is))
  ]

  pub behind-append : (before records all more : List (List ℕ)) → records_behind seed before records ≡ Ok all
      → records_behind seed before (records ++ more) ≡ records_behind seed all more
  unfolding records_behind
  behind-append before [] all more is = grind (arith, common_steps) steps 20000
  behind-append before (body ∷ records) all more is = elim (cases_Bool (may_follow seed before body)) [
    | inl may ↦ step_on before body (records ++ more) may
        ∙ behind-append (before ++ body ∷ []) records all more (sym (step_on before body records may) ∙ is)
    | inr not ↦ absurd (let out = step_out before body records not in cc (out, is))
  ]

  pub all_same : (records all : List (List ℕ)) → level_records seed records ≡ Ok all → records ≡ all
  all_same records all is = behind-all [] records all is

  pub one_more : (records : List (List ℕ)) (body : List ℕ) → level_records seed records ≡ Ok records
      → may_follow seed records body ≡ true
      → level_records seed (records ++ body ∷ []) ≡ Ok (records ++ body ∷ [])
  unfolding records_behind
  one_more records body are may = behind-append [] records records (body ∷ []) are ∙ step_on records body [] may

  pub none_are : level_records seed [] ≡ Ok []
  unfolding records_behind
  none_are = refl

  -- where a reading stops
  pub refused_at : (records kept : List (List ℕ)) (index place : ℕ) → kept ≡ take index records
      → level_records seed kept ≡ Ok kept → index < length records
      → may_follow seed kept (get_or records index []) ≡ false → place ≡ length (spelled kept)
      → level_records seed records ≡ Err place
  refused_at records kept index place is are within may there =
      let body = get_or records index [] in
      let rest = drop (suc index) records in
      let split : records ≡ kept ++ body ∷ rest = sym (take-append-drop index records)
      ∙ (λ i. sym is i ++ drop-cons records index [] within i) in
      ap (level_records seed) split ∙ behind-append [] kept kept (body ∷ rest) are
      ∙ step_out kept body rest may ∙ ap (λ (n : ℕ). Err n) (sym there)

  counted_step : (before : List (List ℕ)) (body : List ℕ) → AreCounted seed (entries_of before)
      → may_follow seed before body ≡ true → AreCounted seed (entries_of (before ++ body ∷ []))
  counted_step before body are may = grind (arith, common_steps, follows_as, entries-more, entry_counted) steps 20000

  pub are_counted : (records : List (List ℕ)) → level_records seed records ≡ Ok records
      → AreCounted seed (entries_of records)
  are_counted records are = behind-keeps (λ (l : List (List ℕ)). AreCounted seed (entries_of l)) counted_step []
      records records are (no_records_counted seed)

-- a record more adds its gate, its length and its body
pub spelled-count : (before : List (List ℕ)) (body : List ℕ)
    → length (spelled (before ++ body ∷ [])) ≡ length (spelled before) + (5 + length body)
spelled-count [] body = grind (arith, common_steps) steps 20000
spelled-count (first ∷ before) body = grind (arith, common_steps, spelled-count before body) steps 20000
