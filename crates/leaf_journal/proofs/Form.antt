-- When records are those of leaves.
use Rattle.leaf_journal.proofs.Words.{◌≡◌, ◌⊎◌, ◌<◌, ◌≤◌, ◌+◌, ◌*◌, ℕ, suc, get_or, Bool, true, false, cond, eqb, ltb, List, [], ◌∷◌, ◌++◌, length, drop, take, map, Ok, Err, refl, sym, ◌∙◌, ap, subst, inl, inr, arith, append_assoc, append-nil, length-append, ◌&&◌, ◌||◌, w32, to_be_bytes, cases_Bool, eqb-true, ltb-true, leb-true, and_parts, take-append-drop, drop-cons, bytes_eq-Decides, spelled, spelled_record, spelled_records, every_message, first_length, has_number, is_marked, is_marker, leaf_records, leaf_records_of, may_follow, may_follow_of, messages_of, records_behind_of}
use Rattle.leaf_journal.proofs.Messages.{messages-append, messages-count, marker_length}

-- over a test that each message has to pass
module _ (is_message : List ℕ → Bool) (leaves : ℕ) where
  -- one step of a reading
  pub step_on : (before : List (List ℕ)) (body : List ℕ) (records : List (List ℕ))
      → may_follow_of is_message leaves before body ≡ true
      → records_behind_of is_message leaves before (body ∷ records)
      ≡ records_behind_of is_message leaves (before ++ body ∷ []) records
  unfolding records_behind_of
  step_on before body records may = rw may refl

  pub step_out : (before : List (List ℕ)) (body : List ℕ) (records : List (List ℕ))
      → may_follow_of is_message leaves before body ≡ false
      → records_behind_of is_message leaves before (body ∷ records) ≡ Err (length (spelled before))
  unfolding records_behind_of
  step_out before body records may = rw may refl

  -- a reading that goes through gives what was before and the records, and keeps what each record that may follow
  -- keeps
  pub behind-keeps : (P : List (List ℕ) → Type 0) → ((before : List (List ℕ)) (body : List ℕ) → P before
      → may_follow_of is_message leaves before body ≡ true → P (before ++ body ∷ []))
      → (before records all : List (List ℕ)) → records_behind_of is_message leaves before records ≡ Ok all
      → P before → P all
  unfolding records_behind_of
  behind-keeps P step before [] all is here = (let same : before ≡ all = cc is in subst P same here)
  behind-keeps P step before (body ∷ records) all is here =
      elim (cases_Bool (may_follow_of is_message leaves before body)) [
        | inl may ↦ behind-keeps P step (before ++ body ∷ []) records all
            (sym (step_on before body records may) ∙ is) (step before body here may)
        | inr not ↦ absurd (let out = step_out before body records not in cc (out, is))
      ]

  pub behind-all : (before records all : List (List ℕ)) → records_behind_of is_message leaves before records ≡ Ok all
      → before ++ records ≡ all
  unfolding records_behind_of
  behind-all before [] all is = append-nil before ∙ cc is
  behind-all before (body ∷ records) all is = elim (cases_Bool (may_follow_of is_message leaves before body)) [
    | inl may ↦ sym (append_assoc before (body ∷ []) records)
        ∙ behind-all (before ++ body ∷ []) records all (sym (step_on before body records may) ∙ is)
    | inr not ↦ absurd (let out = step_out before body records not in cc (out, is))
  ]

  pub behind-append : (before records all more : List (List ℕ))
      → records_behind_of is_message leaves before records ≡ Ok all
      → records_behind_of is_message leaves before (records ++ more) ≡ records_behind_of is_message leaves all more
  unfolding records_behind_of
  behind-append before [] all more is = (let same : before ≡ all = cc is in ap
      (λ (l : List (List ℕ)). records_behind_of is_message leaves l more) same)
  behind-append before (body ∷ records) all more is = elim (cases_Bool (may_follow_of is_message leaves before body)) [
    | inl may ↦ step_on before body (records ++ more) may
        ∙ behind-append (before ++ body ∷ []) records all more (sym (step_on before body records may) ∙ is)
    | inr not ↦ absurd (let out = step_out before body records not in cc (out, is))
  ]

  pub all_same : (records all : List (List ℕ)) → leaf_records_of is_message leaves records ≡ Ok all → records ≡ all
  all_same records all is = behind-all [] records all is

  pub one_more : (records : List (List ℕ)) (body : List ℕ) → leaf_records_of is_message leaves records ≡ Ok records
      → may_follow_of is_message leaves records body ≡ true
      → leaf_records_of is_message leaves (records ++ body ∷ []) ≡ Ok (records ++ body ∷ [])
  unfolding records_behind_of
  one_more records body are may = behind-append [] records records (body ∷ []) are ∙ step_on records body [] may

  -- where a reading stops
  pub refused_at : (records kept : List (List ℕ)) (index place : ℕ) → kept ≡ take index records
      → leaf_records_of is_message leaves kept ≡ Ok kept → index < length records
      → may_follow_of is_message leaves kept (get_or records index []) ≡ false → place ≡ length (spelled kept)
      → leaf_records_of is_message leaves records ≡ Err place
  refused_at records kept index place is are within may there =
      let body = get_or records index [] in
      let rest = drop (suc index) records in
      let split : records ≡ kept ++ body ∷ rest = sym (take-append-drop index records)
      ∙ (λ i. sym is i ++ drop-cons records index [] within i) in
      ap (leaf_records_of is_message leaves) split ∙ behind-append [] kept kept (body ∷ rest) are
      ∙ step_out kept body rest may ∙ ap (λ (n : ℕ). Err n) (sym there)

  -- and records go on alone by one that may follow
  pub follows : (records all : List (List ℕ)) (body : List ℕ) → leaf_records_of is_message leaves records ≡ Ok records
      → leaf_records_of is_message leaves (records ++ body ∷ []) ≡ Ok all
      → may_follow_of is_message leaves records body ≡ true
  follows records all body are is = elim (cases_Bool (may_follow_of is_message leaves records body)) [
    | inl may ↦ may
    | inr not ↦ absurd (let out = behind-append [] records records (body ∷ []) are
        ∙ step_out records body [] not in cc (out, is))
  ]

-- what a record that may follow is
pub record IsSecond (leaves : ℕ) (before : List (List ℕ)) (body : List ℕ) : Type 0 where
  pub marked : is_marked before ≡ true
  pub leaf : length (messages_of before) < leaves
  pub number : take 4 body ≡ to_be_bytes w32 (length (messages_of before))
  pub least : 5 ≤ length body
  pub most : length body ≤ 132

pub record IsFirst (leaves : ℕ) (before : List (List ℕ)) (body : List ℕ) : Type 0 where
  pub unmarked : is_marked before ≡ false
  pub message : is_marker body ≡ false
  pub leaf : length (messages_of before) < leaves
  pub whole : length body ≡ 116

pub record IsMark (before : List (List ℕ)) (body : List ℕ) : Type 0 where
  pub unmarked : is_marked before ≡ false
  pub mark : is_marker body ≡ true

follows-as : (marked number leaf mark whole : Bool) → cond marked (number && leaf) (mark || (whole && leaf)) ≡ true
    → ((marked ≡ true) × (number ≡ true) × (leaf ≡ true)) ⊎ ((marked ≡ false) × (mark ≡ true)) ⊎
    ((marked ≡ false) × (mark ≡ false) × (whole ≡ true) × (leaf ≡ true))
follows-as true true true mark whole is = inl (refl, refl, refl)
follows-as true true false mark whole is = absurd (cc is)
follows-as true false leaf mark whole is = absurd (cc is)
follows-as false number leaf true whole is = inr (inl (refl, refl))
follows-as false number true false true is = inr (inr (refl, refl, refl, refl))
follows-as false number false false true is = absurd (cc is)
follows-as false number leaf false false is = absurd (cc is)

pub kinds : (leaves : ℕ) (before : List (List ℕ)) (body : List ℕ) → may_follow leaves before body ≡ true
    → IsSecond leaves before body ⊎ IsMark before body ⊎ IsFirst leaves before body
kinds leaves before body may = elim (follows-as (is_marked before) (has_number (length (messages_of before)) body)
    (ltb (length (messages_of before)) leaves) (is_marker body) (eqb (length body) first_length) may) [
      | inl second ↦
          let parts = and_parts _ _ second.1 in
          let front = and_parts _ _ parts.0 in
          inl (record {
            marked = second.0;
            leaf = ltb-true _ _ second.2;
            number = (bytes_eq-Decides (take 4 body) (to_be_bytes w32 (length (messages_of before)))).0 front.0;
            least = leb-true _ _ front.1;
            most = leb-true _ _ parts.1;
          })
      | inr (inl mark) ↦ inr (inl (record { unmarked = mark.0; mark = mark.1 }))
      | inr (inr first) ↦ inr (inr (record {
        unmarked = first.0;
        message = first.1;
        whole = eqb-true _ _ first.2;
        leaf = ltb-true _ _ first.3;
      }))
    ]

-- the messages with one more record, behind the marker and before it
pub more-marked : (before : List (List ℕ)) (body : List ℕ) → is_marked before ≡ true
    → messages_of (before ++ body ∷ []) ≡ messages_of before ++ drop 4 body ∷ []
more-marked before body is = messages-append before (body ∷ [])
    ∙ ap (λ b. messages_of before ++ cond b (map (drop 4) (body ∷ [])) (messages_of (body ∷ []))) is

pub more-unmarked : (before : List (List ℕ)) (body : List ℕ) → is_marked before ≡ false → is_marker body ≡ false
    → messages_of (before ++ body ∷ []) ≡ messages_of before ++ body ∷ []
more-unmarked before body is other =
    messages-append before (body ∷ [])
    ∙ ap (λ b. messages_of before ++ cond b (map (drop 4) (body ∷ [])) (messages_of (body ∷ []))) is
    ∙ ap (λ b. messages_of before ++ cond b [] (body ∷ [])) other

pub more-mark : (before : List (List ℕ)) (body : List ℕ) → IsMark before body
    → messages_of (before ++ body ∷ []) ≡ messages_of before
more-mark before body is =
    messages-append before (body ∷ [])
    ∙ ap (λ b. messages_of before ++ cond b (map (drop 4) (body ∷ [])) (messages_of (body ∷ []))) is.unmarked
    ∙ ap (λ b. messages_of before ++ cond b [] (body ∷ [])) is.mark ∙ append-nil (messages_of before)

-- how many there are, and how long
pub record AreFew (leaves : ℕ) (records : List (List ℕ)) : Type 0 where
  pub within : length (messages_of records) ≤ leaves
  pub short : length (spelled records) ≤ 4 + 137 * length records

pub follows_short : (leaves : ℕ) (before : List (List ℕ)) (body : List ℕ) → may_follow leaves before body ≡ true
    → length body ≤ 132
follows_short leaves before body may = elim (kinds leaves before body may) [
  | inl second ↦ second.most
  | inr (inl mark) ↦ omega (arith, marker_length body mark.mark)
  | inr (inr first) ↦ omega (arith, first.whole)
]

-- a record more adds its gate, its length and its body
pub spelled-count : (before : List (List ℕ)) (body : List ℕ)
    → length (spelled (before ++ body ∷ [])) ≡ length (spelled before) + (5 + length body)
spelled-count [] body = omega (
  arith,
  length-append (spelled_record body) [],
  length-append
      (to_be_bytes w32 (length body)) body,
)
spelled-count (first ∷ before) body = omega (
  arith,
  spelled-count before body,
  length-append (spelled_record first) (spelled_records (before ++ body ∷ [])),
  length-append (spelled_record first) (spelled_records before),
)

spelled_short : (before : List (List ℕ)) (body : List ℕ) → length (spelled before) ≤ 4 + 137 * length before
    → length body ≤ 132 → length (spelled (before ++ body ∷ [])) ≤ 4 + 137 * length (before ++ body ∷ [])
spelled_short before body short most = omega (
  arith,
  short,
  most,
  spelled-count before body,
  length-append before
      (body ∷ []),
)

few_step : (leaves : ℕ) (before : List (List ℕ)) (body : List ℕ) → AreFew leaves before
    → may_follow leaves before body ≡ true → AreFew leaves (before ++ body ∷ [])
few_step leaves before body few may = record {
  within = elim (kinds leaves before body may) [
    | inl second ↦ omega (
      arith,
      ap length (more-marked before body second.marked),
      length-append (messages_of before)
          (drop 4 body ∷ []),
      second.leaf,
    )
    | inr (inl mark) ↦ omega (arith, ap length (more-mark before body mark), few.within)
    | inr (inr first) ↦ omega (
      arith,
      ap length (more-unmarked before body first.unmarked first.message),
      length-append (messages_of before) (body ∷ []),
      first.leaf,
    )
  ];
  short = spelled_short before body few.short (follows_short leaves before body may);
}

pub are_few : (leaves : ℕ) (records all : List (List ℕ)) → leaf_records leaves records ≡ Ok all → AreFew leaves all
are_few leaves records all are = behind-keeps every_message leaves (AreFew leaves) (few_step leaves) [] records all are
    (record { within = omega arith; short = omega arith })

pub count_within : (leaves : ℕ) (records : List (List ℕ)) → leaf_records leaves records ≡ Ok records
    → length records ≤ leaves + 1
count_within leaves records are = elim (cases_Bool (is_marked records)) [
  | inl marked ↦ omega (arith, (are_few leaves records records are).within, rw marked at (messages-count records))
  | inr not ↦ omega (arith, (are_few leaves records records are).within, rw not at (messages-count records))
]
