-- The bottom keys and the messages of entries, and what one more entry does to them.
use Rattle.hss_keys.proofs.Words.{◌≡◌, ◌≢◌, ◌<◌, ◌≤◌, ◌+◌, ◌-◌, ℕ, suc, true, false, cond, List, [], ◌∷◌, ◌++◌, length, drop, get_or, Option, Some, None, refl, sym, ◌∙◌, ap, inl, inr, arith, eqb, append-nil, length-append, option_and_then, option_map_or, cons_option, slice_get, cases_eq, cases_lt, and_parts, eq-eqb, eqb-true, lt-ltb, ltb-true, ne_eqb, drop_all, get_or_append_left, get_or_at, slice_get_within, filter_map-append, drop-cons, bytes_eq-Decides, leaf_count, HssSeed, Entry, Opens, Binds, bottom_key, entry_in, entries_of, key_in, keys_of, message_under, messages_under, opened_count, used_in, entry_may_follow, may_follow, has_leaf, leaves_left}

-- the entries of one more record
pub entries-more : (records : List (List ℕ)) (body : List ℕ) (entry : Entry) → entry_in body ≡ Some entry
    → entries_of (records ++ body ∷ []) ≡ entries_of records ++ entry ∷ []
entries-more records body entry is = filter_map-append entry_in records (body ∷ [])
    ∙ ap (λ (o : Option Entry). entries_of records ++ cons_option o []) is

-- a record that may follow spells an entry that may
pub follows_as : (seed : HssSeed) (before : List (List ℕ)) (body : List ℕ) → may_follow seed before body ≡ true
    → (entry : Entry) × (entry_in body ≡ Some entry) × (entry_may_follow seed (entries_of before) entry ≡ true)
follows_as seed before body may = at (entry_in body) refl may
  where
    at : (o : Option Entry) → entry_in body ≡ o
        → option_map_or (entry_may_follow seed (entries_of before)) o false ≡ true
        → (entry : Entry) × (entry_in body ≡ Some entry) × (entry_may_follow seed (entries_of before) entry ≡ true)
    at None is is_true = absurd (cc is_true)
    at (Some entry) is is_true = (entry, is, is_true)

pub follows_from : (seed : HssSeed) (before : List (List ℕ)) (body : List ℕ) (entry : Entry)
    → entry_in body ≡ Some entry
    → may_follow seed before body ≡ entry_may_follow seed (entries_of before) entry
follows_from seed before body entry is =
    ap (λ (o : Option Entry). option_map_or (entry_may_follow seed (entries_of before)) o false) is

-- what an entry that may follow is
pub record IsNextKey (seed : HssSeed) (before : List Entry) (j : ℕ) (key : List ℕ) : Type 0 where
  pub next : j ≡ opened_count before
  pub leaf : j < leaf_count seed.top
  pub key_is : key ≡ bottom_key seed j

pub record IsNextLeaf (seed : HssSeed) (before : List Entry) (j q : ℕ) : Type 0 where
  pub last : j + 1 ≡ opened_count before
  pub next : q ≡ used_in before
  pub leaf : q < leaf_count seed.bottom

pub next_key : (seed : HssSeed) (before : List Entry) (j : ℕ) (key : List ℕ)
    → entry_may_follow seed before (Opens j key) ≡ true → IsNextKey seed before j key
next_key seed before j key may =
    let parts = and_parts _ _ may in
    let front = and_parts _ _ parts.0 in
    record {
      next = eqb-true _ _ front.0;
      leaf = ltb-true _ _ front.1;
      key_is = (bytes_eq-Decides key (bottom_key seed j)).0 parts.1;
    }

pub next_leaf : (seed : HssSeed) (before : List Entry) (j q : ℕ) (message : List ℕ)
    → entry_may_follow seed before (Binds j q message) ≡ true → IsNextLeaf seed before j q
next_leaf seed before j q message may =
    let parts = and_parts _ _ may in
    let front = and_parts _ _ parts.0 in
    record { last = eqb-true _ _ front.0; next = eqb-true _ _ front.1; leaf = ltb-true _ _ parts.1 }

-- ---- one more entry

module _ (entries : List Entry) where
  pub keys-opened : (j : ℕ) (key : List ℕ) → keys_of (entries ++ Opens j key ∷ []) ≡ keys_of entries ++ key ∷ []
  keys-opened j key = filter_map-append key_in entries (Opens j key ∷ [])

  pub keys-bound : (j q : ℕ) (message : List ℕ) → keys_of (entries ++ Binds j q message ∷ []) ≡ keys_of entries
  keys-bound j q message = filter_map-append key_in entries (Binds j q message ∷ []) ∙ append-nil (keys_of entries)

  pub messages-opened : (i j : ℕ) (key : List ℕ)
      → messages_under i (entries ++ Opens j key ∷ []) ≡ messages_under i entries
  messages-opened i j key = filter_map-append (message_under i) entries (Opens j key ∷ [])
      ∙ append-nil (messages_under i entries)

  messages-append : (i j q : ℕ) (message : List ℕ) → messages_under i (entries ++ Binds j q message ∷ [])
      ≡ messages_under i entries ++ cons_option (cond (eqb j i) (Some message) None) []
  messages-append i j q message = filter_map-append (message_under i) entries (Binds j q message ∷ [])

  pub messages-bound : (j q : ℕ) (message : List ℕ)
      → messages_under j (entries ++ Binds j q message ∷ []) ≡ messages_under j entries ++ message ∷ []
  messages-bound j q message = messages-append j j q message
      ∙ ap (λ b. messages_under j entries ++ cons_option (cond b (Some message) None) []) (eq-eqb j j refl)

  pub messages-other : (i j q : ℕ) (message : List ℕ) → j ≢ i
      → messages_under i (entries ++ Binds j q message ∷ []) ≡ messages_under i entries
  messages-other i j q message other = messages-append i j q message
      ∙ ap (λ b. messages_under i entries ++ cons_option (cond b (Some message) None) []) (ne_eqb j i other)
      ∙ append-nil (messages_under i entries)

  pub opened-more : (j : ℕ) (key : List ℕ) → opened_count (entries ++ Opens j key ∷ []) ≡ opened_count entries + 1
  opened-more j key = ap length (keys-opened j key) ∙ length-append (keys_of entries) (key ∷ [])

  pub opened-same : (j q : ℕ) (message : List ℕ)
      → opened_count (entries ++ Binds j q message ∷ []) ≡ opened_count entries
  opened-same j q message = ap length (keys-bound j q message)

  pub used-none : (j : ℕ) (key : List ℕ) → messages_under (opened_count entries) entries ≡ []
      → used_in (entries ++ Opens j key ∷ []) ≡ 0
  used-none j key later =
      let last : opened_count (entries ++ Opens j key ∷ []) - 1 ≡ opened_count entries =
      omega (arith, opened-more j key) in
      ap (λ i. length (messages_under i (entries ++ Opens j key ∷ []))) last
      ∙ ap length (messages-opened (opened_count entries) j key) ∙ ap length later

  pub used-more : (j q : ℕ) (message : List ℕ) → j + 1 ≡ opened_count entries
      → used_in (entries ++ Binds j q message ∷ []) ≡ used_in entries + 1
  used-more j q message is =
      let last : opened_count (entries ++ Binds j q message ∷ []) - 1 ≡ j =
      omega (arith, is, opened-same j q message) in
      let before : opened_count entries - 1 ≡ j = omega (arith, is) in
      ap (λ i. length (messages_under i (entries ++ Binds j q message ∷ []))) last
      ∙ ap length (messages-bound j q message) ∙ length-append (messages_under j entries) (message ∷ [])
      ∙ ap (λ i. length (messages_under i entries) + 1) (sym before)

-- what holds of the entries of every signer
pub record AreCounted (seed : HssSeed) (entries : List Entry) : Type 0 where
  pub opened : opened_count entries ≤ leaf_count seed.top
  pub each : (i : ℕ) → length (messages_under i entries) ≤ leaf_count seed.bottom
  pub later : (i : ℕ) → opened_count entries ≤ i → messages_under i entries ≡ []
  pub keys : (i : ℕ) → i < opened_count entries → get_or (keys_of entries) i [] ≡ bottom_key seed i

none_counted : (seed : HssSeed) → AreCounted seed []
none_counted seed = record {
  opened = omega arith;
  each = λ i. omega arith;
  later = λ i past. refl;
  keys = λ i within. absurd (omega (arith, within));
}

key_counted : (seed : HssSeed) (entries : List Entry) (j : ℕ) (key : List ℕ) → AreCounted seed entries
    → IsNextKey seed entries j key → AreCounted seed (entries ++ Opens j key ∷ [])
key_counted seed entries j key are is =
    let more = opened-more entries j key in
    record {
      opened = omega (arith, more, is.next, is.leaf);
      each = λ i. omega (arith, ap length (messages-opened entries i j key), are.each i);
      later = λ i past. messages-opened entries i j key ∙ are.later i (omega (arith, past, more));
      keys = λ i within.
          let here : get_or (keys_of entries ++ key ∷ []) i [] ≡ bottom_key seed i =
          elim (cases_lt i (opened_count entries)) [
            | inl below ↦ get_or_append_left (keys_of entries) (key ∷ []) [] i below ∙ are.keys i below
            | inr past ↦ (let last : i ≡ j = omega (arith, within, past, more, is.next) in
                get_or_at (keys_of entries) key [] [] i (omega (arith, last, is.next)) ∙ is.key_is
                ∙ ap (bottom_key seed) (sym last))
          ] in
          ap (λ (l : List (List ℕ)). get_or l i []) (keys-opened entries j key) ∙ here;
    }

leaf_counted : (seed : HssSeed) (entries : List Entry) (j q : ℕ) (message : List ℕ) → AreCounted seed entries
    → IsNextLeaf seed entries j q → AreCounted seed (entries ++ Binds j q message ∷ [])
leaf_counted seed entries j q message are is =
    let same = opened-same entries j q message in
    record {
      opened = omega (arith, same, are.opened);
      each = λ i. elim (cases_eq j i) [
        | inl same_leaf ↦ (let before : opened_count entries - 1 ≡ i = omega (arith, same_leaf, is.last) in
            omega (
              arith,
              ap (λ n. length (messages_under n (entries ++ Binds j q message ∷ []))) (sym same_leaf),
              ap length (messages-bound entries j q message),
              length-append (messages_under j entries) (message ∷ []),
              ap (λ n. length (messages_under n entries)) before,
              ap (λ n. length (messages_under n entries)) same_leaf,
              is.next,
              is.leaf,
            ))
        | inr other ↦ omega (arith, ap length (messages-other entries i j q message other), are.each i)
      ];
      later = λ i past. messages-other entries i j q message (λ e. omega (arith, e, past, same, is.last))
          ∙ are.later i (omega (arith, past, same));
      keys = λ i within. ap (λ (l : List (List ℕ)). get_or l i []) (keys-bound entries j q message)
          ∙ are.keys i (omega (arith, within, same));
    }

pub no_records_counted : (seed : HssSeed) → AreCounted seed (entries_of [])
no_records_counted seed = none_counted seed

pub entry_counted : (seed : HssSeed) (entries : List Entry) (entry : Entry) → AreCounted seed entries
    → entry_may_follow seed entries entry ≡ true → AreCounted seed (entries ++ entry ∷ [])
entry_counted seed entries (Opens j key) are may = key_counted seed entries j key are (next_key seed entries j key may)
entry_counted seed entries (Binds j q message) are may =
    leaf_counted seed entries j q message are (next_leaf seed entries j q message may)

-- ---- the leaves that are left

pub left-most : (seed : HssSeed) (entries : List Entry) → leaves_left seed entries ≤ leaf_count seed.bottom
left-most seed entries = elim (has_leaf seed entries)
    as (λ b. cond b (leaf_count seed.bottom - used_in entries) 0 ≤ leaf_count seed.bottom)
    [ true ↦ omega arith | false ↦ omega arith ]

pub left-is : (seed : HssSeed) (entries : List Entry) → has_leaf seed entries ≡ true
    → leaves_left seed entries ≡ leaf_count seed.bottom - used_in entries
left-is seed entries has = ap (λ b. cond b (leaf_count seed.bottom - used_in entries) 0) has

-- a leaf that is next is left
pub has-next : (seed : HssSeed) (entries : List Entry) (j q : ℕ) → IsNextLeaf seed entries j q
    → has_leaf seed entries ≡ true
has-next seed entries j q is = rw (
  lt-ltb 0 (opened_count entries) (omega (arith, is.last)),
  lt-ltb (used_in entries) (leaf_count seed.bottom) (omega (arith, is.next, is.leaf)),
) refl

pub next-has : (seed : HssSeed) (entries : List Entry) → has_leaf seed entries ≡ true
    → (0 < opened_count entries) × (used_in entries < leaf_count seed.bottom)
next-has seed entries has = (let parts = and_parts _ _ has in (ltb-true _ _ parts.0, ltb-true _ _ parts.1))

pub left-one : (seed : HssSeed) (entries : List Entry) → has_leaf seed entries ≡ true → 1 ≤ leaves_left seed entries
left-one seed entries has = omega (arith, left-is seed entries has, (next-has seed entries has).1)

-- and one less once it is bound
pub left-less : (seed : HssSeed) (entries : List Entry) (j q : ℕ) (message : List ℕ) → IsNextLeaf seed entries j q
    → leaves_left seed (entries ++ Binds j q message ∷ []) + 1 ≤ leaves_left seed entries
left-less seed entries j q message is =
    let after = entries ++ Binds j q message ∷ [] in
    let more = used-more entries j q message is.last in
    let before = left-is seed entries (has-next seed entries j q is) in
    let least : leaves_left seed after ≤ leaf_count seed.bottom - used_in after = (elim (has_leaf seed after)
    as (λ b. cond b (leaf_count seed.bottom - used_in after) 0 ≤ leaf_count seed.bottom - used_in after)
    [ true ↦ omega arith | false ↦ omega arith ]) in
    omega (arith, least, more, before, is.next, is.leaf)

-- ---- the messages of records from one on

-- what the first record adds to the messages of a bottom key
pub messages-first : (j : ℕ) (body : List ℕ) (rest : List (List ℕ)) → messages_under j (entries_of (body ∷ rest))
    ≡ cons_option (option_and_then (message_under j) (entry_in body)) (messages_under j (entries_of rest))
messages-first j body rest = elim (entry_in body)
    as (λ o. messages_under j (cons_option o (entries_of rest))
    ≡ cons_option (option_and_then (message_under j) o) (messages_under j (entries_of rest))) [
      | None ↦ refl
      | Some entry ↦ refl
    ]

pub messages-at : (j : ℕ) (records : List (List ℕ)) (i : ℕ) (body : List ℕ) → i < length records
    → body ≡ get_or records i []
    → messages_under j (entries_of (drop i records))
    ≡ cons_option (option_and_then (message_under j) (entry_in body))
    (messages_under j (entries_of (drop (i + 1) records)))
messages-at j records i body within is =
    let next : suc i ≡ i + 1 = omega arith in
    ap (λ (l : List (List ℕ)). messages_under j (entries_of l)) (drop-cons records i [] within)
    ∙ messages-first j (get_or records i []) (drop (suc i) records)
    ∙ (λ k. cons_option (option_and_then (message_under j) (entry_in (sym is k)))
    (messages_under j (entries_of (drop (next k) records))))

-- the message at a place of those, by what the first record binds
pub message-here : (j : ℕ) (records : List (List ℕ)) (i before leaf : ℕ) (body message : List ℕ) → i < length records
    → body ≡ get_or records i [] → Some message ≡ option_and_then (message_under j) (entry_in body) → before ≡ 0
    → slice_get (messages_under j (entries_of (drop i records))) before
    ≡ slice_get (messages_under j (entries_of records)) leaf
    → Some message ≡ slice_get (messages_under j (entries_of records)) leaf
message-here j records i before leaf body message within is some none invariant =
    let rest = messages_under j (entries_of (drop (i + 1) records)) in
    (λ k. slice_get (cons_option (some k) rest) (none' k)) ∙ sym (λ k. slice_get (first k) before) ∙ invariant
  where
    none' : 0 ≡ before
    none' = sym none

    first : messages_under j (entries_of (drop i records))
        ≡ cons_option (option_and_then (message_under j) (entry_in body))
        (messages_under j (entries_of (drop (i + 1) records)))
    first = messages-at j records i body within is

pub message-later : (j : ℕ) (records : List (List ℕ)) (i before less leaf : ℕ) (body message : List ℕ)
    → i < length records → body ≡ get_or records i []
    → Some message ≡ option_and_then (message_under j) (entry_in body) → before ≡ suc less
    → slice_get (messages_under j (entries_of (drop i records))) before
    ≡ slice_get (messages_under j (entries_of records)) leaf
    → slice_get (messages_under j (entries_of (drop (i + 1) records))) less
    ≡ slice_get (messages_under j (entries_of records)) leaf
message-later j records i before less leaf body message within is some more invariant =
    let rest = messages_under j (entries_of (drop (i + 1) records)) in
    (λ k. slice_get (cons_option (some k) rest) (more' k)) ∙ sym (λ k. slice_get (first k) before) ∙ invariant
  where
    more' : suc less ≡ before
    more' = sym more

    first : messages_under j (entries_of (drop i records))
        ≡ cons_option (option_and_then (message_under j) (entry_in body))
        (messages_under j (entries_of (drop (i + 1) records)))
    first = messages-at j records i body within is

pub message-other : (j : ℕ) (records : List (List ℕ)) (i before leaf : ℕ) (body : List ℕ) → i < length records
    → body ≡ get_or records i [] → None ≡ option_and_then (message_under j) (entry_in body)
    → slice_get (messages_under j (entries_of (drop i records))) before
    ≡ slice_get (messages_under j (entries_of records)) leaf
    → slice_get (messages_under j (entries_of (drop (i + 1) records))) before
    ≡ slice_get (messages_under j (entries_of records)) leaf
message-other j records i before leaf body within is none invariant =
    let rest = messages_under j (entries_of (drop (i + 1) records)) in
    (λ k. slice_get (cons_option (none k) rest) before)
    ∙ sym (λ k. slice_get (messages-at j records i body within is k) before) ∙ invariant

-- no message past the last record
pub message-none : (j : ℕ) (records : List (List ℕ)) (i before leaf : ℕ) → length records ≤ i
    → slice_get (messages_under j (entries_of (drop i records))) before
    ≡ slice_get (messages_under j (entries_of records)) leaf
    → None ≡ slice_get (messages_under j (entries_of records)) leaf
message-none j records i before leaf past invariant =
    sym (ap (λ (l : List (List ℕ)). slice_get (messages_under j (entries_of l)) before) (drop_all i records past))
    ∙ invariant

-- a message that is there has both leaves
pub message-within : (seed : HssSeed) (entries : List Entry) (j q : ℕ) (message : List ℕ) → AreCounted seed entries
    → Some message ≡ slice_get (messages_under j entries) q
    → (j < opened_count entries) × (q < leaf_count seed.bottom)
message-within seed entries j q message are is =
    let within = slice_get_within (messages_under j entries) q message (sym is) in (
      elim (cases_lt j (opened_count entries)) [
        | inl below ↦ below
        | inr past ↦ absurd (omega (arith, within, ap length (are.later j past)))
      ],
      omega (arith, within, are.each j),
    )
