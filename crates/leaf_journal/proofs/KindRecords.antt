-- Records whose messages pass a test: they are those that have the form, where each message passes.
use Rattle.leaf_journal.proofs.Words.{◌≡◌, ◌↔◌, ℕ, Bool, true, false, cond, List, [], ◌∷◌, ◌++◌, length, map, drop, Result, Ok, Err, refl, sym, ◌∙◌, ap, subst, inl, inr, eqb, ltb, arith, ◌&&◌, ◌||◌, All, cases_Bool, take_at, drop_at, common_steps, journal_in, every_message, has_number, is_marked, is_marker, leaf_records, leaf_records_of, leaf_records_read, leaf_records_read_of, may_follow, may_follow_of, messages_of, records_behind_of, MessagesPass, KindRecords}
use Rattle.std.proofs.lemmas.List.Elements.{All-drop, All-head, All-nil, All-push, All-take}
use Rattle.leaf_journal.proofs.Messages.{messages-append}
use Rattle.leaf_journal.proofs.Form.{all_same, behind-all, behind-keeps, kinds, more-marked, more-unmarked, more-mark, one_more, step_on, step_out}

-- what is tested of a record, taken apart
parts : (marked behind mark front number leaf whole : Bool)
    → cond marked ((behind && number) && leaf) (mark || ((front && whole) && leaf)) ≡ true
    → (cond marked (number && leaf) (mark || (whole && leaf)) ≡ true)
    × (marked ≡ true → behind ≡ true) × (marked ≡ false → mark ≡ false → front ≡ true)
parts marked behind mark front number leaf whole is = grind (arith, common_steps) steps 20000

-- and put together
joined : (marked behind mark front number leaf whole : Bool)
    → cond marked (number && leaf) (mark || (whole && leaf)) ≡ true
    → (marked ≡ true → behind ≡ true) → (marked ≡ false → mark ≡ false → front ≡ true)
    → cond marked ((behind && number) && leaf) (mark || ((front && whole) && leaf)) ≡ true
joined marked behind mark front number leaf whole is second first = grind (arith, common_steps) steps 20000

-- what holds of each element holds of those in front, and of the last one
All-front : {X : Type 0} (P : X → Type 0) (xs ys : List X) → All P (xs ++ ys) → All P xs
All-front P xs ys all = subst (All P) (take_at xs ys (length xs) refl) (All-take P (length xs) (xs ++ ys) all)

All-last : {X : Type 0} (P : X → Type 0) (xs : List X) (x : X) → All P (xs ++ x ∷ []) → P x
All-last P xs x all = All-head P x []
    (subst (All P) (drop_at xs (x ∷ []) (length xs) refl) (All-drop P (length xs) (xs ++ x ∷ []) all))

module _ (is_message : List ℕ → Bool) (leaves : ℕ) where
  follows_parts : (before : List (List ℕ)) (body : List ℕ) → may_follow_of is_message leaves before body ≡ true
      → (may_follow leaves before body ≡ true)
      × (is_marked before ≡ true → is_message (drop 4 body) ≡ true)
      × (is_marked before ≡ false → is_marker body ≡ false → is_message body ≡ true)
  follows_parts before body may = grind (arith, common_steps, parts) steps 20000

  form_step : (before : List (List ℕ)) (body : List ℕ) → leaf_records leaves before ≡ Ok before
      → may_follow_of is_message leaves before body ≡ true
      → leaf_records leaves (before ++ body ∷ []) ≡ Ok (before ++ body ∷ [])
  form_step before body are may = one_more every_message leaves before body are (follows_parts before body may).0

  pass_step : (before : List (List ℕ)) (body : List ℕ) → MessagesPass is_message before
      → may_follow_of is_message leaves before body ≡ true → MessagesPass is_message (before ++ body ∷ [])
  pass_step before body have may =
      let P : List ℕ → Type 0 = λ message. is_message message ≡ true in
      let are = follows_parts before body may in
      elim (kinds leaves before body are.0) [
        | inl second ↦ subst (All P) (sym (more-marked before body second.marked))
            (All-push P (messages_of before) (drop 4 body) have (are.1 second.marked))
        | inr (inl mark) ↦ subst (All P) (sym (more-mark before body mark)) have
        | inr (inr first) ↦ subst (All P) (sym (more-unmarked before body first.unmarked first.message))
            (All-push P (messages_of before) body have (are.2 first.unmarked first.message))
      ]

  pub form_of : (records all : List (List ℕ)) → leaf_records_of is_message leaves records ≡ Ok all
      → leaf_records leaves records ≡ Ok all
  unfolding records_behind_of
  form_of records all are =
      let keeps : leaf_records leaves all ≡ Ok all = behind-keeps is_message leaves
      (λ l. leaf_records leaves l ≡ Ok l) form_step [] records all are refl in
      ap (leaf_records leaves) (all_same is_message leaves records all are) ∙ keeps

  pub messages_pass : (records all : List (List ℕ)) → leaf_records_of is_message leaves records ≡ Ok all
      → MessagesPass is_message all
  messages_pass records all are = behind-keeps is_message leaves (MessagesPass is_message) pass_step [] records all
      are (All-nil _)

  -- a record that may follow by the form, and whose message passes
  follows_with : (before : List (List ℕ)) (body : List ℕ) → may_follow leaves before body ≡ true
      → MessagesPass is_message (before ++ body ∷ []) → may_follow_of is_message leaves before body ≡ true
  follows_with before body may have =
      let P : List ℕ → Type 0 = λ message. is_message message ≡ true in
      joined (is_marked before) (is_message (drop 4 body)) (is_marker body) (is_message body)
      (has_number (length (messages_of before)) body) (ltb (length (messages_of before)) leaves)
      (eqb (length body) 116) may
      (λ marked. All-last P (messages_of before) (drop 4 body) (subst (All P) (more-marked before body marked) have))
      (λ unmarked other. All-last P (messages_of before) body
      (subst (All P) (more-unmarked before body unmarked other) have))

  pass_front : (records more : List (List ℕ)) → MessagesPass is_message (records ++ more)
      → MessagesPass is_message records
  pass_front records more have =
      let P : List ℕ → Type 0 = λ message. is_message message ≡ true in
      All-front P (messages_of records) (cond (is_marked records) (map (drop 4) more) (messages_of more))
      (subst (All P) (messages-append records more) have)

  with_messages : (before records all : List (List ℕ)) → records_behind_of every_message leaves before records ≡ Ok all
      → MessagesPass is_message all → records_behind_of is_message leaves before records ≡ Ok all
  unfolding records_behind_of
  with_messages before [] all is have = is
  with_messages before (body ∷ records) all is have = elim (cases_Bool (may_follow leaves before body)) [
    | inl may ↦
        let next : List (List ℕ) = before ++ body ∷ [] in
        let rest = sym (step_on every_message leaves before body records may) ∙ is in
        let whole : next ++ records ≡ all = behind-all every_message leaves next records all rest in
        let front = pass_front next records (subst (MessagesPass is_message) (sym whole) have) in
        grind (arith, common_steps, with_messages next records all rest have, step_on, follows_with) steps 20000
    | inr not ↦ absurd (let out = step_out every_message leaves before body records not in cc (out, is))
  ]

pub kind_records : KindRecords
kind_records is_message leaves image records = at (journal_in image)
  where
    at : (r : Result (List (List ℕ)) ℕ) → (leaf_records_read_of is_message leaves r ≡ Ok records)
        ↔ ((leaf_records_read leaves r ≡ Ok records) × MessagesPass is_message records)
    at (Ok read) = grind (arith, common_steps, form_of, messages_pass, with_messages) steps 20000
    at (Err place) = (λ is. absurd (cc is), λ both. absurd (cc both.0))
