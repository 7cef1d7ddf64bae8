-- What the leaves bind, read by their numbers.
use Rattle.wallet_node.proofs.Words.{◌≡◌, ◌<◌, ◌+◌, ℕ, true, List, [], ◌∷◌, ◌++◌, length, take, get_or, None, Some, refl, sym, ◌∙◌, ap, subst, arith, slice_get, slice_get-get_or, slice_get_within, get_or_from_slice_get, map_more, take-map, All-get_or, Body, body_at_start, MessagesPass, messages_of, LeafRecord, is_body, leaves_in, body_of}

-- a number below that of the messages has one
pub never-past : (messages : List (List ℕ)) (q used : ℕ) → used ≡ length messages → q < used
    → None ≡ slice_get messages q → ⊥
never-past messages q used all less none =
    let bad : None ≡ Some (get_or messages q []) = none
    ∙ slice_get-get_or messages q [] (omega (arith, all, less)) in
    cc bad

-- over a leaf that binds a message
module _ (records : List (List ℕ)) (q : ℕ) (message : List ℕ) (pass : MessagesPass is_body records)
    (at : Some message ≡ slice_get (messages_of records) q) where
  -- it is a body
  pub reads : body_of message ≡ Some (body_at_start message)
  reads =
      let good : is_body message ≡ true = subst (λ (m : List ℕ). is_body m ≡ true)
      (get_or_from_slice_get (messages_of records) q message message (sym at))
      (All-get_or (λ (m : List ℕ). is_body m ≡ true) (messages_of records) q message
      (slice_get_within (messages_of records) q message (sym at)) pass) in
      rw good refl

  pub never-unread : None ≡ body_of message → ⊥
  never-unread none =
      let bad : None ≡ Some (body_at_start message) = none ∙ reads in cc bad

  -- one more of what the leaves bind
  pub leaf-more : (body : Body) → Some body ≡ body_of message
      → take q (leaves_in records) ++ record { body = body } ∷ [] ≡ take (q + 1) (leaves_in records)
  leaf-more body is =
      let read : List ℕ → LeafRecord = λ m. record { body = body_at_start m } in
      let some : Some body ≡ Some (body_at_start message) = is ∙ reads in
      let same : body ≡ body_at_start message = cc some in
      let found = get_or_from_slice_get (messages_of records) q message message (sym at) in
      ap (λ (b : Body). take q (leaves_in records) ++ record { body = b } ∷ []) same
      ∙ ap (λ (m : List ℕ). take q (leaves_in records) ++ record { body = body_at_start m } ∷ []) (sym found)
      ∙ ap (λ (l : List LeafRecord). l ++ read (get_or (messages_of records) q message) ∷ [])
      (take-map read q (messages_of records))
      ∙ sym (map_more read (messages_of records) q message
      (slice_get_within (messages_of records) q message (sym at)))
      ∙ sym (take-map read (q + 1) (messages_of records))
