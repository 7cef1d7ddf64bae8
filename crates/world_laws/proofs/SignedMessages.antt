-- A message that a leaf binds is a body's bytes, and the events of a run say which body each leaf binds.
use Rattle.world_laws.proofs.Basics.{◌≡◌, ℕ, ◌==◌, true, false, if◌then◌else◌, List, [], ◌∷◌, ◌++◌, length, drop, reverse, Option, Some, None, Ok, Err, is_ok, inl, inr, refl, sym, ap, ◌∙◌, append-nil, arith, Result, slice_get, option_map, option_map_or, slice_range, range_with_len, and_parts, cases_eq, eqb-true, eq-eqb, ne_eqb, false≢true, drop_all, length-map, length-reverse, reverse-append, All-contains, slice_get-map, common_steps, none_some, find-has, got-has}
use Rattle.world_laws.proofs.CoinWords.{Body, SignedTx, TxRefusal, RootCall, body_text, signed_text, body_length, body_at_start, body_in, with_signature, signed_in, LeafRecord, Has, has-contains, all-has}
use Rattle.world_laws.proofs.NodeWords.{messages_of, is_body, leaves_in, WalletRecords, used, names_coin, last_leaf, wallet-parts, Small}
use Rattle.world_laws.proofs.WorldWords.{leaf_at, Said, KeptWallet, push-same, push-other}
use Rattle.leaf_journal.proofs.KindRecords.{messages_pass}
use Rattle.plasma_tx.proofs.Spellings.{body_in-ok, signed_text-in}
use Rattle.node_rules.specs.WalletOpening.{leaves_of}

-- ---- a message's bytes

-- they are those of the body that they begin with
body-spelled : (message : List ℕ) → Small message → is_body message ≡ true
    → message ≡ body_text (body_at_start message)
unfolding signed_in signed_text
body-spelled message small is =
    let tag = slice_range message 4 36 in
    let parts = and_parts (is_ok (body_in tag message)) (length message == body_length message) is in
    by (body_in tag message) refl parts.0 (eqb-true (length message) (body_length message) parts.1)
  where
    by : (r : Result Body TxRefusal) → body_in (slice_range message 4 36) message ≡ r → is_ok r ≡ true
        → length message ≡ body_length message → message ≡ body_text (body_at_start message)
    by (Err why) r_is wrong long = absurd (false≢true wrong)
    by (Ok body) r_is ok long =
        let tag = slice_range message 4 36 in
        let tx : SignedTx = record { body = body; signature = drop (body_length message) message } in
        let known = signed_text-in tag message tx small.are (ap (with_signature message) r_is) in
        known.0
        ∙ ap (λ (rest : List ℕ). body_text body ++ rest) (drop_all (body_length message) message (omega (arith, long)))
        ∙ append-nil (body_text body) ∙ ap body_text (body_in-ok tag message body r_is).1

-- ---- leaves by their numbers

-- bodies in the order of their leaves
leaf-from : (bodies : List Body) (q : ℕ) (body : Body) → slice_get (reverse bodies) q ≡ Some body
    → leaf_at q bodies ≡ Some body
unfolding leaf_at
leaf-from [] q body is = absurd (none_some body is)
leaf-from (one ∷ bodies) q body is =
    let pushed : slice_get (reverse bodies ++ one ∷ []) q ≡ Some body =
    ap (λ (l : List Body). slice_get l q) (sym (reverse-append (one ∷ []) bodies)) ∙ is in
    let long : length (reverse bodies) ≡ length bodies = length-reverse bodies in
    elim (cases_eq q (length bodies)) [
      | inl same ↦
          ap (λ b. if b then Some one else leaf_at q bodies) (eq-eqb q (length bodies) same)
          ∙ sym (push-same (reverse bodies) one)
          ∙ ap (slice_get (reverse bodies ++ one ∷ [])) (long ∙ sym same) ∙ pushed
      | inr apart ↦
          ap (λ b. if b then Some one else leaf_at q bodies) (ne_eqb q (length bodies) apart)
          ∙ leaf-from bodies q body
          (sym (push-other (reverse bodies) one q (λ same. apart (sym same ∙ long))) ∙ pushed)
    ]

-- the leaf that binds the newest body
pub leaf-newest : (bodies : List Body) (q : ℕ) (body : Body) → q ≡ length bodies
    → leaf_at q (body ∷ bodies) ≡ Some body
unfolding leaf_at
leaf-newest bodies q body same = ap (λ b. if b then Some body else leaf_at q bodies) (eq-eqb q (length bodies) same)

-- ---- what a wallet's leaf binds

module _ (dig : List ℕ → List ℕ) (s : Said) (log : List RootCall) (wallet : WalletRecords)
    (kept : KeptWallet dig s log wallet) where
  -- the number of its bound leaves
  pub used-is : used wallet ≡ length s.bound
  used-is = grind (arith, common_steps, length-map, length-reverse)

  message-is : (message : List ℕ) → Has (messages_of wallet.leaves) message → is_body message ≡ true
  message-is message has =
      All-contains (λ m. is_body m ≡ true) (messages_of wallet.leaves) message
      (messages_pass is_body (leaves_of wallet.notes) wallet.leaves wallet.leaves
      (wallet-parts dig wallet kept.is).leaves)
      (has-contains (messages_of wallet.leaves) message has)

  -- the message of a leaf is the bytes of a body, which the leaf binds
  pub record IsMessage (q : ℕ) (message : List ℕ) : Type 0 where
    pub body : Body
    pub text : message ≡ body_text body
    pub leaf : leaf_at q s.bound ≡ Some body

  pub message-body : (q : ℕ) (message : List ℕ) → slice_get (messages_of wallet.leaves) q ≡ Some message
      → IsMessage q message
  message-body q message at =
      let has = got-has (messages_of wallet.leaves) q message at in
      let read : List ℕ → LeafRecord = λ m. record { body = body_at_start m } in
      record {
        body = body_at_start message;
        text = body-spelled message (all-has Small (messages_of wallet.leaves) message kept.messages has)
            (message-is message has);
        leaf = leaf-from s.bound q (body_at_start message)
            (ap (λ (l : List Body). slice_get l q) (sym kept.bodies)
            ∙ slice_get-map (λ (leaf : LeafRecord). leaf.body) (leaves_in wallet.leaves) q
            ∙ ap (option_map (λ (leaf : LeafRecord). leaf.body))
            (slice_get-map read (messages_of wallet.leaves) q ∙ ap (option_map read) at));
      }

  -- the last leaf that names a coin has a message
  pub last-message : (coin q : ℕ) → last_leaf (leaves_in wallet.leaves) coin ≡ Some q
      → (message : List ℕ) × (slice_get (messages_of wallet.leaves) q ≡ Some message)
  last-message coin q found =
      let read : List ℕ → LeafRecord = λ m. record { body = body_at_start m } in
      let passes = (find-has (names_coin (leaves_in wallet.leaves) coin)
      (reverse (range_with_len 0 (length (leaves_in wallet.leaves)))) q found).1 in
      by (slice_get (messages_of wallet.leaves) q) refl
      (ap (λ (o : Option LeafRecord). option_map_or (λ (leaf : LeafRecord). leaf.body.coin == coin) o false)
      (sym (slice_get-map read (messages_of wallet.leaves) q)) ∙ passes)
    where
      by : (o : Option (List ℕ)) → slice_get (messages_of wallet.leaves) q ≡ o
          → option_map_or (λ (leaf : LeafRecord). leaf.body.coin == coin)
          (option_map (λ m. record { body = body_at_start m }) (slice_get (messages_of wallet.leaves) q)) false ≡ true
          → (message : List ℕ) × (slice_get (messages_of wallet.leaves) q ≡ Some message)
      by None none passes = grind (arith, common_steps, false≢true)
      by (Some message) some passes = (message, some)
