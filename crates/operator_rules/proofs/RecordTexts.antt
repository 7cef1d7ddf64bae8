-- Identities and notes are read as they are written, and have one spelling.
use Rattle.operator_rules.proofs.Words.{◌≡◌, ℕ, ◌+◌, ◌^◌, ◌<◌, ◌≤◌, ◌==◌, ◌&&◌, true, List, [], ◌∷◌, ◌++◌, Option, Some, None, length, take, drop, refl, sym, ap, ◌∙◌, subst, inl, inr, append-nil, arith, IfSome, nat_le, slice_range, cases_Bool, and_parts, eqb-true, eq-eqb, leb-true, le-leb, length-append, take_all, take-append-drop, All-tail, common_steps, AreBytes, number_text, number_at, signed_in, some_same, range-front, range-back, range-join, length-range, bytes-range, number-below, number-bytes, number-in, Identity, identity_text, identity_of, identity_in, Note, Offered, Laid, Sealed, note_text, is_read, spells_transfer, note_in}
use Rattle.operator_rules.specs.Laws.{IsIdentity, IsNote}

-- ---- an identity's bytes are read as that identity

module _ (tag : List ℕ) (account : ℕ) (rest : List ℕ) (tag_long : length tag ≡ 32) (small : account < 2 ^ 64) where
  read_tag : slice_range (tag ++ number_text account ++ rest) 0 32 ≡ tag
  read_tag =
      range-front (tag ++ number_text account) rest 0 32 (omega arith)
      (omega (arith, length-append tag (number_text account)))
      ∙ range-front tag (number_text account) 0 32 (omega arith) (omega arith)
      ∙ take_all 32 tag (omega arith)

  read_account : number_at (tag ++ number_text account ++ rest) 32 ≡ account
  read_account =
      number-in (tag ++ number_text account ++ rest) 32 account small
      (range-front (tag ++ number_text account) rest 32 40 (omega arith)
      (omega (arith, length-append tag (number_text account)))
      ∙ range-back tag (number_text account) 32 40 tag_long refl)

  read_seed : length rest ≡ 32 → slice_range (tag ++ number_text account ++ rest) 40 72 ≡ rest
  read_seed long =
      range-back (tag ++ number_text account) rest 40 72 (omega (arith, length-append tag (number_text account)))
      (omega arith)

  long-text : length (tag ++ number_text account ++ rest) ≡ 40 + length rest
  long-text =
      omega (arith, length-append (tag ++ number_text account) rest, length-append tag (number_text account))

-- the identity without a seed, and with one, that bytes of that length spell
plain-read : (bytes : List ℕ) → length bytes ≡ 40 → identity_in (33 ∷ bytes) ≡ Some (identity_of bytes None)
unfolding identity_in
plain-read bytes long = rw (eq-eqb (length bytes) 40 long) refl

keyed-read : (bytes : List ℕ) → length bytes ≡ 72
    → identity_in (38 ∷ bytes) ≡ Some (identity_of bytes (Some (slice_range bytes 40 72)))
unfolding identity_in
keyed-read bytes long = rw (eq-eqb (length bytes) 72 long) refl

identity_in-of : (tag : List ℕ) (account : ℕ) (key_seed : Option (List ℕ))
    → IsIdentity (record { tag = tag; account = account; key_seed = key_seed })
    → identity_in (identity_text (record { tag = tag; account = account; key_seed = key_seed }))
    ≡ Some (record { tag = tag; account = account; key_seed = key_seed })
unfolding identity_text
identity_in-of tag account None h =
    let long = long-text tag account [] h.tag h.account in
    grind (arith, common_steps, plain-read, read_tag, read_account) steps 20000
identity_in-of tag account (Some seed) h =
    let long = long-text tag account seed h.tag h.account in
    let seed_long : length seed ≡ 32 = h.key_seed in
    keyed-read (tag ++ number_text account ++ seed) (omega arith)
    ∙ (λ i. Some (record {
      tag = read_tag tag account seed h.tag h.account i;
      account = read_account tag account seed h.tag h.account i;
      key_seed = Some (read_seed tag account seed h.tag h.account seed_long i);
    }))

pub identity_in-text : (who : Identity) → IsIdentity who → identity_in (identity_text who) ≡ Some who
identity_in-text who h = identity_in-of who.tag who.account who.key_seed h

-- ---- bytes that are read as an identity are its own

module _ (bytes : List ℕ) (small : AreBytes bytes) (long : 40 ≤ length bytes) where
  read_front : slice_range bytes 0 32 ++ number_text (number_at bytes 32) ≡ take 40 bytes
  read_front =
      ap (λ (part : List ℕ). take 32 bytes ++ part) (number-bytes (slice_range bytes 32 40)
      (bytes-range bytes 32 40 small) (length-range bytes 32 40 (omega arith) (omega arith)))
      ∙ range-join bytes 32 40 (omega arith)

  read_is : (key_seed : Option (List ℕ)) → IfSome key_seed (λ seed. length seed ≡ 32)
      → IsIdentity (identity_of bytes key_seed)
  read_is key_seed seed_long = record {
    tag = length-range bytes 0 32 (omega arith) (omega arith);
    account = number-below (slice_range bytes 32 40) (bytes-range bytes 32 40 small);
    key_seed = seed_long;
  }

plain_text : (bytes : List ℕ) → AreBytes bytes → length bytes ≡ 40
    → (33 ∷ bytes ≡ identity_text (identity_of bytes None)) × IsIdentity (identity_of bytes None)
unfolding identity_text
plain_text bytes small long =
    let whole : slice_range bytes 0 32 ++ number_text (number_at bytes 32) ++ [] ≡ bytes =
    ap (λ (front : List ℕ). front ++ []) (read_front bytes small (omega arith))
    ∙ append-nil (take 40 bytes) ∙ take_all 40 bytes (omega arith) in
    (ap (λ (l : List ℕ). 33 ∷ l) (sym whole), read_is bytes small (omega arith) None tt)

keyed_text : (bytes : List ℕ) → AreBytes bytes → length bytes ≡ 72
    → (38 ∷ bytes ≡ identity_text (identity_of bytes (Some (slice_range bytes 40 72))))
    × IsIdentity (identity_of bytes (Some (slice_range bytes 40 72)))
unfolding identity_text
keyed_text bytes small long =
    let whole : slice_range bytes 0 32 ++ number_text (number_at bytes 32) ++ slice_range bytes 40 72 ≡ bytes =
    ap (λ (front : List ℕ). front ++ slice_range bytes 40 72) (read_front bytes small (omega arith))
    ∙ range-join bytes 40 72 (omega arith) ∙ take_all 72 bytes (omega arith) in (
      ap (λ (l : List ℕ). 38 ∷ l) (sym whole),
      read_is bytes small (omega arith) (Some (slice_range bytes 40 72))
          (length-range bytes 40 72 (omega arith) (omega arith)),
    )

pub identity_text-in : (body : List ℕ) (who : Identity) → AreBytes body → identity_in body ≡ Some who
    → (body ≡ identity_text who) × IsIdentity who
unfolding identity_in
identity_text-in [] who small h = absurd (cc h)
identity_text-in (mark ∷ bytes) who small h =
    let behind = All-tail (λ byte. byte < 256) mark bytes small in
    elim (cases_Bool ((mark == 33) && (length bytes == 40))) [
      | inl plain ↦
          let is : Some (identity_of bytes None) ≡ Some who = rw plain at h in
          let parts = and_parts (mark == 33) (length bytes == 40) plain in
          let known = plain_text bytes behind (eqb-true (length bytes) 40 parts.1) in
          subst (λ (w : Identity). (mark ∷ bytes ≡ identity_text w) × IsIdentity w)
          (some_same (identity_of bytes None) who is)
          (ap (λ (n : ℕ). n ∷ bytes) (eqb-true mark 33 parts.0) ∙ known.0, known.1)
      | inr other ↦ elim (cases_Bool ((mark == 38) && (length bytes == 72))) [
        | inl keyed ↦
            let is : Some (identity_of bytes (Some (slice_range bytes 40 72))) ≡ Some who = rw (other, keyed) at h in
            let parts = and_parts (mark == 38) (length bytes == 72) keyed in
            let known = keyed_text bytes behind (eqb-true (length bytes) 72 parts.1) in
            subst (λ (w : Identity). (mark ∷ bytes ≡ identity_text w) × IsIdentity w)
            (some_same (identity_of bytes (Some (slice_range bytes 40 72))) who is)
            (ap (λ (n : ℕ). n ∷ bytes) (eqb-true mark 38 parts.0) ∙ known.0, known.1)
        | inr neither ↦ let bad : None ≡ Some who = rw (other, neither) at h in absurd (cc bad)
      ]
    ]

-- ---- a note's bytes are read as that note

pub offered-read : (tag bytes : List ℕ) → is_read (signed_in tag bytes) ≡ true
    → note_in tag (note_text (Offered bytes)) ≡ Some (Offered bytes)
unfolding note_in note_text
offered-read tag bytes is = rw is refl

long-read : (tag bytes : List ℕ) → nat_le 8 (length bytes) ≡ true
    → note_in tag (35 ∷ bytes) ≡ Some (Laid (number_at bytes 0) (drop 8 bytes))
unfolding note_in
long-read tag bytes is = rw is refl

pub laid-some : (tag : List ℕ) (coin : ℕ) (bytes : List ℕ)
    → note_in tag (note_text (Laid coin bytes)) ≡ Some (Laid (number_at (number_text coin ++ bytes) 0) bytes)
unfolding note_text
laid-some tag coin bytes =
    long-read tag (number_text coin ++ bytes) (le-leb 8 (length (number_text coin ++ bytes)) (omega arith))

pub laid-read : (tag : List ℕ) (coin : ℕ) (bytes : List ℕ) → coin < 2 ^ 64
    → note_in tag (note_text (Laid coin bytes)) ≡ Some (Laid coin bytes)
laid-read tag coin bytes small =
    laid-some tag coin bytes
    ∙ ap (λ (n : ℕ). Some (Laid n bytes)) (number-in (number_text coin ++ bytes) 0 coin small refl)

pub sealed-read : (tag : List ℕ) → note_in tag (note_text Sealed) ≡ Some Sealed
unfolding note_in note_text
sealed-read tag = refl

pub note_in-text : (tag : List ℕ) (note : Note) → IsNote tag note → note_in tag (note_text note) ≡ Some note
note_in-text tag note h = grind (arith, common_steps, offered-read, laid-read, sealed-read) steps 20000

-- ---- bytes that are read as a note are its own

laid_text : (tag bytes : List ℕ) → AreBytes bytes → 8 ≤ length bytes
    → (35 ∷ bytes ≡ note_text (Laid (number_at bytes 0) (drop 8 bytes)))
    × IsNote tag (Laid (number_at bytes 0) (drop 8 bytes))
unfolding note_text
laid_text tag bytes small long =
    let coin : number_text (number_at bytes 0) ≡ take 8 bytes = number-bytes (take 8 bytes)
    (bytes-range bytes 0 8 small) (length-range bytes 0 8 (omega arith) (omega arith)) in
    let whole : number_text (number_at bytes 0) ++ drop 8 bytes ≡ bytes =
    ap (λ (front : List ℕ). front ++ drop 8 bytes) coin ∙ take-append-drop 8 bytes in
    (ap (λ (l : List ℕ). 35 ∷ l) (sym whole), number-below (take 8 bytes) (bytes-range bytes 0 8 small))

pub note_text-in : (tag body : List ℕ) (note : Note) → AreBytes body → note_in tag body ≡ Some note
    → (body ≡ note_text note) × IsNote tag note
unfolding note_in note_text
note_text-in tag [] note small h = absurd (cc h)
note_text-in tag (mark ∷ bytes) note small h = elim (cases_Bool ((mark == 34) && spells_transfer tag bytes)) [
  | inl offers ↦
      let is : Some (Offered bytes) ≡ Some note = rw offers at h in
      let parts = and_parts (mark == 34) (spells_transfer tag bytes) offers in
      subst (λ (n : Note). (mark ∷ bytes ≡ note_text n) × IsNote tag n) (some_same (Offered bytes) note is)
      (ap (λ (n : ℕ). n ∷ bytes) (eqb-true mark 34 parts.0), parts.1)
  | inr other ↦ elim (cases_Bool ((mark == 35) && nat_le 8 (length bytes))) [
    | inl lays ↦
        let is : Some (Laid (number_at bytes 0) (drop 8 bytes)) ≡ Some note = rw (other, lays) at h in
        let parts = and_parts (mark == 35) (nat_le 8 (length bytes)) lays in
        let known = laid_text tag bytes (All-tail (λ byte. byte < 256) mark bytes small)
        (leb-true 8 (length bytes) parts.1) in
        subst (λ (n : Note). (mark ∷ bytes ≡ note_text n) × IsNote tag n)
        (some_same (Laid (number_at bytes 0) (drop 8 bytes)) note is)
        (ap (λ (n : ℕ). n ∷ bytes) (eqb-true mark 35 parts.0) ∙ known.0, known.1)
    | inr neither ↦ elim (cases_Bool ((mark == 36) && (length bytes == 0))) [
      | inl seals ↦
          let is : Some Sealed ≡ Some note = rw (other, neither, seals) at h in
          let parts = and_parts (mark == 36) (length bytes == 0) seals in
          let none = eqb-true (length bytes) 0 parts.1 in
          let empty : bytes ≡ [] = sym (take_all 0 bytes (omega arith)) in
          grind (arith, common_steps, some_same, eqb-true) steps 20000
      | inr none ↦ let bad : None ≡ Some note = rw (other, neither, none) at h in absurd (cc bad)
    ]
  ]
]
