-- A watcher's identity and notes are read as they are written, and have one spelling.
use Rattle.node_rules.proofs.Words.{◌≡◌, ℕ, ◌<◌, ◌==◌, ◌&&◌, List, [], ◌∷◌, ◌++◌, Option, Some, None, length, refl, sym, ap, ◌∙◌, subst, inl, inr, append-nil, arith, slice_range, cases_Bool, and_parts, eqb-true, eq-eqb, length-append, take_all, All-tail, common_steps, AreBytes, number_text, number_at, some_same, length-range, bytes-range, number-below, Bundle, bundle_text, kept_in}
use Rattle.node_rules.specs.Watcher.{WatcherIdentity, identity_text, identity_in, Note, Guarded, Released, note_text, guarded, note_in}
use Rattle.node_rules.specs.WatcherLaws.{IsIdentity, IsNote, IdentitiesAreReadBack, IdentitiesHaveOneSpelling, NotesAreReadBack, NotesHaveOneSpelling}
use Rattle.node_rules.proofs.NumberTexts.{pair-first, pair-second, two-bytes, tag-read, account-read, tag-bytes}
use Rattle.node_rules.proofs.KeptTexts.{kept_in-text, kept_in-spelled}

-- ---- the identity

identity-known : (bytes : List ℕ) → length bytes ≡ 40
    → identity_in (17 ∷ bytes) ≡ Some (record { tag = slice_range bytes 0 32; account = number_at bytes 32 })
unfolding identity_in
identity-known bytes long = rw (eq-eqb (length bytes) 40 long) refl

pub identity_in-text : IdentitiesAreReadBack
unfolding identity_text
identity_in-text who h =
    let tag_long = h.tag in
    let none = append-nil (who.tag ++ number_text who.account) in
    let bytes : List ℕ = who.tag ++ number_text who.account in
    let tag_is : slice_range bytes 0 32 ≡ who.tag =
    ap (λ (l : List ℕ). slice_range l 0 32) (sym none) ∙ tag-read who.tag who.account [] h.tag in
    let account_is : number_at bytes 32 ≡ who.account =
    ap (λ (l : List ℕ). number_at l 32) (sym none) ∙ account-read who.tag who.account [] h.tag h.account in
    grind (arith, common_steps, identity-known, length-append) steps 20000

identity-text : (bytes : List ℕ) → AreBytes bytes → length bytes ≡ 40
    → (17 ∷ bytes ≡ identity_text (record { tag = slice_range bytes 0 32; account = number_at bytes 32 }))
    × IsIdentity (record { tag = slice_range bytes 0 32; account = number_at bytes 32 })
unfolding identity_text
identity-text bytes small long = (
  ap (λ (l : List ℕ). 17 ∷ l) (sym (tag-bytes bytes small (omega arith) ∙ take_all 40 bytes (omega arith))),
  record {
    tag = length-range bytes 0 32 (omega arith) (omega arith);
    account = number-below (slice_range bytes 32 40) (bytes-range bytes 32 40 small);
  },
)

pub identity_in-spelled : IdentitiesHaveOneSpelling
unfolding identity_in
identity_in-spelled [] who small h = absurd (cc h)
identity_in-spelled (mark ∷ bytes) who small h = elim (cases_Bool ((mark == 17) && (length bytes == 40))) [
  | inl on ↦
      let read : WatcherIdentity = record { tag = slice_range bytes 0 32; account = number_at bytes 32 } in
      let is : Some read ≡ Some who = rw on at h in
      let parts = and_parts (mark == 17) (length bytes == 40) on in
      let known = identity-text bytes (All-tail (λ byte. byte < 256) mark bytes small)
      (eqb-true (length bytes) 40 parts.1) in
      subst (λ (w : WatcherIdentity). (mark ∷ bytes ≡ identity_text w) × IsIdentity w) (some_same read who is)
      (ap (λ (n : ℕ). n ∷ bytes) (eqb-true mark 17 parts.0) ∙ known.0, known.1)
  | inr off ↦ let bad : None ≡ Some who = rw off at h in absurd (cc bad)
]

-- ---- notes

guarded-read : (dig : List ℕ → List ℕ) (tag bytes : List ℕ)
    → note_in dig tag (18 ∷ bytes) ≡ guarded (kept_in dig tag bytes)
unfolding note_in
guarded-read dig tag bytes = refl

released-read : (dig : List ℕ → List ℕ) (tag bytes : List ℕ) → length bytes ≡ 16
    → note_in dig tag (19 ∷ bytes) ≡ Some (Released (number_at bytes 0) (number_at bytes 8))
unfolding note_in
released-read dig tag bytes long = rw (eq-eqb (length bytes) 16 long) refl

-- the record of a release is read, whatever its numbers
pub released-some : (dig : List ℕ → List ℕ) (tag : List ℕ) (coin tip : ℕ)
    → note_in dig tag (note_text (Released coin tip))
    ≡ Some (Released (number_at (number_text coin ++ number_text tip) 0)
    (number_at (number_text coin ++ number_text tip) 8))
unfolding note_text
released-some dig tag coin tip = grind (arith, common_steps, released-read, length-append) steps 20000

pub note_in-text : NotesAreReadBack
unfolding note_text
note_in-text dig tag (Guarded kept) h =
    guarded-read dig tag (bundle_text kept) ∙ ap guarded (kept_in-text dig tag kept h)
note_in-text dig tag (Released coin tip) h =
    released-some dig tag coin tip
    ∙ (λ i. Some (Released (pair-first coin tip h.0 i) (pair-second coin tip h.1 i)))

guarded-some : (found : Option Bundle) (note : Note) → guarded found ≡ Some note
    → (kept : Bundle) × (found ≡ Some kept) × (Guarded kept ≡ note)
guarded-some None note is = absurd (cc is)
guarded-some (Some kept) note is = (kept, refl, some_same (Guarded kept) note is)

guarded-text : (dig : List ℕ → List ℕ) (tag bytes : List ℕ) (kept : Bundle) → AreBytes bytes
    → kept_in dig tag bytes ≡ Some kept
    → (18 ∷ bytes ≡ note_text (Guarded kept)) × IsNote dig tag (Guarded kept)
unfolding note_text
guarded-text dig tag bytes kept small is =
    let known = kept_in-spelled dig tag bytes kept small is in
    (ap (λ (l : List ℕ). 18 ∷ l) known.0, known.1)

released-text : (dig : List ℕ → List ℕ) (tag bytes : List ℕ) → AreBytes bytes → length bytes ≡ 16
    → (19 ∷ bytes ≡ note_text (Released (number_at bytes 0) (number_at bytes 8)))
    × IsNote dig tag (Released (number_at bytes 0) (number_at bytes 8))
unfolding note_text
released-text dig tag bytes small long = (
  ap (λ (l : List ℕ). 19 ∷ l) (sym (two-bytes bytes small (omega arith) ∙ take_all 16 bytes (omega arith))),
  (
    number-below (slice_range bytes 0 8) (bytes-range bytes 0 8 small),
    number-below (slice_range bytes 8 16) (bytes-range bytes 8 16 small),
  ),
)

pub note_in-spelled : NotesHaveOneSpelling
unfolding note_in
note_in-spelled dig tag [] note small h = absurd (cc h)
note_in-spelled dig tag (mark ∷ bytes) note small h =
    let behind = All-tail (λ byte. byte < 256) mark bytes small in
    let Is : Note → Type 0 = λ n. (mark ∷ bytes ≡ note_text n) × IsNote dig tag n in
    elim (cases_Bool (mark == 18)) [
      | inl guards ↦
          let is : guarded (kept_in dig tag bytes) ≡ Some note = rw guards at h in
          let found = guarded-some (kept_in dig tag bytes) note is in
          let known = guarded-text dig tag bytes found.0 behind found.1 in
          subst Is found.2 (ap (λ (n : ℕ). n ∷ bytes) (eqb-true mark 18 guards) ∙ known.0, known.1)
      | inr other ↦ elim (cases_Bool ((mark == 19) && (length bytes == 16))) [
        | inl releases ↦
            let is : Some (Released (number_at bytes 0) (number_at bytes 8)) ≡ Some note = rw (other, releases) at h in
            let parts = and_parts (mark == 19) (length bytes == 16) releases in
            let known = released-text dig tag bytes behind (eqb-true (length bytes) 16 parts.1) in
            subst Is (some_same (Released (number_at bytes 0) (number_at bytes 8)) note is)
            (ap (λ (n : ℕ). n ∷ bytes) (eqb-true mark 19 parts.0) ∙ known.0, known.1)
        | inr none ↦ let bad : None ≡ Some note = rw (other, none) at h in absurd (cc bad)
      ]
    ]
