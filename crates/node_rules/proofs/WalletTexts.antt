-- A wallet's identity and notes are read as they are written, and have one spelling.
use Rattle.node_rules.proofs.Words.{◌≡◌, ℕ, ◌^◌, ◌<◌, ◌==◌, ◌&&◌, ◌||◌, not, Bool, true, false, if◌then◌else◌, List, [], ◌∷◌, ◌++◌, Option, Some, None, length, drop, refl, sym, ap, ◌∙◌, subst, inl, inr, arith, slice_range, cases_Bool, and_parts, and_from, or_cases, eqb-true, eq-eqb, length-append, take_all, take-append-drop, length-drop, drop_at, All-tail, All-drop, common_steps, LmsTypes, is_supported, AreBytes, number_text, number_at, some_same, range-front, range-back, range-join, length-range, bytes-range, number-below, short_number-below, Bundle, bundle_text, WalletIdentity, kept_in}
use Rattle.node_rules.specs.WalletRecords.{short_text, short_at, is_first, common_text, identity_text, identity_of, types_in, may_be_second, identity_in, Note, Accepts, LeavesWith, Reclaims, note_text, accepts, note_in}
use Rattle.node_rules.specs.WalletLaws.{IsIdentity, IsNote, IdentitiesAreReadBack, IdentitiesHaveOneSpelling, NotesAreReadBack, NotesHaveOneSpelling}
use Rattle.node_rules.proofs.NumberTexts.{pair-first, pair-second, first-read, second-read, two-bytes, tag-read, account-read, tag-bytes, short-in, short-bytes}
use Rattle.node_rules.proofs.KeptTexts.{kept_in-text, kept_in-spelled}

-- ---- types

-- the types of the first form
first-types : (types : LmsTypes) → is_first types ≡ true → record { lms = 5; ots = 4 } ≡ types
first-types types is = grind (arith, common_steps, and_parts, eqb-true) steps 20000

short-of : (n one other : ℕ) → one < 2 ^ 32 → other < 2 ^ 32 → ((n == one) || (n == other)) ≡ true → n < 2 ^ 32
short-of n one other one_fits other_fits is = grind (arith, common_steps, or_cases, eqb-true) steps 20000

-- the numbers of types that keys may have are short
short-types : (types : LmsTypes) → is_supported types ≡ true → (types.lms < 2 ^ 32) × (types.ots < 2 ^ 32)
short-types types is = grind (arith, common_steps, and_parts, short-of) steps 20000

-- ---- the identity that its bytes spell

module _ (who : WalletIdentity) (h : IsIdentity who) where
  common-long : length (common_text who) ≡ 72
  common-long = grind (arith, common_steps, length-append) steps 20000

  -- the fields behind the types
  fields-read : identity_of who.types (common_text who) ≡ who
  fields-read =
      let tag_long = h.tag in
      let seed_long = h.seed in
      let tag : slice_range (common_text who) 0 32 ≡ who.tag = tag-read who.tag who.account who.seed h.tag in
      let account : number_at (common_text who) 32 ≡ who.account =
      account-read who.tag who.account who.seed h.tag h.account in
      let seed : slice_range (common_text who) 40 72 ≡ who.seed =
      range-back (who.tag ++ number_text who.account) who.seed 40 72
      (omega (arith, length-append who.tag (number_text who.account))) (omega arith) in
      λ i. record { tag = tag i; account = account i; seed = seed i; types = who.types }

  -- the types in front of them
  abbrev numbers : List ℕ
  numbers = short_text who.types.lms ++ short_text who.types.ots

  types-read : types_in (numbers ++ common_text who) ≡ who.types
  types-read =
      let short = short-types who.types h.types in
      grind (arith, common_steps, short-in, range-front, take_all, range-back) steps 20000

first-known : (bytes : List ℕ) → length bytes ≡ 72
    → identity_in (1 ∷ bytes) ≡ Some (identity_of (record { lms = 5; ots = 4 }) bytes)
unfolding identity_in
first-known bytes long = rw (eq-eqb (length bytes) 72 long) refl

second-known : (bytes : List ℕ) → length bytes ≡ 80 → may_be_second (types_in bytes) ≡ true
    → identity_in (4 ∷ bytes) ≡ Some (identity_of (types_in bytes) (drop 8 bytes))
unfolding identity_in
second-known bytes long may = rw (eq-eqb (length bytes) 80 long, may) refl

pub identity_in-text : IdentitiesAreReadBack
unfolding identity_text
identity_in-text who h = at (is_first who.types) refl
  where
    front : List ℕ
    front = numbers who h

    at : (b : Bool) → is_first who.types ≡ b
        → identity_in (if b then 1 ∷ common_text who else 4 ∷ front ++ common_text who) ≡ Some who
    at true is =
        first-known (common_text who) (common-long who h)
        ∙ ap (λ (types : LmsTypes). Some (identity_of types (common_text who))) (first-types who.types is)
        ∙ ap (λ (w : WalletIdentity). Some w) (fields-read who h)
    at false isnt =
        let long = common-long who h in
        let types = types-read who h in
        second-known (front ++ common_text who) (omega (arith, length-append front (common_text who)))
        (grind (arith, common_steps, and_from) steps 20000)
        ∙ (λ i. Some (identity_of (types i) (drop_at front (common_text who) 8 refl i)))
        ∙ ap (λ (w : WalletIdentity). Some w) (fields-read who h)

-- ---- bytes that are read as an identity are its own

module _ (types : LmsTypes) (bytes : List ℕ) (small : AreBytes bytes) (long : length bytes ≡ 72) where
  fields-text : common_text (identity_of types bytes) ≡ bytes
  fields-text =
      ap (λ (front : List ℕ). front ++ slice_range bytes 40 72) (tag-bytes bytes small (omega arith))
      ∙ range-join bytes 40 72 (omega arith) ∙ take_all 72 bytes (omega arith)

  fields-are : is_supported types ≡ true → IsIdentity (identity_of types bytes)
  fields-are may = record {
    tag = length-range bytes 0 32 (omega arith) (omega arith);
    account = number-below (slice_range bytes 32 40) (bytes-range bytes 32 40 small);
    seed = length-range bytes 40 72 (omega arith) (omega arith);
    types = may;
  }

first-text : (bytes : List ℕ) → AreBytes bytes → length bytes ≡ 72
    → (1 ∷ bytes ≡ identity_text (identity_of (record { lms = 5; ots = 4 }) bytes))
    × IsIdentity (identity_of (record { lms = 5; ots = 4 }) bytes)
unfolding identity_text
first-text bytes small long = (
  ap (λ (l : List ℕ). 1 ∷ l) (sym (fields-text (record { lms = 5; ots = 4 }) bytes small long)),
  fields-are (record { lms = 5; ots = 4 }) bytes small long refl,
)

not-false : (b : Bool) → not b ≡ true → b ≡ false
not-false true is = absurd (cc is)
not-false false is = refl

second-text : (bytes : List ℕ) → AreBytes bytes → length bytes ≡ 80 → may_be_second (types_in bytes) ≡ true
    → (4 ∷ bytes ≡ identity_text (identity_of (types_in bytes) (drop 8 bytes)))
    × IsIdentity (identity_of (types_in bytes) (drop 8 bytes))
unfolding identity_text
second-text bytes small long may =
    let types = types_in bytes in
    let rest = drop 8 bytes in
    let parts = and_parts (is_supported types) (not (is_first types)) may in
    let other = not-false (is_first types) parts.1 in
    let rest_small = All-drop (λ byte. byte < 256) 8 bytes small in
    let rest_long : length rest ≡ 72 = omega (arith, length-drop 8 bytes) in
    let lms = short-bytes bytes 0 4 small refl (omega arith) in
    let ots = short-bytes bytes 4 8 small refl (omega arith) in
    let whole : short_text types.lms ++ short_text types.ots ++ common_text (identity_of types rest) ≡ bytes =
    (λ i. lms i ++ ots i ++ fields-text types rest rest_small rest_long i)
    ∙ ap (λ (front : List ℕ). front ++ rest) (range-join bytes 4 8 (omega arith))
    ∙ take-append-drop 8 bytes in (
      rw other (ap (λ (l : List ℕ). 4 ∷ l) (sym whole)),
      fields-are types rest rest_small rest_long parts.0,
    )

pub identity_in-spelled : IdentitiesHaveOneSpelling
unfolding identity_in
identity_in-spelled [] who small h = absurd (cc h)
identity_in-spelled (mark ∷ bytes) who small h =
    let behind = All-tail (λ byte. byte < 256) mark bytes small in
    let Is : WalletIdentity → Type 0 = λ w. (mark ∷ bytes ≡ identity_text w) × IsIdentity w in
    let one : WalletIdentity = identity_of (record { lms = 5; ots = 4 }) bytes in
    let two : WalletIdentity = identity_of (types_in bytes) (drop 8 bytes) in
    elim (cases_Bool ((mark == 1) && (length bytes == 72))) [
      | inl first ↦
          let is : Some one ≡ Some who = rw first at h in
          let parts = and_parts (mark == 1) (length bytes == 72) first in
          let known = first-text bytes behind (eqb-true (length bytes) 72 parts.1) in
          subst Is (some_same one who is) (ap (λ (n : ℕ). n ∷ bytes) (eqb-true mark 1 parts.0) ∙ known.0, known.1)
      | inr other ↦ elim (cases_Bool ((mark == 4) && (length bytes == 80) && may_be_second (types_in bytes))) [
        | inl second ↦
            let is : Some two ≡ Some who = rw (other, second) at h in
            let parts = and_parts ((mark == 4) && (length bytes == 80)) (may_be_second (types_in bytes)) second in
            let front = and_parts (mark == 4) (length bytes == 80) parts.0 in
            let known = second-text bytes behind (eqb-true (length bytes) 80 front.1) parts.1 in
            subst Is (some_same two who is) (ap (λ (n : ℕ). n ∷ bytes) (eqb-true mark 4 front.0) ∙ known.0, known.1)
        | inr none ↦ let bad : None ≡ Some who = rw (other, none) at h in absurd (cc bad)
      ]
    ]

-- ---- notes

accepts-read : (dig : List ℕ → List ℕ) (tag bytes : List ℕ)
    → note_in dig tag (2 ∷ bytes) ≡ accepts (kept_in dig tag bytes)
unfolding note_in
accepts-read dig tag bytes = refl

leaves-read : (dig : List ℕ → List ℕ) (tag bytes : List ℕ) → length bytes ≡ 16
    → note_in dig tag (3 ∷ bytes) ≡ Some (LeavesWith (number_at bytes 0) (number_at bytes 8))
unfolding note_in
leaves-read dig tag bytes long = rw (eq-eqb (length bytes) 16 long) refl

reclaims-read : (dig : List ℕ → List ℕ) (tag bytes : List ℕ) → length bytes ≡ 20
    → note_in dig tag (5 ∷ bytes) ≡ Some (Reclaims (number_at bytes 0) (number_at bytes 8) (short_at bytes 16))
unfolding note_in
reclaims-read dig tag bytes long = rw (eq-eqb (length bytes) 20 long) refl

-- the record of a leaving is read, whatever its numbers
pub leaves-some : (dig : List ℕ → List ℕ) (tag : List ℕ) (coin tip : ℕ)
    → note_in dig tag (note_text (LeavesWith coin tip))
    ≡ Some (LeavesWith (number_at (number_text coin ++ number_text tip) 0)
    (number_at (number_text coin ++ number_text tip) 8))
unfolding note_text
leaves-some dig tag coin tip = grind (arith, common_steps, leaves-read, length-append) steps 20000

short-read : (coin tip q : ℕ) → q < 2 ^ 32 → short_at (number_text coin ++ number_text tip ++ short_text q) 16 ≡ q
short-read coin tip q small = grind (arith, common_steps, short-in, range-back, length-append) steps 20000

pub note_in-text : NotesAreReadBack
unfolding note_text
note_in-text dig tag (Accepts kept) h =
    accepts-read dig tag (bundle_text kept) ∙ ap accepts (kept_in-text dig tag kept h)
note_in-text dig tag (LeavesWith coin tip) h =
    leaves-some dig tag coin tip
    ∙ (λ i. Some (LeavesWith (pair-first coin tip h.0 i) (pair-second coin tip h.1 i)))
note_in-text dig tag (Reclaims coin tip q) h =
    reclaims-read dig tag (number_text coin ++ number_text tip ++ short_text q)
    (grind (arith, common_steps, length-append) steps 20000)
    ∙ (λ i. Some (Reclaims (first-read coin tip (short_text q) h.0 i) (second-read coin tip (short_text q) h.1 i)
    (short-read coin tip q h.2 i)))

accepts-some : (found : Option Bundle) (note : Note) → accepts found ≡ Some note
    → (kept : Bundle) × (found ≡ Some kept) × (Accepts kept ≡ note)
accepts-some None note is = absurd (cc is)
accepts-some (Some kept) note is = (kept, refl, some_same (Accepts kept) note is)

accepts-text : (dig : List ℕ → List ℕ) (tag bytes : List ℕ) (kept : Bundle) → AreBytes bytes
    → kept_in dig tag bytes ≡ Some kept
    → (2 ∷ bytes ≡ note_text (Accepts kept)) × IsNote dig tag (Accepts kept)
unfolding note_text
accepts-text dig tag bytes kept small is =
    let known = kept_in-spelled dig tag bytes kept small is in
    (ap (λ (l : List ℕ). 2 ∷ l) known.0, known.1)

leaves-text : (dig : List ℕ → List ℕ) (tag bytes : List ℕ) → AreBytes bytes → length bytes ≡ 16
    → (3 ∷ bytes ≡ note_text (LeavesWith (number_at bytes 0) (number_at bytes 8)))
    × IsNote dig tag (LeavesWith (number_at bytes 0) (number_at bytes 8))
unfolding note_text
leaves-text dig tag bytes small long = (
  ap (λ (l : List ℕ). 3 ∷ l) (sym (two-bytes bytes small (omega arith) ∙ take_all 16 bytes (omega arith))),
  (
    number-below (slice_range bytes 0 8) (bytes-range bytes 0 8 small),
    number-below (slice_range bytes 8 16) (bytes-range bytes 8 16 small),
  ),
)

reclaims-text : (dig : List ℕ → List ℕ) (tag bytes : List ℕ) → AreBytes bytes → length bytes ≡ 20
    → (5 ∷ bytes ≡ note_text (Reclaims (number_at bytes 0) (number_at bytes 8) (short_at bytes 16)))
    × IsNote dig tag (Reclaims (number_at bytes 0) (number_at bytes 8) (short_at bytes 16))
unfolding note_text
reclaims-text dig tag bytes small long =
    let front = two-bytes bytes small (omega arith) in
    let last = short-bytes bytes 16 20 small refl (omega arith) in
    let whole : number_text (number_at bytes 0) ++ number_text (number_at bytes 8) ++ short_text (short_at bytes 16)
    ≡ bytes =
    (λ i. front i ++ last i) ∙ range-join bytes 16 20 (omega arith) ∙ take_all 20 bytes (omega arith) in (
      ap (λ (l : List ℕ). 5 ∷ l) (sym whole),
      (
        number-below (slice_range bytes 0 8) (bytes-range bytes 0 8 small),
        number-below (slice_range bytes 8 16) (bytes-range bytes 8 16 small),
        short_number-below (slice_range bytes 16 20) (bytes-range bytes 16 20 small),
      ),
    )

pub note_in-spelled : NotesHaveOneSpelling
unfolding note_in
note_in-spelled dig tag [] note small h = absurd (cc h)
note_in-spelled dig tag (mark ∷ bytes) note small h =
    let behind = All-tail (λ byte. byte < 256) mark bytes small in
    let Is : Note → Type 0 = λ n. (mark ∷ bytes ≡ note_text n) × IsNote dig tag n in
    let marked : (n : ℕ) → (mark == n) ≡ true → mark ∷ bytes ≡ n ∷ bytes =
    λ n is. ap (λ (m : ℕ). m ∷ bytes) (eqb-true mark n is) in
    elim (cases_Bool (mark == 2)) [
      | inl takes ↦
          let is : accepts (kept_in dig tag bytes) ≡ Some note = rw takes at h in
          let found = accepts-some (kept_in dig tag bytes) note is in
          let known = accepts-text dig tag bytes found.0 behind found.1 in
          subst Is found.2 (marked 2 takes ∙ known.0, known.1)
      | inr other ↦ elim (cases_Bool ((mark == 3) && (length bytes == 16))) [
        | inl leaves ↦
            let read : Note = LeavesWith (number_at bytes 0) (number_at bytes 8) in
            let is : Some read ≡ Some note = rw (other, leaves) at h in
            let parts = and_parts (mark == 3) (length bytes == 16) leaves in
            let known = leaves-text dig tag bytes behind (eqb-true (length bytes) 16 parts.1) in
            subst Is (some_same read note is) (marked 3 parts.0 ∙ known.0, known.1)
        | inr neither ↦ elim (cases_Bool ((mark == 5) && (length bytes == 20))) [
          | inl reclaims ↦
              let read : Note = Reclaims (number_at bytes 0) (number_at bytes 8) (short_at bytes 16) in
              let is : Some read ≡ Some note = rw (other, neither, reclaims) at h in
              let parts = and_parts (mark == 5) (length bytes == 20) reclaims in
              let known = reclaims-text dig tag bytes behind (eqb-true (length bytes) 20 parts.1) in
              subst Is (some_same read note is) (marked 5 parts.0 ∙ known.0, known.1)
          | inr none ↦ let bad : None ≡ Some note = rw (other, neither, none) at h in absurd (cc bad)
        ]
      ]
    ]
