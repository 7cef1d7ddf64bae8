-- What holds of a wallet's records.
use Rattle.std.specs.Prelude.{◌≡◌, ℕ, ◌^◌, ◌<◌, true, List, [], ◌∷◌, ◌++◌, length, Some}
use Rattle.lms_sign.specs.Types.{is_supported}
use Rattle.plasma_tx.specs.Spelling.{AreBytes}
use Rattle.node_rules.specs.{declared.identity.WalletIdentity.{WalletIdentity}, Laws.{IsKeptCoin}, WalletRecords.{identity_text, identity_in, Note, Accepts, LeavesWith, Reclaims, note_text, note_in, who_is, notes_of}}

-- an identity of the type: a tag and a seed of 32 bytes, an account of 64 bits and a pair of types that keys may have
pub record IsIdentity (who : WalletIdentity) : Type 0 where
  pub tag : length who.tag ≡ 32
  pub account : who.account < 2 ^ 64
  pub seed : length who.seed ≡ 32
  pub types : is_supported who.types ≡ true

-- a note of a chain with that tag that has bytes: of a kept coin, of a coin and a tip of 64 bits, or of these and a
-- leaf of 32 bits
abbrev pub IsNote : (List ℕ → List ℕ) → List ℕ → Note → Type 0
IsNote dig tag (Accepts kept) = IsKeptCoin dig tag kept
IsNote dig tag (LeavesWith coin tip) = (coin < 2 ^ 64) × (tip < 2 ^ 64)
IsNote dig tag (Reclaims coin tip q) = (coin < 2 ^ 64) × (tip < 2 ^ 64) × (q < 2 ^ 32)

-- an identity's bytes are read as it, and the bytes that are read are its own
abbrev pub IdentitiesAreReadBack : Type 0
IdentitiesAreReadBack = (who : WalletIdentity) → IsIdentity who → identity_in (identity_text who) ≡ Some who

abbrev pub IdentitiesHaveOneSpelling : Type 0
IdentitiesHaveOneSpelling = (body : List ℕ) (who : WalletIdentity) → AreBytes body → identity_in body ≡ Some who
    → (body ≡ identity_text who) × IsIdentity who

-- so are notes
abbrev pub NotesAreReadBack : Type 0
NotesAreReadBack = (dig : List ℕ → List ℕ) (tag : List ℕ) (note : Note) → IsNote dig tag note
    → note_in dig tag (note_text note) ≡ Some note

abbrev pub NotesHaveOneSpelling : Type 0
NotesHaveOneSpelling = (dig : List ℕ → List ℕ) (tag body : List ℕ) (note : Note) → AreBytes body
    → note_in dig tag body ≡ Some note → (body ≡ note_text note) × IsNote dig tag note

-- ---- the role

-- a record that is read as this note behind the notes that were there; the identity stays
abbrev pub AddsNote : (List ℕ → List ℕ) → List (List ℕ) → Note → List ℕ → Type 0
AddsNote dig records note body =
    (who_is (records ++ body ∷ []) ≡ who_is records)
    × (notes_of dig (records ++ body ∷ []) ≡ note ∷ notes_of dig records)
