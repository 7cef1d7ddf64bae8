-- What holds of the operator's records.
use Rattle.std.specs.Prelude.{◌≡◌, ℕ, ◌^◌, ◌<◌, true, List, length, Some, IfSome}
use Rattle.plasma_tx.specs.Spelling.{AreBytes}
use Rattle.operator_rules.specs.Records.{Identity, identity_text, identity_in, Note, Offered, Laid, Sealed, note_text, note_in, spells_transfer}

-- an identity of the type: a tag of 32 bytes, an account of 64 bits, and a seed of 32 bytes, if there is one
pub record IsIdentity (who : Identity) : Type 0 where
  pub tag : length who.tag ≡ 32
  pub account : who.account < 2 ^ 64
  pub key_seed : IfSome who.key_seed (λ seed. length seed ≡ 32)

-- a note of a chain with that tag: an offered transfer reads, and bytes are laid at a coin of 64 bits
abbrev pub IsNote : List ℕ → Note → Type 0
IsNote tag (Offered bytes) = spells_transfer tag bytes ≡ true
IsNote tag (Laid coin bytes) = coin < 2 ^ 64
IsNote tag Sealed = Unit {0}

-- an identity's bytes are read as it, and the bytes that are read are its own
abbrev pub IdentitiesAreReadBack : Type 0
IdentitiesAreReadBack = (who : Identity) → IsIdentity who → identity_in (identity_text who) ≡ Some who

abbrev pub IdentitiesHaveOneSpelling : Type 0
IdentitiesHaveOneSpelling = (body : List ℕ) (who : Identity) → AreBytes body → identity_in body ≡ Some who
    → (body ≡ identity_text who) × IsIdentity who

-- so are notes
abbrev pub NotesAreReadBack : Type 0
NotesAreReadBack = (tag : List ℕ) (note : Note) → IsNote tag note → note_in tag (note_text note) ≡ Some note

abbrev pub NotesHaveOneSpelling : Type 0
NotesHaveOneSpelling = (tag body : List ℕ) (note : Note) → AreBytes body → note_in tag body ≡ Some note
    → (body ≡ note_text note) × IsNote tag note
