-- The operator's records: an identity, and then notes. Each has one spelling.
use Rattle.std.specs.Prelude.{ℕ, ◌==◌, ◌&&◌, Bool, true, false, nat_le, if◌then◌else◌, List, [], ◌∷◌, ◌++◌, length, drop, reverse, slice_range, Option, Some, None, is_some, Result, Ok, Err}
use Rattle.std.specs.List.{filter_map}
use Rattle.std.specs.Option.{option_map_or}
use Rattle.node_journal.specs.Role.{Kinds}
use Rattle.plasma_tx.specs.{declared.signed_tx.SignedTx.{SignedTx}, declared.signed_tx.TxRefusal.{TxRefusal}, Spelling.{number_text, number_at, signed_in}}

-- ---- the identity

-- the chain's tag, the operator's account, and the seed of its key, if it has one
pub record Identity : Type 0 where
  pub tag : List ℕ
  pub account : ℕ
  pub key_seed : Option (List ℕ)

-- the bytes of an identity: those of one with a key begin otherwise, and have the seed at the end
abbrev pub identity_mark : Option (List ℕ) → ℕ
identity_mark None = 33
identity_mark (Some seed) = 38

abbrev pub seed_text : Option (List ℕ) → List ℕ
seed_text None = []
seed_text (Some seed) = seed

unfoldable pub identity_text : Identity → List ℕ
identity_text who = identity_mark who.key_seed ∷ who.tag ++ number_text who.account ++ seed_text who.key_seed

-- what follows the first byte, with this seed
abbrev pub identity_of : List ℕ → Option (List ℕ) → Identity
identity_of bytes seed = record { tag = slice_range bytes 0 32; account = number_at bytes 32; key_seed = seed }

-- the identity that bytes spell
unfoldable pub identity_in : List ℕ → Option Identity
identity_in [] = None
identity_in (mark ∷ bytes) =
    if (mark == 33) && (length bytes == 40) then Some (identity_of bytes None)
    else if (mark == 38) && (length bytes == 72) then Some (identity_of bytes (Some (slice_range bytes 40 72)))
    else None

-- ---- notes

-- a transfer was offered, bytes were laid at a coin, or the pool was sealed
pub data Note : Type 0 where
  Offered : List ℕ → Note
  Laid : ℕ → List ℕ → Note
  Sealed : Note

unfoldable pub note_text : Note → List ℕ
note_text (Offered bytes) = 34 ∷ bytes
note_text (Laid coin bytes) = 35 ∷ number_text coin ++ bytes
note_text Sealed = 36 ∷ []

-- the bytes spell a signed transfer with that tag
abbrev pub is_read : Result SignedTx TxRefusal → Bool
is_read (Ok tx) = true
is_read (Err why) = false

abbrev pub spells_transfer : List ℕ → List ℕ → Bool
spells_transfer tag bytes = is_read (signed_in tag bytes)

-- the note that bytes spell for a chain with that tag
unfoldable pub note_in : List ℕ → List ℕ → Option Note
note_in tag [] = None
note_in tag (mark ∷ bytes) =
    if (mark == 34) && spells_transfer tag bytes then Some (Offered bytes)
    else if (mark == 35) && nat_le 8 (length bytes) then Some (Laid (number_at bytes 0) (drop 8 bytes))
    else if (mark == 36) && (length bytes == 0) then Some Sealed
    else None

-- ---- all records

-- the tag of an identity's bytes; empty where they spell none
abbrev pub tag_in : List ℕ → List ℕ
tag_in body = option_map_or (λ who. who.tag) (identity_in body) []

-- which records are the operator's
abbrev pub operator_kinds : Kinds
operator_kinds = record {
  is_identity = λ body. is_some (identity_in body);
  is_note = λ identity body. is_some (note_in (tag_in identity) body);
}

-- the identity of records
unfoldable pub who_is : List (List ℕ) → Identity
who_is [] = record { tag = []; account = 0; key_seed = None }
who_is (body ∷ bodies) =
    option_map_or (λ who. who) (identity_in body) (record { tag = []; account = 0; key_seed = None })

-- the notes of records, the newest first
unfoldable pub notes_of : List (List ℕ) → List Note
notes_of records = reverse (filter_map (note_in (who_is records).tag) (drop 1 records))
