-- A wallet's records: notes, of which the first is the identity, and leaves, each of which binds a body.
use Rattle.std.specs.Prelude.{ℕ, ◌+◌, ◌==◌, ◌&&◌, ◌||◌, not, Bool, true, false, if◌then◌else◌, List, [], ◌∷◌, ◌++◌, length, map, drop, take, reverse, slice_get, slice_range, Option, Some, None, is_some}
use Rattle.std.specs.Int.{w32, to_be_bytes, from_be_bytes}
use Rattle.std.specs.List.{list_all, filter_map}
use Rattle.std.specs.Option.{option_map_or}
use Rattle.std.specs.Ordering.{nat_cmp}
use Rattle.std.specs.BTreeSet.{insert_key}
use Rattle.std.specs.Result.{is_ok}
use Rattle.sha2.specs.Sha256.{sha256}
use Rattle.lms_sign.specs.{declared.secret.Secret.{Secret}, declared.types.LmsTypes.{LmsTypes}, Types.{is_supported}, Tree.{public_key_of}}
use Rattle.node_journal.specs.Role.{Kinds}
use Rattle.plasma_tx.specs.{declared.owner.Owner.{Owner}, Spelling.{number_text, number_at, body_in, body_length, body_at_start}}
use Rattle.coin_history.specs.{declared.bundle.Bundle.{Bundle}, Bundles.{bundle_text}}
use Rattle.wallet_core.specs.{declared.notes.CoinTip.{CoinTip}, declared.notes.LeafRecord.{LeafRecord}, declared.notes.Notes.{Notes}}
use Rattle.leaf_journal.specs.Records.{messages_of}
use Rattle.node_rules.specs.{declared.identity.WalletIdentity.{WalletIdentity}, Kept.{kept_in}}

-- ---- the identity

-- four bytes of a number, and the number that four bytes from a place spell
abbrev pub short_text : ℕ → List ℕ
short_text number = to_be_bytes w32 number

abbrev pub short_at : List ℕ → ℕ → ℕ
short_at bytes place = from_be_bytes w32 (slice_range bytes place (place + 4))

-- the types of an identity of the first form
abbrev pub is_first : LmsTypes → Bool
is_first types = (types.lms == 5) && (types.ots == 4)

-- the tag, the account and the seed
abbrev pub common_text : WalletIdentity → List ℕ
common_text who = who.tag ++ number_text who.account ++ who.seed

-- an identity: with other types than the first they stand before the rest, and it begins otherwise
unfoldable pub identity_text : WalletIdentity → List ℕ
identity_text who =
    if is_first who.types then 1 ∷ common_text who
    else 4 ∷ short_text who.types.lms ++ short_text who.types.ots ++ common_text who

abbrev pub identity_of : LmsTypes → List ℕ → WalletIdentity
identity_of types bytes = record {
  tag = slice_range bytes 0 32;
  account = number_at bytes 32;
  seed = slice_range bytes 40 72;
  types = types;
}

-- the types that eight bytes spell
abbrev pub types_in : List ℕ → LmsTypes
types_in bytes = record { lms = short_at bytes 0; ots = short_at bytes 4 }

-- types that the second form of an identity may have
abbrev pub may_be_second : LmsTypes → Bool
may_be_second types = is_supported types && not (is_first types)

-- the identity that bytes spell
unfoldable pub identity_in : List ℕ → Option WalletIdentity
identity_in [] = None
identity_in (mark ∷ bytes) =
    if (mark == 1) && (length bytes == 72) then Some (identity_of (record { lms = 5; ots = 4 }) bytes)
    else if (mark == 4) && (length bytes == 80) && may_be_second (types_in bytes)
    then Some (identity_of (types_in bytes) (drop 8 bytes))
    else None

-- the key: its identifier is the first 16 bytes of the seed's SHA-256
abbrev pub secret_of : WalletIdentity → Secret
secret_of who = record { types = who.types; id = take 16 (sha256 who.seed); seed = who.seed }

-- the owner that a wallet is
unfoldable pub owner_of : WalletIdentity → Owner
owner_of who = record { account = who.account; key = public_key_of (secret_of who) }

-- ---- notes

-- a coin was accepted; the wallet leaves with a coin from a tip; the transfer of a coin from a tip, which a leaf
-- signed,
-- was taken back
pub data Note : Type 0 where
  Accepts : Bundle → Note
  LeavesWith : ℕ → ℕ → Note
  Reclaims : ℕ → ℕ → ℕ → Note

unfoldable pub note_text : Note → List ℕ
note_text (Accepts kept) = 2 ∷ bundle_text kept
note_text (LeavesWith coin tip) = 3 ∷ number_text coin ++ number_text tip
note_text (Reclaims coin tip q) = 5 ∷ number_text coin ++ number_text tip ++ short_text q

-- the note of a kept coin
abbrev pub accepts : Option Bundle → Option Note
accepts None = None
accepts (Some kept) = Some (Accepts kept)

-- the note that bytes spell for a chain with that tag
unfoldable pub note_in : (List ℕ → List ℕ) → List ℕ → List ℕ → Option Note
note_in dig tag [] = None
note_in dig tag (mark ∷ bytes) =
    if mark == 2 then accepts (kept_in dig tag bytes)
    else if (mark == 3) && (length bytes == 16) then Some (LeavesWith (number_at bytes 0) (number_at bytes 8))
    else if (mark == 5) && (length bytes == 20)
    then Some (Reclaims (number_at bytes 0) (number_at bytes 8) (short_at bytes 16))
    else None

-- the tag of an identity's bytes; empty where they spell none
abbrev pub tag_in : List ℕ → List ℕ
tag_in body = option_map_or (λ who. who.tag) (identity_in body) []

-- which records are a wallet's notes
abbrev pub wallet_kinds : (List ℕ → List ℕ) → Kinds
wallet_kinds dig = record {
  is_identity = λ body. is_some (identity_in body);
  is_note = λ identity body. is_some (note_in dig (tag_in identity) body);
}

-- the identity of records
abbrev pub no_one : WalletIdentity
no_one = record { tag = []; account = 0; seed = []; types = record { lms = 5; ots = 4 } }

unfoldable pub who_is : List (List ℕ) → WalletIdentity
who_is [] = no_one
who_is (body ∷ bodies) = option_map_or (λ who. who) (identity_in body) no_one

-- the notes of records, the newest first
unfoldable pub notes_of : (List ℕ → List ℕ) → List (List ℕ) → List Note
notes_of dig records = reverse (filter_map (note_in dig (who_is records).tag) (drop 1 records))

-- what was accepted, the oldest first
unfoldable pub accepted_of : List Note → List Bundle
accepted_of [] = []
accepted_of (Accepts kept ∷ notes) = accepted_of notes ++ kept ∷ []
accepted_of (note ∷ notes) = accepted_of notes

-- a coin and a tip
abbrev pub coin_tip : ℕ → ℕ → CoinTip
coin_tip coin tip = record { coin = coin; tip = tip }

-- what notes say of coins, to an owner
unfoldable pub state_notes : Owner → List Note → Notes
state_notes me [] = record { me = me; accepted = []; leaving = []; reclaimed = [] }
state_notes me (Accepts kept ∷ notes) =
    let noted = state_notes me notes in
    record noted { accepted = noted.accepted ++ coin_tip kept.coin kept.tip ∷ [] }
state_notes me (LeavesWith coin tip ∷ notes) =
    let noted = state_notes me notes in record noted { leaving = noted.leaving ++ coin_tip coin tip ∷ [] }
state_notes me (Reclaims coin tip q ∷ notes) =
    let noted = state_notes me notes in record noted { reclaimed = insert_key nat_cmp noted.reclaimed q }

-- ---- leaves

-- a leaf's message is a body of either form
abbrev pub is_body : List ℕ → Bool
is_body message = is_ok (body_in (slice_range message 4 36) message) && (length message == body_length message)

-- what the leaves bind, by their numbers
abbrev pub leaves_in : List (List ℕ) → List LeafRecord
leaves_in records = map (λ message. record { body = body_at_start message }) (messages_of records)

-- the leaf binds a body with a last block, of the coin and spending the tip
abbrev pub may_reclaim : ℕ → ℕ → LeafRecord → Bool
may_reclaim coin tip leaf = (leaf.body.coin == coin) && (leaf.body.parent == tip) && is_some leaf.body.last

-- a note that takes a leaf back is of a leaf that may be
abbrev pub is_bound_note : List LeafRecord → Note → Bool
is_bound_note leaves (Reclaims coin tip q) = option_map_or (may_reclaim coin tip) (slice_get leaves q) false
is_bound_note leaves note = true

abbrev pub are_bound_notes : List LeafRecord → List Note → Bool
are_bound_notes leaves notes = list_all (is_bound_note leaves) notes
