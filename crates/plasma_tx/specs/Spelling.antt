-- The bytes of owners, bodies and signed transfers. Numbers have eight bytes, the highest first.
use Rattle.std.specs.Prelude.{◌≡◌, ℕ, ◌+◌, ◌^◌, ◌<◌, Bool, ◌||◌, not, if◌then◌else◌, List, [], ◌++◌, length, drop, slice_range, nat_lt, nat_eq, codes, Option, Some, None, IfSome, Result, Ok, Err}
use Rattle.std.specs.Int.{w64, to_be_bytes, from_be_bytes}
use Rattle.std.specs.List.{All, starts_with}
use Rattle.std.specs.Str.{bytes_eq}
use Rattle.plasma_tx.specs.{declared.owner.Owner.{Owner}, declared.body.Body.{Body}, declared.signed_tx.SignedTx.{SignedTx}, declared.signed_tx.TxRefusal.{TxRefusal}, declared.signed_tx.TxRefusal.TheVariants.{Short, BadMark, BadTag}}

-- the eight bytes of a number, and the number that stands at a place
abbrev pub number_text : ℕ → List ℕ
number_text number = to_be_bytes w64 number

abbrev pub number_at : List ℕ → ℕ → ℕ
number_at bytes place = from_be_bytes w64 (slice_range bytes place (place + 8))

-- an owner: the account, then the key of 56 bytes
unfoldable pub owner_text : Owner → List ℕ
owner_text owner = number_text owner.account ++ owner.key

-- the owner that 64 bytes spell
unfoldable pub owner_in : List ℕ → Owner
owner_in bytes = record { account = number_at bytes 0; key = slice_range bytes 8 64 }

-- the mark of a body without a last block, and that of one with a last block
abbrev pub first_mark : List ℕ
first_mark = codes "PCT1"

abbrev pub second_mark : List ℕ
second_mark = codes "PCT2"

abbrev pub mark_of : Option ℕ → List ℕ
mark_of None = first_mark
mark_of (Some last) = second_mark

-- the last block stands at the end, where the body has one
abbrev pub last_text : Option ℕ → List ℕ
last_text None = []
last_text (Some last) = number_text last

-- what both forms of a body begin with: the mark, the tag of 32 bytes, the coin, the parent and the new owner
abbrev pub common_text : Body → List ℕ
common_text body =
    mark_of body.last ++ body.tag ++ number_text body.coin ++ number_text body.parent ++ owner_text body.to

-- a body: these 116 bytes, and eight more where it has a last block
unfoldable pub body_text : Body → List ℕ
body_text body = common_text body ++ last_text body.last

-- a signed transfer: the body, then the signature, which is all that remains
unfoldable pub signed_text : SignedTx → List ℕ
signed_text tx = body_text tx.body ++ tx.signature

-- whether the bytes begin with a mark
abbrev pub has_first_mark : List ℕ → Bool
has_first_mark bytes = starts_with nat_eq bytes first_mark

abbrev pub has_second_mark : List ℕ → Bool
has_second_mark bytes = starts_with nat_eq bytes second_mark

-- how long the body is that the bytes begin with
abbrev pub body_length : List ℕ → ℕ
body_length bytes = if has_second_mark bytes then 124 else 116

-- the body that the bytes begin with, where they are long enough and have a mark
abbrev pub body_at_start : List ℕ → Body
body_at_start bytes = record {
  tag = slice_range bytes 4 36;
  coin = number_at bytes 36;
  parent = number_at bytes 44;
  to = owner_in (slice_range bytes 52 116);
  last = if has_second_mark bytes then Some (number_at bytes 116) else None;
}

-- The body with this tag that the bytes begin with. Too few bytes are refused first, then no mark, then another tag.
unfoldable pub body_in : List ℕ → List ℕ → Result Body TxRefusal
body_in tag bytes =
    if nat_lt (length bytes) (body_length bytes) then Err Short
    else if not (has_first_mark bytes || has_second_mark bytes) then Err BadMark
    else if not (bytes_eq (slice_range bytes 4 36) tag) then Err BadTag
    else Ok (body_at_start bytes)

-- the signature that stands behind a body
abbrev pub with_signature : List ℕ → Result Body TxRefusal → Result SignedTx TxRefusal
with_signature bytes (Err why) = Err why
with_signature bytes (Ok body) = Ok (record { body = body; signature = drop (body_length bytes) bytes })

-- the signed transfer with this tag that the bytes spell
unfoldable pub signed_in : List ℕ → List ℕ → Result SignedTx TxRefusal
signed_in tag bytes = with_signature bytes (body_in tag bytes)

-- an owner of the type: a number of 64 bits and a key of 56 bytes
pub record IsOwner (owner : Owner) : Type 0 where
  pub account : owner.account < 2 ^ 64
  pub key : length owner.key ≡ 56

-- a body of the type: a tag of 32 bytes and numbers of 64 bits
pub record IsBody (body : Body) : Type 0 where
  pub tag : length body.tag ≡ 32
  pub coin : body.coin < 2 ^ 64
  pub parent : body.parent < 2 ^ 64
  pub to : IsOwner body.to
  pub last : IfSome body.last (λ last. last < 2 ^ 64)

-- each element is a byte
abbrev pub AreBytes : List ℕ → Type 0
AreBytes bytes = All (λ byte. byte < 256) bytes

-- an owner's bytes are read as that owner, and the bytes that are read are its own
abbrev pub OwnersAreReadBack : Type 0
OwnersAreReadBack = (owner : Owner) → IsOwner owner → owner_in (owner_text owner) ≡ owner

abbrev pub OwnersHaveOneSpelling : Type 0
OwnersHaveOneSpelling = (bytes : List ℕ) → AreBytes bytes → length bytes ≡ 64
    → (owner_text (owner_in bytes) ≡ bytes) × IsOwner (owner_in bytes)

-- a signed transfer's bytes are read as that transfer, under its own tag
abbrev pub TransfersAreReadBack : Type 0
TransfersAreReadBack = (tx : SignedTx) → IsBody tx.body → signed_in tx.body.tag (signed_text tx) ≡ Ok tx

-- bytes that are read as a signed transfer are its own, and it has the tag
abbrev pub TransfersHaveOneSpelling : Type 0
TransfersHaveOneSpelling = (tag bytes : List ℕ) (tx : SignedTx) → AreBytes bytes → signed_in tag bytes ≡ Ok tx
    → (bytes ≡ signed_text tx) × (tx.body.tag ≡ tag) × IsBody tx.body
