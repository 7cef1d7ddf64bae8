-- The transfer that a leaf of a block spells, and who signed it.
use Rattle.std.specs.Prelude.{◌≡◌, ℕ, ◌==◌, ◌&&◌, Bool, true, nat_le, if◌then◌else◌, List, [], replicate, slice_range, Option, Some, None, Result, Ok, Err}
use Rattle.lms_sign.specs.{Types.{is_supported}, Valid.{types_of, is_valid}}
use Rattle.plasma_tx.specs.{declared.owner.Owner.{Owner}, declared.body.Body.{Body}, declared.signed_tx.SignedTx.{SignedTx}, declared.signed_tx.TxRefusal.{TxRefusal}, Spelling.{body_text, body_in, signed_in}}

-- a block may hold a transfer that has no last block, or one that is at least the block
abbrev pub may_stand_in : ℕ → Option ℕ → Bool
may_stand_in block None = true
may_stand_in block (Some last) = nat_le block last

-- whether the transfer is of the coin and may stand in the block
abbrev pub is_transfer : ℕ → ℕ → Body → Bool
is_transfer coin block body = (body.coin == coin) && may_stand_in block body.last

-- what is read, where it is a transfer of the coin that may stand in the block
abbrev pub kept_transfer : ℕ → ℕ → Result SignedTx TxRefusal → Option SignedTx
kept_transfer coin block (Err why) = None
kept_transfer coin block (Ok tx) = if is_transfer coin block tx.body then Some tx else None

-- the transfer with this tag and of this coin that a leaf of the block spells
unfoldable pub transfer_in : List ℕ → ℕ → ℕ → List ℕ → Option SignedTx
transfer_in tag coin block leaf = kept_transfer coin block (signed_in tag leaf)

-- the owner's key reads, and the signature is valid under it over the body's bytes
unfoldable pub is_signed_by : SignedTx → Owner → Bool
is_signed_by tx owner = is_supported (types_of owner.key) && is_valid owner.key (body_text tx.body) tx.signature

-- the owner where nothing names one
abbrev pub nobody : Owner
nobody = record { account = 0; key = replicate 56 0 }

-- the new owner that a body names
abbrev pub named_owner : Result Body TxRefusal → Owner
named_owner (Err why) = nobody
named_owner (Ok body) = body.to

-- to whom the transfer that a leaf spells goes, whatever its tag; nobody where it spells none
unfoldable pub recipient_in : List ℕ → Owner
recipient_in leaf = named_owner (body_in (slice_range leaf 4 36) leaf)

-- the transfer that a leaf spells goes to whom the leaf's bytes alone name
abbrev pub RecipientsAreNamed : Type 0
RecipientsAreNamed = (tag leaf : List ℕ) (coin block : ℕ) (tx : SignedTx) → transfer_in tag coin block leaf ≡ Some tx
    → recipient_in leaf ≡ tx.body.to

-- an empty leaf spells no transfer
abbrev pub EmptyLeavesAreNone : Type 0
EmptyLeavesAreNone = (tag : List ℕ) (coin block : ℕ) → transfer_in tag coin block [] ≡ None

-- a transfer that a leaf spells is read from it, has the tag and the coin, and may stand in the block
abbrev pub TransfersAreRead : Type 0
TransfersAreRead = (tag leaf : List ℕ) (coin block : ℕ) (tx : SignedTx) → transfer_in tag coin block leaf ≡ Some tx
    → (signed_in tag leaf ≡ Ok tx) × (tx.body.tag ≡ tag) × (tx.body.coin ≡ coin)
    × (may_stand_in block tx.body.last ≡ true)
