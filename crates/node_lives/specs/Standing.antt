-- What stands on a node's disks: in each image that a crash now may leave of them.
use Rattle.std.specs.Prelude.{◌≡◌, ℕ, Bool, true, List, [], ◌∷◌, length, Option, Some, None}
use Rattle.std.specs.List.{All}
use Rattle.std.specs.Result.{is_ok}
use Rattle.crash_disk.specs.{Disk.{History, MayLeave}, Calls.{WhereTold}}
use Rattle.gate_journal.specs.{Journal.{Keeps}, Life.{Continue, Stay}}
use Rattle.node_journal.specs.Role.{Kinds, are_of}
use Rattle.lms_sign.specs.Tree.{public_key_of}
use Rattle.leaf_journal.specs.{Leaves.{leaves_of}, Records.{leaf_records_of}}
use Rattle.plasma_tx.specs.Spelling.{AreBytes}
use Rattle.node_rules.specs.{Watcher.{watcher_kinds}, WalletRecords.{wallet_kinds}, Wallet.{WalletRecords}, WalletOpening.{is_wallet}}
use Rattle.operator_rules.specs.Records.{operator_kinds, who_is}
use Rattle.receipt_audit.specs.{Promises.{is_promise}, Desk.{desk_secret}}
use Rattle.node_replies.specs.Roles.{Role, Wallet, Watcher, Operator}
use Rattle.node_lives.specs.Disks.{Pair}

-- the records of a node that was just begun: its identity alone
abbrev pub identity_alone : List ℕ → WalletRecords
identity_alone identity = record { notes = identity ∷ []; leaves = [] }

-- the later records are the earlier ones, and maybe more behind them
pub record GoOn (earlier later : WalletRecords) : Type 0 where
  pub notes : Continue earlier.notes later.notes
  pub leaves : Continue earlier.leaves later.leaves

-- the number of leaves of an operator's key, which is made of this seed
abbrev pub desk_leaves : List ℕ → ℕ
desk_leaves seed = leaves_of (public_key_of (desk_secret seed))

-- the records are those of its leaves, each of which is bound to a promise
abbrev pub are_promised : List ℕ → List (List ℕ) → Bool
are_promised seed records = is_ok (leaf_records_of is_promise (desk_leaves seed) records)

-- under a digest
module _ (dig : List ℕ → List ℕ) where
  -- where an operator has a key the digests have 32 bytes, as those of promises have
  abbrev pub HasDigests : Option (List ℕ) → Type 0
  HasDigests None = Unit {0}
  HasDigests (Some seed) = (bytes : List ℕ) → length (dig bytes) ≡ 32

  -- the same where its identity says so
  abbrev pub DigestsFit : Role → List ℕ → Type 0
  DigestsFit Operator identity = HasDigests (who_is (identity ∷ [])).key_seed
  DigestsFit role identity = Unit {0}

  -- which records are those of a role's notes
  abbrev pub kinds_of : Role → Kinds
  kinds_of Wallet = wallet_kinds dig
  kinds_of Watcher = watcher_kinds dig
  kinds_of Operator = operator_kinds

  -- the bytes are an identity of the role, and if that is an operator's with a key, the digests fit
  pub record IsIdentityOf (role : Role) (identity : List ℕ) : Type 0 where
    pub is : (kinds_of role).is_identity identity ≡ true
    pub bytes : AreBytes identity
    pub digests : DigestsFit role identity

  -- the images of both disks keep a wallet's records that continue these, and the notes are bytes
  pub record KeepWallet (records : WalletRecords) (notes leaves : List ℕ) : Type 0 where
    pub kept : WalletRecords
    pub keeps_notes : Keeps kept.notes notes
    pub keeps_leaves : Keeps kept.leaves leaves
    pub is : is_wallet dig kept ≡ true
    pub bytes : All AreBytes kept.notes
    pub goes_on : GoOn records kept

  -- each two images that a crash now may leave of both disks do
  abbrev pub WalletStays : WalletRecords → History → History → Type 0
  WalletStays records notes leaves =
      (one other : List ℕ) → MayLeave notes one → MayLeave leaves other → KeepWallet records one other

  -- Over disks that tell their history: each image that a crash now may leave keeps records of the role that continue
  -- these; of a wallet each two images do.
  module _ {D : Type 0} (told : D → Option History) where
    -- so do those of the leaves of an operator's key; where it has none nothing is said of that disk
    abbrev pub LeavesStay : Option (List ℕ) → List (List ℕ) → D → Type 0
    LeavesStay None leaves disk = Unit {0}
    LeavesStay (Some seed) leaves disk = WhereTold (told disk) (Stay (are_promised seed) leaves)

    abbrev pub Stand : Role → WalletRecords → Pair D → Type 0
    Stand Wallet records pair =
        WhereTold (told pair.notes) (λ notes. WhereTold (told pair.leaves) (WalletStays records notes))
    Stand Watcher records pair = WhereTold (told pair.notes) (Stay (are_of (kinds_of Watcher)) records.notes)
    Stand Operator records pair =
        WhereTold (told pair.notes) (Stay (are_of (kinds_of Operator)) records.notes)
        × LeavesStay (who_is records.notes).key_seed records.leaves pair.leaves
