-- Which call of a node's life a run is.
use Rattle.std.specs.Prelude.{◌≡◌, ◌⊎◌, ℕ, Bool, true, false, List, length, Option, Some, None}
use Rattle.crash_disk.specs.Disk.{History, FaultPlan}
use Rattle.node_rules.specs.Watcher.{identity_text as watcher_text}
use Rattle.node_rules.specs.WalletRecords.{identity_text as wallet_text}
use Rattle.operator_rules.specs.Records.{identity_text as operator_text}
use Rattle.hss_runs.specs.Identity.{identity_text as signer_text}
use Rattle.node_replies.specs.Roles.{Wallet as WalletRole, Watcher as WatcherRole, Operator as OperatorRole}
use Rattle.run_words.specs.declared.form.Form.{Form}
use Rattle.run_words.specs.declared.form.Form.TheVariants.{Wallet, Operator, Watcher, InitWallet, InitOperator, InitWatcher, HssInit, HssSign}
use Rattle.run_words.specs.Forms.{form_of}
use Rattle.lms_sign.specs.declared.types.LmsTypes.{LmsTypes}
use Rattle.run_endings.specs.declared.status.Status.{Status}
use Rattle.streamed_lines.specs.Outside.{ReadsToFault}
use Rattle.node_runs.specs.Sessions.{Outside}
use Rattle.node_lives.specs.Disks.{Pair}
use Rattle.node_lives.specs.Calls.{NotesAlone, BothDisks, Asked, ToBegin, ToRun, ToSign, ToUseNoDisk, DoesAsked, Starves}
use Rattle.node_lives.specs.Standing.{HasDigests, IsIdentityOf}
use Rattle.replay_run.specs.Forms.{uses_notes, uses_leaves}
use Rattle.replay_run.specs.Does.{Does}

-- what the form of a run asks for, as a call on the two disks of a node
abbrev pub asked_of : Option Form → Asked
asked_of (Some Wallet) = ToRun WalletRole
asked_of (Some Operator) = ToRun OperatorRole
asked_of (Some Watcher) = ToRun WatcherRole
asked_of (Some (InitWallet tag account seed types)) =
    ToBegin BothDisks (wallet_text (record { tag = tag; account = account; seed = seed; types = types }))
asked_of (Some (InitOperator tag account None)) =
    ToBegin NotesAlone (operator_text (record { tag = tag; account = account; key_seed = None }))
asked_of (Some (InitOperator tag account (Some seed))) =
    ToBegin BothDisks (operator_text (record { tag = tag; account = account; key_seed = Some seed }))
asked_of (Some (InitWatcher tag account)) =
    ToBegin NotesAlone (watcher_text (record { tag = tag; account = account }))
asked_of (Some (HssInit seed)) = ToBegin BothDisks (signer_text seed)
asked_of (Some (HssSign message)) = ToSign message
asked_of form = ToUseNoDisk

-- What the words of an init spell is an identity of its role, as the laws of lives ask of the init that began a node: a
-- watcher's, an operator's and a wallet's. For one of an operator with a key the digests have 32 bytes. A two-level
-- signer's seed has 32 bytes.
pub record InitsAreOfTheirRoles (dig : List ℕ → List ℕ) : Type 0 where
  pub watcher : (words : List (List ℕ)) (tag : List ℕ) (account : ℕ)
      → form_of words ≡ Some (InitWatcher tag account)
      → IsIdentityOf dig WatcherRole (watcher_text (record { tag = tag; account = account }))
  pub operator : (words : List (List ℕ)) (tag : List ℕ) (account : ℕ) (seed : Option (List ℕ))
      → form_of words ≡ Some (InitOperator tag account seed) → HasDigests dig seed
      → IsIdentityOf dig OperatorRole (operator_text (record { tag = tag; account = account; key_seed = seed }))
  pub wallet : (words : List (List ℕ)) (tag : List ℕ) (account : ℕ) (seed : List ℕ) (types : LmsTypes)
      → form_of words ≡ Some (InitWallet tag account seed types)
      → IsIdentityOf dig WalletRole
      (wallet_text (record { tag = tag; account = account; seed = seed; types = types }))
  pub signer : (words : List (List ℕ)) (seed : List ℕ) → form_of words ≡ Some (HssInit seed) → length seed ≡ 32

-- over disks that tell their history, foretell their faults and count them, and under a digest
module _ {D : Type 0} (told : D → Option History) (plan : D → Option FaultPlan) (faults : D → ℕ)
    (dig : List ℕ → List ℕ) where
  -- What `run` does to the disks that it is handed, and outside, with its status, is what a call of a life does that is
  -- asked for by its form, or memory ran out before it used a disk. So the laws of lives are of the runs of the program,
  -- whatever words they have, one after another on one pair of disks.
  abbrev pub RunsAreCalls : Type 0
  RunsAreCalls = (old new : Pair D) (outside : Outside) (before after : ℕ) (failed_last : Bool) (status : Status)
      (form : Option Form)
      → Does told plan faults dig old.notes old.leaves new.notes new.leaves outside
      (ReadsToFault before after failed_last true) status form
      → (uses_notes form ≡ false → new.notes ≡ old.notes) → (uses_leaves form ≡ false → new.leaves ≡ old.leaves)
      → DoesAsked told plan faults dig (asked_of form) old new outside status ⊎ Starves old new status
