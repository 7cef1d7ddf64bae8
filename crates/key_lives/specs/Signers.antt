-- What stands on the disks of a two-level signer, and what a call signed.
use Rattle.std.specs.Prelude.{◌≡◌, ◌⊎◌, ℕ, Bool, true, false, if◌then◌else◌, List, [], ◌∷◌, ◌++◌, map, Option, Some, None}
use mathlib.Core.Logic.{inl, inr}
use Rattle.crash_disk.specs.Disk.{History, FaultPlan}
use Rattle.crash_disk.specs.Calls.{WhereTold}
use Rattle.gate_journal.specs.Life.{Stay}
use Rattle.node_journal.specs.Notes.{NotesState}
use Rattle.node_journal.specs.Role.{are_of}
use Rattle.run_endings.specs.declared.status.Status.{Status}
use Rattle.node_runs.specs.Sessions.{Outside}
use Rattle.hss_keys.specs.declared.seed.HssSeed.{HssSeed}
use Rattle.hss_keys.specs.Entries.{entries_of, entry_text}
use Rattle.hss_keys.specs.Form.{are_level_records}
use Rattle.hss_keys.specs.Levels.{HssBoundState, bound_of}
use Rattle.hss_runs.specs.declared.next.NextLeaf.{NextLeaf}
use Rattle.hss_runs.specs.Identity.{identity_text, signer_kinds, signer_seed, seed_of}
use Rattle.hss_runs.specs.Signing.{Signing, is_signable, next_leaf, signing}
use Rattle.hss_runs.specs.Runs.{Signs, RunsSigner}
use Rattle.node_lives.specs.Disks.{Pair}
use Rattle.node_lives.specs.Calls.{Asked, ToSign, DoesAsked, Starves, Call}

-- A run that opened a signer: what its keys are made from, the message, the records of the leaves that it found, and
-- whether all that the signing adds was added.
pub record SignerRun : Type 0 where
  pub seed : HssSeed
  pub message : List ℕ
  pub found : List (List ℕ)
  pub is_added : Bool

-- the records that it left for certain: those that it found, where not all was added
abbrev pub left_by : SignerRun → List (List ℕ)
left_by run =
    if run.is_added then run.found ++ map entry_text (signing run.seed run.found run.message).adds else run.found

-- over disks that tell their history, foretell their faults and count them, and under a digest
module _ {D : Type 0} (told : D → Option History) (plan : D → Option FaultPlan) (faults : D → ℕ)
    (dig : List ℕ → List ℕ) where
  -- Each image that a crash now may leave of a signer's disks keeps the identity with this seed, and of the leaves
  -- records of its key that continue these.
  abbrev pub SignerStands : List ℕ → List (List ℕ) → Pair D → Type 0
  SignerStands seed records pair =
      WhereTold (told pair.notes) (Stay (are_of signer_kinds) (identity_text seed ∷ []))
      × WhereTold (told pair.leaves) (Stay (are_level_records (signer_seed seed)) records)

  -- whether a signing that did this added all of its records, which comes before anything is written
  abbrev pub adds_all : {taken after : Option (List ℕ)} {status : Status} {signing : Signing} {old new : NotesState D}
      → Signs told plan faults taken after status signing old new → Bool
  adds_all (inl whole) = true
  adds_all (inr rest) = false

  -- of a run that did this; none where its disks weren't opened
  unfoldable pub signer_run : (message : List ℕ) (old new : Pair D) (outside : Outside) (status : Status)
      → RunsSigner told plan faults outside.taken outside.after status message old.notes old.leaves new.notes
      new.leaves
      → Option SignerRun
  signer_run message old new outside status (inl ran) = Some (record {
    seed = seed_of ran.opened.records;
    message = message;
    found = ran.levels.records;
    is_added = adds_all ran.signs;
  })
  signer_run message old new outside status (inr refused) = None

  -- of a call; none where it was to sign nothing, or memory ran out before it used a disk
  unfoldable pub signer_run_by : (asked : Asked) (old new : Pair D) (outside : Outside) (status : Status)
      → DoesAsked told plan faults dig asked old new outside status ⊎ Starves old new status → Option SignerRun
  signer_run_by (ToSign message) old new outside status (inl did) = signer_run message old new outside status did
  signer_run_by asked old new outside status did = None

  abbrev pub signer_run_in : Call told plan faults dig → Option SignerRun
  signer_run_in call = signer_run_by call.asked call.old call.new call.outside call.status call.did

  -- A call signed so: its message may be signed, the leaf was the next one behind the records that it found, and the
  -- records of what it signed were added before anything was written: of the message, and where it opened the leaf's
  -- bottom key, of this.
  pub record SignsBy (call : Call told plan faults dig) (bound : HssBoundState) : Type 0 where
    pub run : SignerRun
    pub is : signer_run_in call ≡ Some run
    pub added : run.is_added ≡ true
    pub signable : is_signable run.message ≡ true
    pub next : NextLeaf
    pub next_is : next_leaf run.seed (entries_of run.found) ≡ Some next
    pub bound_is : bound ≡ bound_of run.seed next.top_leaf next.leaf run.message
