-- What holds of a two-level signer's whole life, whatever calls come, faults and crashes.
use Rattle.std.specs.Prelude.{◌≡◌, ◌≢◌, ℕ, if◌then◌else◌, List, [], ◌∷◌, ◌++◌, length, Option, Some}
use Rattle.std.specs.List.{All, Contains}
use Rattle.crash_disk.specs.Disk.{History, FaultPlan}
use Rattle.gate_journal.specs.Life.{Continue}
use Rattle.streamed_lines.specs.Outside.{WroteFront}
use Rattle.run_endings.specs.Texts.{device_fault_text}
use Rattle.run_endings.specs.declared.status.Status.TheVariants.{Done, NotJournal}
use Rattle.hss_keys.specs.Levels.{HssBoundState, KeepsBound}
use Rattle.hss_runs.specs.Identity.{identity_text}
use Rattle.hss_runs.specs.Signing.{signing, said_output}
use Rattle.node_lives.specs.Calls.{Begun, BothDisks, ToBegin, ToSign, Call}
use Rattle.node_lives.specs.Lives.{IsLife}
use Rattle.key_lives.specs.Signers.{SignerRun, left_by, SignerStands, signer_run_in, SignsBy}

-- over disks that tell their history, foretell their faults and count them, and under a digest
module _ {D : Type 0} (told : D → Option History) (plan : D → Option FaultPlan) (faults : D → ℕ)
    (dig : List ℕ → List ℕ) where
  -- a call that began a signer with a seed of 32 bytes, and said so
  pub record BeginsSigner (call : Call told plan faults dig) : Type 0 where
    pub seed : List ℕ
    pub long : length seed ≡ 32
    pub asked : call.asked ≡ ToBegin BothDisks (identity_text seed)
    pub made : call.status ≡ Done

  -- A later call finds the signer: a signing finds a journal of it, an init begins nothing, and the disks that the call
  -- is handed and those that it leaves keep the identity and records of its key, in each image of a crash.
  pub record FindsTheSigner (seed : List ℕ) (call : Call told plan faults dig) : Type 0 where
    pub signs : (message : List ℕ) → call.asked ≡ ToSign message → call.status ≢ NotJournal
    pub begins : (disks : Begun) (anew : List ℕ) → call.asked ≡ ToBegin disks anew → call.status ≢ Done
    pub handed : SignerStands told plan faults dig seed [] call.old
    pub left : SignerStands told plan faults dig seed [] call.new

  abbrev pub BegunSignersStay : Type 0
  BegunSignersStay = (later earlier : List (Call told plan faults dig)) (first : Call told plan faults dig)
      → IsLife told plan faults dig (later ++ first ∷ earlier) → (begins : BeginsSigner first)
      → All (FindsTheSigner begins.seed) later

  -- these records of the leaves stand in a call: in each image of the disks that it is handed, and in front of those
  -- that a signing finds
  pub record SignedStandIn (seed : List ℕ) (records : List (List ℕ)) (call : Call told plan faults dig) : Type 0 where
    pub handed : SignerStands told plan faults dig seed records call.old
    pub found : (run : SignerRun) → signer_run_in told plan faults dig call ≡ Some run → Continue records run.found

  -- The records that a signing left stand in every later call; and where it signed, they keep both of its leaves: the
  -- bottom key at the top leaf, and the message at the leaf.
  pub record SignedRecordsStand : Type 0 where
    pub stand : (later between earlier : List (Call told plan faults dig)) (call first : Call told plan faults dig)
        (run : SignerRun) → IsLife told plan faults dig (later ++ call ∷ (between ++ first ∷ earlier))
        → (begins : BeginsSigner first) → signer_run_in told plan faults dig call ≡ Some run
        → All (SignedStandIn begins.seed (left_by run)) later
    pub kept : (between earlier : List (Call told plan faults dig)) (call first : Call told plan faults dig)
        (bound : HssBoundState) → IsLife told plan faults dig (call ∷ (between ++ first ∷ earlier))
        → BeginsSigner first → (signs : SignsBy told plan faults dig call bound)
        → KeepsBound (left_by signs.run) bound

  -- No leaf of either level signs two messages: of two signings since the signer was begun, in whatever calls, those of
  -- one top leaf have one bottom key, and those of one top leaf and one bottom leaf have one message.
  abbrev pub SignersSignOnce : Type 0
  SignersSignOnce = (later earlier : List (Call told plan faults dig))
      (first one other : Call told plan faults dig) (made also : HssBoundState)
      → IsLife told plan faults dig (later ++ first ∷ earlier) → BeginsSigner first
      → Contains later one → Contains later other
      → SignsBy told plan faults dig one made → SignsBy told plan faults dig other also
      → made.top_leaf ≡ also.top_leaf
      → (made.bottom ≡ also.bottom) × (made.leaf ≡ also.leaf → made.message ≡ also.message)

  -- A run that opened a signer wrote a beginning of the answer to its message, all of whose records were added; or one
  -- of what it says of a device fault. So a byte of a signature is written of a message alone that the records keep.
  abbrev pub SigningsWriteTheirAnswers : Type 0
  SigningsWriteTheirAnswers = (call : Call told plan faults dig) (run : SignerRun)
      → signer_run_in told plan faults dig call ≡ Some run
      → WroteFront call.outside.taken call.outside.after
      (if run.is_added then (said_output (signing run.seed run.found run.message).says).last else device_fault_text)
