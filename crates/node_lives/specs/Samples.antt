-- A small life of a wallet: two inits, three runs, a fault in two of them and a crash. So the laws don't hold for want
-- of a life.
use Rattle.std.specs.Prelude.{◌≡◌, ◌≢◌, ℕ, List, [], ◌∷◌, ◌++◌, replicate, codes, Option, Some, None, option_map}
use Rattle.crash_disk.specs.Disk.{History, fresh_history, content, FaultPlan}
use Rattle.leaf_journal.specs.Records.{marker}
use Rattle.node_replies.specs.Roles.{Wallet}
use Rattle.run_endings.specs.{Texts.{device_fault_text, refused_text}, declared.status.Status.{Status}, declared.status.Status.TheVariants.{Done, Refused, DeviceFault}}
use Rattle.node_lives.specs.{Calls.{Asked, BothDisks, ToBegin, ToRun, Call}, Lives.{IsLife}, Answered.{ran_in}}

-- a disk that tells its history, foretells no fault and counts those that it meets
pub record Drive : Type 0 where
  pub history : History
  pub met : ℕ

abbrev pub told : Drive → Option History
told drive = Some drive.history

abbrev pub foretold : Drive → Option FaultPlan
foretold drive = None

abbrev pub met : Drive → ℕ
met drive = drive.met

-- a wallet's identity: its mark, a tag of zeros, the account 0 and a seed of zeros
abbrev pub identity : List ℕ
identity = 1 ∷ replicate 72 0

-- what each run reads: the first line of a log, its end, and a command
abbrev pub first_line : List ℕ
first_line = codes "chain 0x" ++ replicate 64 48 ++ codes " 0 1"

abbrev pub input : List ℕ
input = first_line ++ 10 ∷ codes "--" ++ 10 ∷ codes "migrate" ++ 10 ∷ []

-- under a digest
module _ (dig : List ℕ → List ℕ) where
  abbrev pub DriveCall : Type 0
  DriveCall = Call told foretold met dig

  -- the call was asked for this, ended so, and wrote this
  pub record Went (asked : Asked) (status : Status) (text : List ℕ) (call : DriveCall) : Type 0 where
    pub asked_is : call.asked ≡ asked
    pub status_is : call.status ≡ status
    pub begins : call.outside.taken ≡ Some []
    pub wrote : call.outside.after ≡ Some text

  -- The first init meets a fault, the second one says `made`. The command of the first run meets a fault of the leaves'
  -- disk, and a crash leaves less than that disk held. The second run is answered, and leaves the record of its
  -- command. The third one finds it, and refuses the same command.
  pub record SmallLife : Type 0 where
    pub stopped : DriveCall
    pub begun : DriveCall
    pub faulted : DriveCall
    pub answered : DriveCall
    pub refused : DriveCall
    pub life : IsLife told foretold met dig (refused ∷ answered ∷ faulted ∷ begun ∷ stopped ∷ [])
    pub stopped_is : Went (ToBegin BothDisks identity) DeviceFault device_fault_text stopped
    pub begun_is : Went (ToBegin BothDisks identity) Done (codes "made" ++ 10 ∷ []) begun
    pub faulted_is : Went (ToRun Wallet) DeviceFault device_fault_text faulted
    pub answered_is : Went (ToRun Wallet) Done (codes "migrated" ++ 10 ∷ []) answered
    pub refused_is : Went (ToRun Wallet) Refused (refused_text (codes "already-new")) refused
    pub image : List ℕ
    pub crash : told answered.old.leaves ≡ Some (fresh_history image)
    pub less : content faulted.new.leaves.history ≢ image
    pub left : option_map (λ ran. ran.left.leaves) (ran_in told foretold met dig answered) ≡ Some (marker ∷ [])
    pub found : option_map (λ ran. ran.found.leaves) (ran_in told foretold met dig refused) ≡ Some (marker ∷ [])
