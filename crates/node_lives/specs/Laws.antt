-- What holds of a node's whole life, whatever runs come, faults and crashes.
use Rattle.std.specs.Prelude.{◌≡◌, ◌≢◌, ◌⊎◌, ℕ, List, [], ◌∷◌, ◌++◌, Option, Some, None, IfSome}
use Rattle.std.specs.List.{All, Contains}
use Rattle.crash_disk.specs.Disk.{History, FaultPlan}
use Rattle.plasma_tx.specs.Spelling.{AreBytes}
use Rattle.node_rules.specs.{declared.identity.WalletIdentity.{WalletIdentity}, Watcher.{WatcherIdentity, identity_text as watcher_text}, WatcherLaws.{IsIdentity as IsWatcher}, WalletRecords.{identity_text as wallet_text}}
use Rattle.node_rules.specs.{WalletLaws.{IsIdentity as IsWallet}, Wallet.{WalletRecords}}
use Rattle.operator_rules.specs.{Records.{Identity as OperatorIdentity, identity_text as operator_text, who_is}, Laws.{IsIdentity as IsOperator}}
use Rattle.node_replies.specs.Roles.{Role, Wallet, Watcher, Operator}
use Rattle.streamed_lines.specs.{declared.ending.Ending.{Ending}, Outside.{WroteFront}}
use Rattle.run_endings.specs.{Texts.{device_fault_text}, Endings.{last_text}, declared.status.Status.TheVariants.{Done, NotJournal}}
use Rattle.node_lives.specs.{Calls.{Begun, NotesAlone, BothDisks, ToBegin, ToRun, Call}, Lives.{IsLife}, Standing.{identity_alone, GoOn, HasDigests, IsIdentityOf, Stand}, Answered.{Ran, ran_in, GivesOut}}

-- what a run whose disks were opened says of its end: nothing where all lines were answered
abbrev pub IsLastLine : List ℕ → Type 0
IsLastLine last = ((ending : Ending (List ℕ)) × (last ≡ last_text ending)) ⊎ (last ≡ device_fault_text)

-- an identity of the type whose tag and seed are bytes is one of its role
pub record IdentitiesAreOfTheirRoles (dig : List ℕ → List ℕ) : Type 0 where
  pub watcher : (who : WatcherIdentity) → IsWatcher who → AreBytes who.tag
      → IsIdentityOf dig Watcher (watcher_text who)
  pub operator : (who : OperatorIdentity) → IsOperator who → AreBytes who.tag → IfSome who.key_seed AreBytes
      → HasDigests dig who.key_seed → IsIdentityOf dig Operator (operator_text who)
  pub wallet : (who : WalletIdentity) → IsWallet who → AreBytes who.tag → AreBytes who.seed
      → IsIdentityOf dig Wallet (wallet_text who)

-- which disks an init of the role with this identity begins: those of an operator by its key
abbrev pub by_key : Option (List ℕ) → Begun
by_key None = NotesAlone
by_key (Some seed) = BothDisks

abbrev pub begun_of : Role → List ℕ → Begun
begun_of Wallet identity = BothDisks
begun_of Watcher identity = NotesAlone
begun_of Operator identity = by_key (who_is (identity ∷ [])).key_seed

-- over disks that tell their history, foretell their faults and count them, and under a digest
module _ {D : Type 0} (told : D → Option History) (plan : D → Option FaultPlan) (faults : D → ℕ)
    (dig : List ℕ → List ℕ) where
  -- a call that began a node of the role, and said so
  pub record Begins (role : Role) (call : Call told plan faults dig) : Type 0 where
    pub identity : List ℕ
    pub is : IsIdentityOf dig role identity
    pub asked : call.asked ≡ ToBegin (begun_of role identity) identity
    pub made : call.status ≡ Done

  -- A later call of a node of the role with this identity: a run of the role finds a journal of it, an init begins
  -- nothing, and the disks that the call is handed and those that it leaves keep the identity and maybe more records of
  -- the role, in each image of a crash.
  pub record FindsTheNode (role : Role) (identity : List ℕ) (call : Call told plan faults dig) : Type 0 where
    pub runs : call.asked ≡ ToRun role → call.status ≢ NotJournal
    pub begins : (disks : Begun) (anew : List ℕ) → call.asked ≡ ToBegin disks anew → call.status ≢ Done
    pub handed : Stand dig told role (identity_alone identity) call.old
    pub left : Stand dig told role (identity_alone identity) call.new

  -- Once a node was begun, each later call finds it: no run of its role is refused as no journal, and no init begins
  -- one again.
  abbrev pub BegunNodesStay : Type 0
  BegunNodesStay = (role : Role) (later earlier : List (Call told plan faults dig)) (first : Call told plan faults dig)
      → IsLife told plan faults dig (later ++ first ∷ earlier) → (begins : Begins role first)
      → All (FindsTheNode role begins.identity) later

  -- What a run wrote is a beginning of its answers and of what it says of its end behind them: each byte of an answer
  -- is of a line that it answered.
  pub record WroteAnswers (call : Call told plan faults dig) (ran : Ran) : Type 0 where
    pub last : List ℕ
    pub ends : IsLastLine last
    pub wrote : WroteFront call.outside.taken call.outside.after (ran.text ++ last)

  abbrev pub RunsWriteTheirAnswers : Type 0
  RunsWriteTheirAnswers = (call : Call told plan faults dig) (ran : Ran)
      → ran_in told plan faults dig call ≡ Some ran → WroteAnswers call ran

  -- These records stand in a call of a node of the role: in each image that a crash may leave of the disks that it is
  -- handed, and in front of what a run of the role finds.
  pub record StandIn (role : Role) (records : WalletRecords) (call : Call told plan faults dig) : Type 0 where
    pub handed : Stand dig told role records call.old
    pub found : (ran : Ran) → call.asked ≡ ToRun role → ran_in told plan faults dig call ≡ Some ran
        → GoOn records ran.found

  -- The records of the lines that a run answered stand in every later call; and a byte of an answer is written of these
  -- alone.
  abbrev pub AnsweredRecordsStand : Type 0
  AnsweredRecordsStand = (role : Role) (later between earlier : List (Call told plan faults dig))
      (call first : Call told plan faults dig) (ran : Ran)
      → IsLife told plan faults dig (later ++ call ∷ (between ++ first ∷ earlier)) → Begins role first
      → call.asked ≡ ToRun role → ran_in told plan faults dig call ≡ Some ran
      → All (StandIn role ran.left) later

  -- What a leaf of a wallet's key gave out is one message with one signature, in all that was written out by all runs
  -- since the wallet was begun.
  abbrev pub LeavesGiveOutOneMessage : Type 0
  LeavesGiveOutOneMessage = (later earlier : List (Call told plan faults dig))
      (first one other : Call told plan faults dig) (q : ℕ) (made also : List ℕ)
      → IsLife told plan faults dig (later ++ first ∷ earlier) → Begins Wallet first
      → Contains later one → Contains later other
      → GivesOut told plan faults dig one q made → GivesOut told plan faults dig other q also → made ≡ also
