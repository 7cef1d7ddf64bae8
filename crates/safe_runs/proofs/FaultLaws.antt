-- What a status says of the faults of a run's source and disks.
use Rattle.std.proofs.Common.{◌≡◌, ℕ, Bool, true, false, if◌then◌else◌, List, Option, Result, Ok, Err, inl, inr, refl, sym, subst}
use Rattle.std.specs.Prelude.{unwrap_or, IfErr}
use Rattle.std.specs.List.{list_all}
use Rattle.gate_journal.specs.Journal.{is_device_fault, is_fault}
use Rattle.gate_journal.specs.declared.refusal.JournalRefusal.{JournalRefusal}
use Rattle.gate_journal.specs.declared.refusal.JournalRefusal.TheVariants.{AlreadyMade as JournalMade, NotJournal as JournalPlace, DeviceFault as JournalFault, Closed as JournalClosed, RecordTooLong as JournalLong, NoMemory as JournalNoMemory}
use Rattle.plasma_tx.specs.Views.{now}
use Rattle.node_sessions.specs.Sessions.{calls_of}
use Rattle.streamed_lines.specs.declared.ending.Ending.{Ending}
use Rattle.streamed_lines.specs.declared.ending.Ending.TheVariants.{Complete, BadLine as BadLineEnding, ReadFault as ReadFaultEnding, TooLong as TooLongEnding, Ended}
use Rattle.streamed_lines.specs.Outside.{ReadsToFault}
use Rattle.streamed_lines.specs.Reading.{is_read_fault}
use Rattle.run_endings.specs.declared.status.Status.{Status}
use Rattle.run_endings.specs.declared.status.Status.TheVariants.{Done, Refused, Usage, BadLine, ReadFault, WriteFault, DeviceFault, NoMemory, TooLong, NotJournal, AlreadyMade}
use Rattle.run_endings.specs.Statuses.{FaultsBy, ReadsBy}
use Rattle.run_endings.specs.Outputs.{Output, EndsAs}
use Rattle.safe_runs.specs.Answers.{is_case_good}
use Rattle.safe_runs.specs.Sessions.{LookState}
use Rattle.run_endings.specs.Faults.{Counts, CountsEither}
use Rattle.run_endings.proofs.FaultLaws.{other-status, none-met as none-status, one-met}
use Rattle.safe_runs.specs.Runs.{Node, IsRefused, ended_output, refused_output, whole_output}

-- ---- of the source

-- the status says that the source failed
abbrev says_read : Status → Bool
says_read ReadFault = true
says_read status = false

pub reads-by : (Reads : Bool → Type 0) (output : Output) (status : Status) (before after : Option (List ℕ))
    (failed : Type 0) → EndsAs output status before after failed → Reads (says_read output.status)
    → ReadsBy status Reads
reads-by Reads output ReadFault before after failed ends reads =
    subst (λ (s : Status). Reads (says_read s)) ends.0.0 reads
reads-by Reads output WriteFault before after failed ends reads = (says_read output.status, reads)
reads-by Reads output NoMemory before after failed ends reads = (says_read output.status, reads)
reads-by Reads output Done before after failed ends reads = subst (λ (s : Status). Reads (says_read s)) ends.0 reads
reads-by Reads output Refused before after failed ends reads = subst (λ (s : Status). Reads (says_read s)) ends.0 reads
reads-by Reads output Usage before after failed ends reads = subst (λ (s : Status). Reads (says_read s)) ends.0 reads
reads-by Reads output BadLine before after failed ends reads = subst (λ (s : Status). Reads (says_read s)) ends.0 reads
reads-by Reads output DeviceFault before after failed ends reads =
    subst (λ (s : Status). Reads (says_read s)) ends.0 reads
reads-by Reads output TooLong before after failed ends reads = subst (λ (s : Status). Reads (says_read s)) ends.0 reads
reads-by Reads output NotJournal before after failed ends reads =
    subst (λ (s : Status). Reads (says_read s)) ends.0 reads
reads-by Reads output AlreadyMade before after failed ends reads =
    subst (λ (s : Status). Reads (says_read s)) ends.0 reads

-- a source that wasn't read
pub unread : (faults : ℕ) (failed_last : Bool) → ReadsToFault faults faults failed_last false
unread faults failed_last = record { count = refl; last = λ wrong. absurd (cc wrong) }

-- ---- of what is said of coins

-- it is Done or Refused
whole-is : (P : Status → Type 0) → P Done → P Refused → (node : Node) (run : LookState)
    → P (whole_output node run).status
whole-is P done refused node run =
    by (list_all (is_case_good (calls_of run.log) node.account (unwrap_or run.node.clock (now (calls_of run.log))))
    (node.cases (calls_of run.log) run.node.hidden))
  where
    by : (good : Bool) → P (if good then Done else Refused)
    by true = done
    by false = refused

pub ended-read : (node : Node) (run : LookState) (ending : Ending (List ℕ))
    → is_read_fault (Ok ending) ≡ says_read (ended_output node run ending).status
ended-read node run Complete = whole-is (λ (s : Status). false ≡ says_read s) refl refl node run
ended-read node run (BadLineEnding n) = refl
ended-read node run ReadFaultEnding = refl
ended-read node run (TooLongEnding n) = refl
ended-read node run (Ended n cause) = refl

pub ended-other : (node : Node) (run : LookState) (ending : Ending (List ℕ))
    → (ended_output node run ending).status ≡ DeviceFault → ⊥
ended-other node run Complete is =
    whole-is (λ (s : Status). s ≡ DeviceFault → ⊥) (λ wrong. absurd (cc wrong)) (λ wrong. absurd (cc wrong)) node run is
ended-other node run (BadLineEnding n) is = absurd (cc is)
ended-other node run ReadFaultEnding is = absurd (cc is)
ended-other node run (TooLongEnding n) is = absurd (cc is)
ended-other node run (Ended n cause) is = absurd (cc is)

-- ---- of the disks

-- no fault was met
pub none-met : (Met : Bool → Type 0) (output : Output) (status : Status) (before after : Option (List ℕ))
    (failed : Type 0) → (output.status ≡ DeviceFault → ⊥) → EndsAs output status before after failed → Met false
    → FaultsBy status Met
none-met Met output status before after failed never ends none =
    none-status Met status (other-status output status before after failed never ends) none

-- ---- of a run whose disks weren't read, or spell no node

module _ (status : Status) (before after : Option (List ℕ)) where
  pub refused-met : (Met : Bool → Type 0) (why : JournalRefusal)
      → EndsAs (refused_output why) status before after ⊥ → Met (is_device_fault why) → FaultsBy status Met
  refused-met Met JournalFault ends met = one-met Met (refused_output JournalFault) status before after ⊥ refl ends met
  refused-met Met (JournalPlace place) ends met =
      none-met Met (refused_output (JournalPlace place)) status before after ⊥ (λ is. absurd (cc is)) ends met
  refused-met Met JournalNoMemory ends met =
      none-met Met (refused_output JournalNoMemory) status before after ⊥ (λ is. absurd (cc is)) ends met
  refused-met Met JournalClosed ends met =
      none-met Met (refused_output JournalClosed) status before after ⊥ (λ is. absurd (cc is)) ends met
  refused-met Met (JournalMade size) ends met =
      none-met Met (refused_output (JournalMade size)) status before after ⊥ (λ is. absurd (cc is)) ends met
  refused-met Met (JournalLong size) ends met =
      none-met Met (refused_output (JournalLong size)) status before after ⊥ (λ is. absurd (cc is)) ends met

  no-read : (why : JournalRefusal) → false ≡ says_read (refused_output why).status
  no-read JournalFault = refl
  no-read (JournalPlace place) = refl
  no-read JournalNoMemory = refl
  no-read JournalClosed = refl
  no-read (JournalMade size) = refl
  no-read (JournalLong size) = refl

  pub refused-read : (Reads : Bool → Type 0) (why : JournalRefusal)
      → EndsAs (refused_output why) status before after ⊥ → Reads false → ReadsBy status Reads
  refused-read Reads why ends reads =
      reads-by Reads (refused_output why) status before after ⊥ ends (subst Reads (no-read why) reads)

-- a refusal for another cause than a device fault met none
pub refused-unmet : (Met : Bool → Type 0) (why : JournalRefusal) → (why ≡ JournalFault → ⊥)
    → Met (is_device_fault why) → Met false
refused-unmet Met JournalFault never met = absurd (never refl)
refused-unmet Met (JournalPlace place) never met = met
refused-unmet Met JournalNoMemory never met = met
refused-unmet Met JournalClosed never met = met
refused-unmet Met (JournalMade size) never met = met
refused-unmet Met (JournalLong size) never met = met

-- lines that a fault of the source didn't end met none
pub ended-unmet : (Reads : Bool → Type 0) (ending : Ending (List ℕ)) → (ending ≡ ReadFaultEnding → ⊥)
    → Reads (is_read_fault (Ok ending)) → Reads false
ended-unmet Reads Complete never reads = reads
ended-unmet Reads (BadLineEnding n) never reads = reads
ended-unmet Reads ReadFaultEnding never reads = absurd (never refl)
ended-unmet Reads (TooLongEnding n) never reads = reads
ended-unmet Reads (Ended n cause) never reads = reads

-- an image that isn't taken for a node's is no fault
pub no-fault : (read : Result Node ℕ) (why : JournalRefusal) → IsRefused read why → is_device_fault why ≡ false
no-fault read JournalFault never = absurd never
no-fault read (JournalPlace place) is = refl
no-fault read JournalNoMemory is = refl
no-fault read JournalClosed is = refl
no-fault read (JournalMade size) is = refl
no-fault read (JournalLong size) is = refl

pub result-no-fault : {T : Type 0} (read : Result Node ℕ) (result : Result T JournalRefusal)
    → IfErr result (IsRefused read) → false ≡ is_fault result
result-no-fault read (Ok done) refused = refl
result-no-fault read (Err why) refused = sym (no-fault read why refused)

-- ---- one of two disks

module _ {D : Type 0} (faults : D → ℕ) where
  -- the first was read, and the other wasn't asked
  pub first-only : (old new other : D) (fault : Bool) → Counts faults old new fault
      → CountsEither faults old other new other fault
  first-only old new other true met = inl (met, refl)
  first-only old new other false met = (met, refl)

  -- the first was read without a fault, and then the other
  pub second-only : (old new other later : D) (fault : Bool) → Counts faults old new false
      → Counts faults other later fault → CountsEither faults old other new later fault
  second-only old new other later true none met = inr (none, met)
  second-only old new other later false none met = (none, met)

  -- a run that used one alone
  pub by-first : (old new other : D) (status : Status) → FaultsBy status (Counts faults old new)
      → FaultsBy status (CountsEither faults old other new other)
  by-first old new other DeviceFault is = first-only old new other true is
  by-first old new other WriteFault is = (is.0, first-only old new other is.0 is.1)
  by-first old new other NoMemory is = (is.0, first-only old new other is.0 is.1)
  by-first old new other Done is = first-only old new other false is
  by-first old new other Refused is = first-only old new other false is
  by-first old new other Usage is = first-only old new other false is
  by-first old new other BadLine is = first-only old new other false is
  by-first old new other ReadFault is = first-only old new other false is
  by-first old new other TooLong is = first-only old new other false is
  by-first old new other NotJournal is = first-only old new other false is
  by-first old new other AlreadyMade is = first-only old new other false is
