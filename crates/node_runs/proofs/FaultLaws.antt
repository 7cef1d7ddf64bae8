-- The faults that a run's disks met, by its status.
use Rattle.node_runs.proofs.Words.{◌≡◌, ℕ, Bool, option_map, true, false, List, [], Option, Some, None, Result, Ok, Err, inl, inr, refl, sym, ap, ◌∙◌, subst, unwrap_or, History, FaultPlan, is_device_fault, InitRefusal, InitMade, InitFault, InitNoMemory, JournalRefusal, JournalPlace, JournalFault, JournalNoMemory, RootCall, BeginsPair, is_init_fault, NotesState, Ending, Complete, stream_of, begun, calls_of, session_rules, ok-same, session-keeps, run-keeps, Outcome, NotesAt, with_note, Parts, alone, both, OfLeaves, with_effect, PartFails, NodeAt, Commands, left_with, outcome_at, node_does, watcher_commands, operator_commands, desk_commands, wallet_commands, operator_is, notes_part, leaves_part, Status, Done, Refused, Usage, BadLineStatus, ReadFaultStatus, WriteFault, DeviceFault, NoMemory, TooLongStatus, NotJournal, AlreadyMade, FaultsBy, EndsAs, IsUnbound, RefusesWallet, status_of, session_output, fault_output, refused_output, init_output, Keeps, MayKeep, node_opened, KeepsNode, NodeFailed, Counts, CountsEither, InitsNotes, InitsPair, NodeSession, RunsWatcher, RunsWallet, RefusesDesk, RunsBehind, RunsOperator, Outside, RunsSession}
use Rattle.plasma_base.specs.Causes.{faults_after}
use Rattle.run_endings.proofs.FaultLaws.{other-status, none-met, by-more, one-met}

-- ---- by the output

session-other : (ending : Ending (List ℕ)) → status_of ending ≡ DeviceFault → ⊥
session-other Complete is = cc
session-other ending is = cc

-- ---- a session

module _ {A L : Type 0} (tag : List ℕ) (command_in : List ℕ → Option L)
    (does : List RootCall → A → L → Result (A × List ℕ) (List ℕ)) {M : Type 0} (part : A → M)
    (kept : (log : List RootCall) (at : A) (command : L) (left : A) (text : List ℕ)
    → does log at command ≡ Ok (left, text) → part left ≡ part at)
    (found : A) (Left : A → Type 0) (Faulted Unanswered : List RootCall → A → L → Type 0) (Met : Bool → Type 0)
    (left : (at : A) → part at ≡ part found → Left at → Met false)
    (faulted : (log : List RootCall) (at : A) (command : L) → part at ≡ part found → Faulted log at command → Met true)
    (unanswered : (log : List RootCall) (at : A) (command : L) → part at ≡ part found → Unanswered log at command
    → Met false) where
  pub session-counts : (outside : Outside) (failed : Type 0) (status : Status)
      → RunsSession (session_rules tag command_in does) command_in found Left Faulted Unanswered outside failed status
      → FaultsBy status Met
  session-counts outside failed status (inl is) =
      let ended = stream_of (session_rules tag command_in does) (begun found) is.bytes is.ended in
      none-met Met status
      (other-status (session_output ended) status _ _ _ (session-other ended.ending) is.ends)
      (left ended.stream.run.node (session-keeps tag command_in does part kept found is.bytes is.ended) is.left)
  session-counts outside failed status (inr (inl is)) =
      one-met Met (fault_output is.stream.text) status _ _ _ refl is.ends
      (faulted (calls_of is.stream.run.log) is.stream.run.node is.left.1.0
      (run-keeps tag command_in does part kept found is.begins.front is.stream is.begins.runs) is.left.1.2)
  session-counts outside failed WriteFault (inr (inr is)) = (
    false,
    left is.stream.run.node
        (run-keeps tag command_in does part kept found is.begins.front is.stream is.begins.runs) is.left,
  )
  session-counts outside failed NoMemory (inr (inr is)) =
      let same = run-keeps tag command_in does part kept found is.begins.front is.stream is.begins.runs in (
        false,
        elim is.left [
          | inl there ↦ left is.stream.run.node same there
          | inr next ↦ unanswered (calls_of is.stream.run.log) is.stream.run.node next.1.0 same next.1.2
        ],
      )
  session-counts outside failed Done (inr (inr is)) = absurd is.left
  session-counts outside failed Refused (inr (inr is)) = absurd is.left
  session-counts outside failed Usage (inr (inr is)) = absurd is.left
  session-counts outside failed BadLineStatus (inr (inr is)) = absurd is.left
  session-counts outside failed ReadFaultStatus (inr (inr is)) = absurd is.left
  session-counts outside failed DeviceFault (inr (inr is)) = absurd is.left
  session-counts outside failed TooLongStatus (inr (inr is)) = absurd is.left
  session-counts outside failed NotJournal (inr (inr is)) = absurd is.left
  session-counts outside failed AlreadyMade (inr (inr is)) = absurd is.left

-- ---- what was refused

refused-counts : (Met : Bool → Type 0) (why : JournalRefusal) (status : Status) (before after : Option (List ℕ))
    → EndsAs (refused_output why) status before after ⊥ → Met (is_device_fault why) → FaultsBy status Met
refused-counts Met JournalFault status before after ends met = one-met Met (fault_output []) status _ _ _ refl ends met
refused-counts Met why status before after ends met =
    none-met Met status (other-status (refused_output why) status _ _ _ (λ is. cc (is)) ends) met

init-counts : (Met : Bool → Type 0) (answer : Result Unit InitRefusal) (status : Status)
    (before after : Option (List ℕ)) → EndsAs (init_output answer) status before after ⊥ → Met (is_init_fault answer)
    → FaultsBy status Met
init-counts Met (Ok done) status before after ends met =
    none-met Met status (other-status (init_output (Ok done)) status _ _ _ (λ is. cc (is)) ends) met
init-counts Met (Err InitFault) status before after ends met = one-met Met (fault_output []) status _ _ _ refl ends met
init-counts Met (Err (InitMade count)) status before after ends met =
    none-met Met status (other-status (init_output (Err (InitMade count))) status _ _ _ (λ is. cc (is)) ends) met
init-counts Met (Err InitNoMemory) status before after ends met =
    none-met Met status (other-status (init_output (Err InitNoMemory)) status _ _ _ (λ is. cc (is)) ends) met

-- ---- what a command keeps

notes-keep : (at : NotesAt) (added : Option (List ℕ)) → (with_note at added).faults ≡ at.faults
notes-keep at None = refl
notes-keep at (Some body) = refl

-- the faults of the leaves that a node has
unfoldable pub of_leaves : Option NotesAt → ℕ
of_leaves leaves = unwrap_or (option_map (λ at. at.faults) leaves) 0

leaves-keep : (leaves : Option NotesAt) (added : Option (List ℕ))
    → of_leaves (option_map (λ at. with_note at added) leaves) ≡ of_leaves leaves
unfolding of_leaves
leaves-keep None added = refl
leaves-keep (Some at) added = notes-keep at added

-- the faults of both parts
unfoldable pub met : Parts NotesAt → ℕ × ℕ
met at = (at.notes.faults, of_leaves at.leaves)

pub effect-keeps : (at : Parts NotesAt) (outcome : Outcome) → met (with_effect with_note at outcome) ≡ met at
unfolding met
effect-keeps at outcome = λ i. (notes-keep at.notes outcome.note i, leaves-keep at.leaves outcome.leaf i)

pub left-keep : {A M : Type 0} (part : A → M) (next left : A) (says : Result (List ℕ) (List ℕ)) (text : List ℕ)
    → left_with next says ≡ Ok (left, text) → part left ≡ part next
left-keep part next left (Ok answer) text is =
    ap (λ (p : _ × List ℕ). part p.0) (sym (ok-same _ (next, answer) (left, text) refl is))
left-keep part next left (Err cause) text is = absurd (cc (is))

-- ---- over disks that count their faults

module _ {D : Type 0} (told : D → Option History) (faults : D → ℕ) where
  failed-counts : (added : Option (List ℕ)) (at : NotesAt) (disk : D)
      → PartFails (MayKeep told faults) added (Some at) (Some disk) → faults disk ≡ faults_after at.faults true
  failed-counts None at disk never = absurd never
  failed-counts (Some body) at disk is = is.faults_are

  -- the faults of the leaves' disk of a node that has one
  pub leaves-stay : (at : Option NotesAt) (disk : D) → OfLeaves (Keeps told faults) at (Some disk)
      → faults disk ≡ of_leaves at
  unfolding of_leaves
  leaves-stay None disk never = absurd never
  leaves-stay (Some at) disk is = is.faults_are

  leaves-fail : (added : Option (List ℕ)) (at : Option NotesAt) (disk : D)
      → PartFails (MayKeep told faults) added at (Some disk) → faults disk ≡ faults_after (of_leaves at) true
  unfolding of_leaves
  leaves-fail None at disk never = absurd never
  leaves-fail (Some body) None disk never = absurd never
  leaves-fail (Some body) (Some at) disk is = is.faults_are

  -- one that has none meets no fault there
  none-fails : (added : Option (List ℕ)) (at : Option NotesAt)
      → PartFails {P = D} (MayKeep told faults) added at None → ⊥
  none-fails None at never = never
  none-fails (Some body) None never = never
  none-fails (Some body) (Some at) never = never

  module _ (notes leaves new_notes new_leaves : D) where
    pub notes-met : (fault : Bool) → Counts faults notes new_notes fault → Counts faults leaves new_leaves false
        → CountsEither faults notes leaves new_notes new_leaves fault
    notes-met true met none = inl (met, none)
    notes-met false met none = (met, none)

    leaves-met : (fault : Bool) → Counts faults notes new_notes false → Counts faults leaves new_leaves fault
        → CountsEither faults notes leaves new_notes new_leaves fault
    leaves-met true none met = inr (none, met)
    leaves-met false none met = (none, met)

-- ---- a node

module _ {D : Type 0} (told : D → Option History) (plan : D → Option FaultPlan) (faults : D → ℕ)
    (dig : List ℕ → List ℕ) where
  -- a session of a node that was opened, by what its disks met where it keeps them, and where it failed
  node-counts : {L : Type 0} (commands : Commands L) (opened : Parts (NotesState D)) (disks : Parts D)
      (Met : Bool → Type 0)
      → ((at : Parts NotesAt) → met at ≡ met (node_opened told faults opened) → KeepsNode told faults at disks
      → Met false)
      → ((at : Parts NotesAt) (outcome : Outcome) → met at ≡ met (node_opened told faults opened)
      → NodeFailed told faults outcome at disks → Met true)
      → (outside : Outside) (failed : Type 0) (status : Status)
      → NodeSession told plan faults dig commands opened disks outside failed status → FaultsBy status Met
  node-counts commands opened disks Met kept failed_so outside failed status runs =
      session-counts (commands.tag opened.notes.records) commands.command_in (node_does commands)
      (λ (at : NodeAt NotesAt). met at.kept)
      (λ log at line left text is.
      left-keep (λ (a : NodeAt NotesAt). met a.kept) _ left (outcome_at commands log at line).says text is
      ∙ effect-keeps at.kept (outcome_at commands log at line))
      _ _ _ _ Met
      (λ at same keeps. kept at.kept same keeps)
      (λ log at line same is. failed_so at.kept (outcome_at commands log at line) same is)
      (λ log at line same keeps.
      kept (with_effect with_note at.kept (outcome_at commands log at line))
      (effect-keeps at.kept (outcome_at commands log at line) ∙ same) keeps)
      outside failed status runs

  -- one that has notes alone
  alone-counts : {L : Type 0} (commands : Commands L) (opened : NotesState D) (old new : D)
      → faults opened.disk ≡ faults old → (outside : Outside) (failed : Type 0) (status : Status)
      → NodeSession told plan faults dig commands (alone opened) (alone new) outside failed status
      → FaultsBy status (Counts faults old new)
  unfolding met
  alone-counts commands opened old new count outside failed status runs =
      node-counts commands (alone opened) (alone new) (Counts faults old new)
      (λ at same keeps. keeps.0.faults_are ∙ ap (λ (n : ℕ × ℕ). n.0) same ∙ count) by outside failed status runs
    where
      by : (at : Parts NotesAt) (outcome : Outcome) → met at ≡ met (node_opened told faults (alone opened))
          → NodeFailed told faults outcome at (alone new) → Counts faults old new true
      by at outcome same (inl (fails, keeps)) =
          failed-counts told faults outcome.note at.notes new fails
          ∙ ap (λ n. faults_after n true) (ap (λ (n : ℕ × ℕ). n.0) same ∙ count)
      by at outcome same (inr (keeps, fails)) = absurd (none-fails told faults outcome.leaf at.leaves fails)

  -- one that has leaves too
  both-count : {L : Type 0} (commands : Commands L) (opened desk : NotesState D)
      (notes leaves new_notes new_leaves : D) → faults opened.disk ≡ faults notes → faults desk.disk ≡ faults leaves
      → (outside : Outside) (failed : Type 0) (status : Status)
      → NodeSession told plan faults dig commands (both opened desk) (both new_notes new_leaves) outside failed status
      → FaultsBy status (CountsEither faults notes leaves new_notes new_leaves)
  unfolding met of_leaves
  both-count commands opened desk notes leaves new_notes new_leaves of_notes of_desk outside failed status runs =
      node-counts commands (both opened desk) (both new_notes new_leaves)
      (CountsEither faults notes leaves new_notes new_leaves)
      (λ at same keeps. (
        keeps.0.faults_are ∙ first at same,
        leaves-stay told faults at.leaves new_leaves keeps.1 ∙ second at same,
      ))
      by outside failed status runs
    where
      first : (at : Parts NotesAt) → met at ≡ met (node_opened told faults (both opened desk))
          → at.notes.faults ≡ faults notes
      first at same = ap (λ (n : ℕ × ℕ). n.0) same ∙ of_notes

      second : (at : Parts NotesAt) → met at ≡ met (node_opened told faults (both opened desk))
          → of_leaves at.leaves ≡ faults leaves
      second at same = ap (λ (n : ℕ × ℕ). n.1) same ∙ of_desk

      by : (at : Parts NotesAt) (outcome : Outcome) → met at ≡ met (node_opened told faults (both opened desk))
          → NodeFailed told faults outcome at (both new_notes new_leaves)
          → CountsEither faults notes leaves new_notes new_leaves true
      by at outcome same (inl (fails, keeps)) = inl (
        failed-counts told faults outcome.note at.notes new_notes fails ∙ ap (λ n. faults_after n true) (first at same),
        leaves-stay told faults at.leaves new_leaves keeps ∙ second at same,
      )
      by at outcome same (inr (keeps, fails)) = inr (
        keeps.faults_are ∙ notes-keep at.notes outcome.note ∙ first at same,
        leaves-fail told faults outcome.leaf at.leaves new_leaves fails
            ∙ ap (λ n. faults_after n true) (second at same),
      )

  pub watcher-counts : (old new : D) (outside : Outside) (failed : Type 0) (status : Status)
      → RunsWatcher told plan faults dig old new outside failed status → FaultsBy status (Counts faults old new)
  unfolding RunsWatcher
  watcher-counts old new outside failed status (inl (opened, opens, runs)) =
      alone-counts watcher_commands opened old new opens.count outside failed status runs
  watcher-counts old new outside failed status (inr (why, refuses, refused)) =
      refused-counts (Counts faults old new) why status _ _ refused.ends refuses.count

  -- ---- an operator

  module _ (notes leaves new_notes new_leaves : D) where
    pub desk-met : (seed : List ℕ) (why : JournalRefusal) → RefusesDesk told plan faults dig seed leaves why new_leaves
        → faults new_notes ≡ faults notes
        → CountsEither faults notes leaves new_notes new_leaves (is_device_fault why)
    desk-met seed why (inl refuses) same =
        leaves-met told faults notes leaves new_notes new_leaves (is_device_fault why) same refuses.count
    desk-met seed why (inr (starved, stays)) same =
        subst (λ w. CountsEither faults notes leaves new_notes new_leaves (is_device_fault w)) (sym starved)
        (same, ap faults stays)

    behind-counts : (seed : Option (List ℕ)) (opened : NotesState D) → faults opened.disk ≡ faults notes
        → (outside : Outside) (failed : Type 0) (status : Status)
        → RunsBehind told plan faults dig seed opened leaves new_notes new_leaves outside failed status
        → FaultsBy status (CountsEither faults notes leaves new_notes new_leaves)
    behind-counts None opened count outside failed status (runs, stays) =
        by-more (Counts faults notes new_notes) (CountsEither faults notes leaves new_notes new_leaves)
        (λ fault met. notes-met told faults notes leaves new_notes new_leaves fault met (ap faults stays)) status
        (alone-counts operator_commands opened notes new_notes count outside failed status runs)
    behind-counts (Some seed) opened count outside failed status (inl (desk, opens, runs)) =
        both-count desk_commands opened desk notes leaves new_notes new_leaves count opens.count outside failed status
        runs
    behind-counts (Some seed) opened count outside failed status (inr (why, refuses, refused)) =
        refused-counts (CountsEither faults notes leaves new_notes new_leaves) why status _ _ refused.ends
        (desk-met seed why refuses.0 (ap faults refuses.1 ∙ count))

    pub operator-counts : (outside : Outside) (failed : Type 0) (status : Status)
        → RunsOperator told plan faults dig notes leaves new_notes new_leaves outside failed status
        → FaultsBy status (CountsEither faults notes leaves new_notes new_leaves)
    unfolding RunsOperator
    operator-counts outside failed status (inl (opened, opens, behind)) =
        behind-counts (operator_is opened.records).key_seed opened opens.count outside failed status behind
    operator-counts outside failed status (inr (why, refuses, refused)) =
        refused-counts (CountsEither faults notes leaves new_notes new_leaves) why status _ _ refused.ends
        (notes-met told faults notes leaves new_notes new_leaves (is_device_fault why) refuses.0.count
        (ap faults refuses.1))

  -- ---- a wallet

  module _ (notes leaves new_notes new_leaves : D) where
    unbound-none : (bodies : _) (records : List (List ℕ)) (why : JournalRefusal)
        → IsUnbound dig bodies records why → is_device_fault why ≡ false
    unbound-none bodies records (JournalPlace place) is = refl
    unbound-none bodies records JournalNoMemory is = refl
    unbound-none bodies records why never = absurd never

    pub refused-met : (why : JournalRefusal)
        → RefusesWallet told plan faults dig notes leaves why new_notes new_leaves
        → CountsEither faults notes leaves new_notes new_leaves (is_device_fault why)
    refused-met why (inl (refuses, same)) =
        notes-met told faults notes leaves new_notes new_leaves (is_device_fault why) refuses.count (ap faults same)
    refused-met why (inr (opened, opens, (same, inl refuses))) =
        leaves-met told faults notes leaves new_notes new_leaves (is_device_fault why)
        (ap faults same ∙ opens.count) refuses.count
    refused-met why (inr (opened, opens, (same, inr (behind, opens_leaves, at, unbound)))) =
        subst (CountsEither faults notes leaves new_notes new_leaves) (sym (unbound-none _ _ why unbound))
        (ap faults same ∙ opens.count, ap faults at ∙ opens_leaves.count)

    pub wallet-counts : (outside : Outside) (failed : Type 0) (status : Status)
        → RunsWallet told plan faults dig notes leaves new_notes new_leaves outside failed status
        → FaultsBy status (CountsEither faults notes leaves new_notes new_leaves)
    unfolding RunsWallet
    wallet-counts outside failed status (inl (opened, opens, runs)) =
        both-count wallet_commands (notes_part opened) (leaves_part opened) notes leaves new_notes new_leaves
        opens.opens_notes.count opens.opens_leaves.count outside failed status runs
    wallet-counts outside failed status (inr (why, refuses, refused)) =
        refused-counts (CountsEither faults notes leaves new_notes new_leaves) why status _ _ refused.ends
        (refused-met why refuses)

-- ---- inits

module _ {D : Type 0} (told : D → Option History) (plan : D → Option FaultPlan) (faults : D → ℕ)
    (taken after : Option (List ℕ)) (status : Status) (identity : List ℕ) where
  pub inits-count : (old new : D) → InitsNotes told plan faults taken after status identity old new
      → FaultsBy status (Counts faults old new)
  inits-count old new is = init-counts (Counts faults old new) is.answer status _ _ is.ends is.count

  pub pair-met : (notes leaves new_notes new_leaves : D) (answer : Result Unit InitRefusal)
      → BeginsPair told plan faults told plan faults identity notes leaves answer new_notes new_leaves
      → CountsEither faults notes leaves new_notes new_leaves (is_init_fault answer)
  pair-met notes leaves new_notes new_leaves (Ok done) (asked, asks, passes) =
      (passes.0.count ∙ asks.count, passes.1.count)
  pair-met notes leaves new_notes new_leaves (Err InitFault) (inl (untold, same)) = inl (untold.1, ap faults same)
  pair-met notes leaves new_notes new_leaves (Err InitNoMemory) (inl (untold, same)) =
      (ap faults untold, ap faults same)
  pair-met notes leaves new_notes new_leaves (Err (InitMade count)) (inl (never, same)) = absurd never
  pair-met notes leaves new_notes new_leaves (Err why) (inr (asked, asks, inl (long, inl (refuses, same)))) =
      notes-met told faults notes leaves new_notes new_leaves (is_init_fault {T = Unit} (Err why))
      (refuses.count ∙ ap (λ n. faults_after n (is_init_fault {T = Unit} (Err why))) asks.count) (ap faults same)
  pair-met notes leaves new_notes new_leaves (Err why) (inr (asked, asks, inl (long, inr (inl (passes, refuses))))) =
      leaves-met told faults notes leaves new_notes new_leaves (is_init_fault {T = Unit} (Err why))
      (passes.count ∙ asks.count) refuses.count
  pair-met notes leaves new_notes new_leaves (Err why) (inr (asked, asks, inl (long, inr (inr (stops, passes))))) =
      notes-met told faults notes leaves new_notes new_leaves (is_init_fault {T = Unit} (Err why))
      (stops.count ∙ ap (λ n. faults_after n (is_init_fault {T = Unit} (Err why))) asks.count) passes.count
  pair-met notes leaves new_notes new_leaves (Err why) (inr (asked, asks, inr (short, inl (same, refuses)))) =
      leaves-met told faults notes leaves new_notes new_leaves (is_init_fault {T = Unit} (Err why))
      (ap faults same ∙ asks.count) refuses.count
  pair-met notes leaves new_notes new_leaves (Err why) (inr (asked, asks, inr (short, inr (stops, passes)))) =
      notes-met told faults notes leaves new_notes new_leaves (is_init_fault {T = Unit} (Err why))
      (stops.count ∙ ap (λ n. faults_after n (is_init_fault {T = Unit} (Err why))) asks.count) passes.count

  pub inits-count-either : (notes leaves new_notes new_leaves : D)
      → InitsPair told plan faults taken after status identity notes leaves new_notes new_leaves
      → FaultsBy status (CountsEither faults notes leaves new_notes new_leaves)
  inits-count-either notes leaves new_notes new_leaves is =
      init-counts (CountsEither faults notes leaves new_notes new_leaves) is.answer status _ _ is.ends
      (pair-met notes leaves new_notes new_leaves is.answer is.inits)
