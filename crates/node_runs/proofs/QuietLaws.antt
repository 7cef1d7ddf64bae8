-- A run that ends for want of memory over a sink that takes none met no fault.
use Rattle.node_runs.proofs.Words.{◌≡◌, ℕ, Bool, true, false, List, Option, Result, Ok, Err, is_ok, inl, inr, refl, ap, ◌∙◌, subst, History, FaultPlan, is_device_fault, InitRefusal, InitMade, InitFault, InitNoMemory, JournalRefusal, JournalFault, RootCall, is_init_fault, NotesState, NodeMemory, Parts, alone, both, NotesAt, with_note, with_effect, NodeAt, Commands, outcome_at, node_does, IsNodeAt, StoppedAt, Ending, Complete, Status, NoMemory, FaultsBy, status_of, node_opened, KeepsNode, Counts, CountsEither, Outside, RunsUnfailed, node_rules, node_found}
use Rattle.node_runs.proofs.DiskLaws.{disks_of, node-keeps, node-starved}
use Rattle.node_runs.proofs.FaultLaws.{met, of_leaves, left-keep, leaves-stay, effect-keeps, session-counts}

-- no session ends so that its status is want of memory
pub status-none : (ending : Ending (List ℕ)) → status_of ending ≡ NoMemory → ⊥
status-none Complete is = cc
status-none ending is = cc

-- what a refusal met that is none for a device fault; and an init's
pub refused-quiet : (Met : Bool → Type 0) (why : JournalRefusal) → (why ≡ JournalFault → ⊥)
    → Met (is_device_fault why) → Met false
refused-quiet Met JournalFault never is = absurd (never refl)
refused-quiet Met why never is = is

pub init-quiet : (Met : Bool → Type 0) (answer : Result Unit InitRefusal) → (answer ≡ Err InitFault → ⊥)
    → Met (is_init_fault answer) → Met false
init-quiet Met (Ok done) never is = is
init-quiet Met (Err InitFault) never is = absurd (never refl)
init-quiet Met (Err (InitMade count)) never is = is
init-quiet Met (Err InitNoMemory) never is = is

-- an init that made nothing was refused
pub init-refused : (Did : Result Unit InitRefusal → Type 0) (answer : Result Unit InitRefusal)
    → (is_ok answer ≡ true → ⊥) → Did answer → (why : InitRefusal) × Did (Err why)
init-refused Did (Ok done) never did = absurd (never refl)
init-refused Did (Err why) never did = (why, did)

-- ---- a session

module _ {D : Type 0} (told : D → Option History) (plan : D → Option FaultPlan) (faults : D → ℕ)
    (dig : List ℕ → List ℕ) where
  -- a node's disks are where they keep what they have, with the faults that they had when it was opened
  abbrev pub Quiet : Parts (NotesState D) → Parts (NotesState D) → Type 0
  Quiet opened node =
      (at : Parts NotesAt) × (met at ≡ met (node_opened told faults opened))
      × KeepsNode told faults at (disks_of node)

  module _ {L : Type 0} (commands : Commands L) (opened node : Parts (NotesState D)) (Left : NodeAt NotesAt → Type 0)
      (Stopped : List RootCall → NodeAt NotesAt → L → Type 0)
      (left : (at : NodeAt NotesAt) → Left at → IsNodeAt told faults at.kept node)
      (stopped : (log : List RootCall) (at : NodeAt NotesAt) (line : L) → Stopped log at line
      → StoppedAt told faults (outcome_at commands log at line) at.kept NodeMemory node) where
    starved : (log : List RootCall) (at : NodeAt NotesAt) (line : L)
        → met at.kept ≡ met (node_opened told faults opened) → Stopped log at line → Quiet opened node
    starved log at line same is =
        let outcome = outcome_at commands log at line in
        elim (node-starved told faults outcome at.kept node (stopped log at line is)) [
          | inl keeps ↦ (at.kept, same, keeps)
          | inr keeps ↦ (with_effect with_note at.kept outcome, effect-keeps at.kept outcome ∙ same, keeps)
        ]

    pub session-quiet : (outside : Outside) (failed : Type 0) (status : Status) → status ≡ NoMemory
        → RunsUnfailed (node_rules told plan faults dig commands opened) commands.command_in
        (node_found told plan faults dig opened) Left Stopped outside failed status
        → Quiet opened node
    session-quiet outside failed status is runs =
        let counts : FaultsBy status (λ fault. Quiet opened node) =
        session-counts (commands.tag opened.notes.records) commands.command_in (node_does commands)
        (λ (at : NodeAt NotesAt). met at.kept)
        (λ log at line next text done.
        left-keep (λ (a : NodeAt NotesAt). met a.kept) _ next (outcome_at commands log at line).says text done
        ∙ effect-keeps at.kept (outcome_at commands log at line))
        (node_found told plan faults dig opened) Left (λ log at line. ⊥) Stopped (λ fault. Quiet opened node)
        (λ at same there. (at.kept, same, node-keeps told faults at.kept node (left at there)))
        (λ log at line same never. absurd never)
        starved outside failed status runs in
        (subst (λ (s : Status). FaultsBy s (λ fault. Quiet opened node)) is counts).1

  -- the disks of one that has notes alone, and of one that has leaves too
  pub alone-quiet : (opened new : NotesState D) (old : D) → faults opened.disk ≡ faults old
      → Quiet (alone opened) (alone new) → Counts faults old new.disk false
  unfolding met
  alone-quiet opened new old count (at, same, keeps) =
      keeps.0.faults_are ∙ ap (λ (n : ℕ × ℕ). n.0) same ∙ count

  pub both-quiet : (opened desk new_notes new_desk : NotesState D) (notes leaves : D)
      → faults opened.disk ≡ faults notes → faults desk.disk ≡ faults leaves
      → Quiet (both opened desk) (both new_notes new_desk)
      → CountsEither faults notes leaves new_notes.disk new_desk.disk false
  unfolding met of_leaves
  both-quiet opened desk new_notes new_desk notes leaves of_notes of_desk (at, same, keeps) = (
    keeps.0.faults_are ∙ ap (λ (n : ℕ × ℕ). n.0) same ∙ of_notes,
    leaves-stay told faults at.leaves new_desk.disk keeps.1 ∙ ap (λ (n : ℕ × ℕ). n.1) same ∙ of_desk,
  )
