-- A node that is somewhere, behind a command.
use Rattle.node_roles.proofs.Words.{◌≡◌, ℕ, List, Option, Some, None, option_map, Result, Ok, Err, refl, ap, subst, inl, inr, IfOk, IfErr, History, RootCall, NotesState, Stop, Closed, NoMemory, DeviceFault, Said, Outcome, IsSaid, StopsIn, NotesAt, with_note, StaysAt, IsNotesAt, FailedAt, Parts, both, of_each, OfLeaves, with_effect, EachFails, NodeAt, keeping, records_at, Commands, left_with, node_with, outcome_at, node_does, IsNodeAt, StoppedAt}
use Rattle.node_sessions.specs.declared.said.Said.TheVariants.{Answered, Refused}
use Rattle.node_sessions.specs.Commands.{IsDone}
use Rattle.node_roles.proofs.Refusals.{AddsNothingRefused}

-- what a node did in a command, by what stopped it, and was answered so
abbrev pub DidSo : (Option Stop → Type 0) → Result Said Stop → Type 0
DidSo Did result = (stop : Option Stop) × Did stop × StopsIn result stop

-- a command that adds nothing leaves a node where it is
nothing-kept : (leaves : Option NotesAt) (leaf : Option (List ℕ)) → leaf ≡ None
    → option_map (λ at. with_note at leaf) leaves ≡ leaves
nothing-kept None leaf none = refl
nothing-kept (Some at) leaf none = ap (λ added. Some (with_note at added)) none

nothing-added : (at : Parts NotesAt) (outcome : Outcome) → (outcome.leaf ≡ None) × (outcome.note ≡ None)
    → with_effect with_note at outcome ≡ at
nothing-added at outcome none =
    λ i. record {
      notes = ap (with_note at.notes) none.1 i;
      leaves = nothing-kept at.leaves outcome.leaf none.0 i;
    }

-- over disks that tell their history and count their faults
module _ {D : Type 0} (told : D → Option History) (faults : D → ℕ) where
  -- by what stops a command of this outcome, where it leaves a node that was there
  pub record Goes (outcome : Outcome) (at : Parts NotesAt) (Did : Option Stop → Type 0) (new : Parts (NotesState D))
      : Type 0 where
    pub adds : Did None → IsNodeAt told faults (with_effect with_note at outcome) new
    pub stays : Did (Some NoMemory) → IsNodeAt told faults at new
    pub fails : Did (Some DeviceFault) → EachFails (StaysAt told faults) (FailedAt told faults) outcome at new
    pub never : Did (Some Closed) → ⊥

  -- a node that has leaves is at notes and leaves
  pub with-leaves : (at : Parts NotesAt) (notes leaves : NotesState D) (Q : Parts NotesAt → Type 0)
      → IsNodeAt told faults at (both notes leaves)
      → ((of_notes of_leaves : NotesAt) → IsNotesAt told faults of_notes notes → IsNotesAt told faults of_leaves leaves
      → Q (both of_notes of_leaves))
      → Q at
  with-leaves at notes leaves Q is go = by at.leaves is.1
    where
      by : (of_leaves : Option NotesAt) → OfLeaves (IsNotesAt told faults) of_leaves (Some leaves)
          → Q (record { notes = at.notes; leaves = of_leaves })
      by None none = absurd none
      by (Some of_leaves) there = go at.notes of_leaves is.0 there

  module _ (outcome : Outcome) (at : NodeAt NotesAt) (Did : Option Stop → Type 0) (new : Parts (NotesState D))
      (goes : Goes outcome at.kept Did new) where
    -- a command that was stopped
    stops : (result : Result Said Stop) → DidSo Did result
        → IfErr result (λ stop. StoppedAt told faults outcome at.kept stop new)
    stops (Ok said) did = tt
    stops (Err NoMemory) (None, did, known) = inr (goes.adds did)
    stops (Err NoMemory) (Some NoMemory, did, known) = inl (goes.stays did)
    stops (Err NoMemory) (Some Closed, did, known) = absurd (goes.never did)
    stops (Err NoMemory) (Some DeviceFault, did, inl known) = cc
    stops (Err NoMemory) (Some DeviceFault, did, inr known) = cc
    stops (Err Closed) (stop, did, known) = absurd (goes.never (subst Did known did))
    stops (Err DeviceFault) (stop, did, known) = goes.fails (subst Did known did)

    -- one that was answered, of a node in memory that is there where its parts are
    module _ {N : Type 0} (IsAt : N → NodeAt NotesAt → Type 0) (node : N)
        (there : (left : Parts NotesAt) → IsNodeAt told faults left new → IsAt node (keeping at left))
        (quiet : AddsNothingRefused outcome) (before after : List ℕ) where
      answers : (said : Said) → Did None → IsSaid outcome.says said before after
          → IsDone IsAt (node_with with_note at outcome) at said before after node
      answers Answered did says = (
        keeping at (with_effect with_note at.kept outcome),
        says.0,
        ap (left_with (keeping at (with_effect with_note at.kept outcome))) says.1,
        there (with_effect with_note at.kept outcome) (goes.adds did),
        says.2,
      )
      answers (Refused cause) did says = (
        ap (left_with (keeping at (with_effect with_note at.kept outcome))) says.0,
        there at.kept
            (subst (λ left. IsNodeAt told faults left new) (nothing-added at.kept outcome (quiet cause says.0))
            (goes.adds did)),
        says.1,
      )

      done : (result : Result Said Stop) → DidSo Did result
          → IfOk result (λ said. IsSaid outcome.says said before after)
          → IfOk result (λ said. IsDone IsAt (node_with with_note at outcome) at said before after node)
      done (Err stop) did says = tt
      done (Ok said) (stop, did, known) says = answers said (subst Did known did) says

  -- the records that a node has where it is
  leaves-are : (at : Option NotesAt) (leaves : Option (NotesState D)) → OfLeaves (IsNotesAt told faults) at leaves
      → option_map (λ notes. notes.records) leaves ≡ option_map (λ notes. notes.records) at
  leaves-are None None is = refl
  leaves-are (Some at) (Some leaves) is = ap Some is.there.records_are
  leaves-are None (Some leaves) is = absurd is
  leaves-are (Some at) None is = absurd is

  records-are : (at : Parts NotesAt) (node : Parts (NotesState D)) → IsNodeAt told faults at node
      → of_each (λ notes. notes.records) node ≡ records_at at
  records-are at node is =
      λ i. record {
        notes = is.0.there.records_are i;
        leaves = leaves-are at.leaves node.leaves is.1 i;
      }

  -- ---- a command, by what it comes to at the node in memory

  module _ {L : Type 0} (commands : Commands L) (log : List RootCall) (line : L) (dig : List ℕ → List ℕ)
      (at : NodeAt NotesAt) (old new : Parts (NotesState D)) (same : dig ≡ at.dig)
      (is : IsNodeAt told faults at.kept old) where
    abbrev of_old : Outcome
    of_old = commands.comes_to dig log (of_each (λ notes. notes.records) old) line

    same-outcome : of_old ≡ outcome_at commands log at line
    same-outcome = λ i. commands.comes_to (same i) log (records-are at.kept old is i) line

    module _ (Did : Option Stop → Type 0) (goes : Goes of_old at.kept Did new) (result : Result Said Stop)
        (did : DidSo Did result) where
      pub stopped-at : IfErr result (λ stop. StoppedAt told faults (outcome_at commands log at line) at.kept stop new)
      stopped-at =
          subst (λ outcome. IfErr result (λ stop. StoppedAt told faults outcome at.kept stop new)) same-outcome
          (stops of_old at Did new goes result did)

      pub done-at : {N : Type 0} (IsAt : N → NodeAt NotesAt → Type 0) (node : N)
          → ((left : Parts NotesAt) → IsNodeAt told faults left new → IsAt node (keeping at left))
          → AddsNothingRefused of_old → (before after : List ℕ)
          → IfOk result (λ said. IsSaid of_old.says said before after)
          → IfOk result (λ said. IsDone IsAt (node_does commands log at line) at said before after node)
      done-at IsAt node there quiet before after says =
          subst (λ outcome. IfOk result
          (λ said. IsDone IsAt (node_with with_note at outcome) at said before after node))
          same-outcome (done of_old at Did new goes IsAt node there quiet before after result did says)
