-- A device fault is of one of a wallet's disks.
use Rattle.wallet_node.proofs.Words.{◌≡◌, ◌∙◌, ℕ, true, Option, Some, None, inl, inr, ap, arith, common_steps, History, FaultPlan}
use Rattle.plasma_base.specs.Causes.{faults_after}
use Rattle.wallet_node.specs.Faults.{NotesFaultsAreOfNotes, LeavesFaultsAreOfLeaves, OpeningsFailOnOneDisk, InitsFailOnOneDisk}

module _ {D : Type 0} (told : D → Option History) (plan : D → Option FaultPlan) (faults : D → ℕ) where
  pub notes_faults : (H : Type 0) → NotesFaultsAreOfNotes H told plan faults
  notes_faults H old new None is = absurd is.did
  notes_faults H old new (Some body) is = record { of_notes = is.did.count; of_leaves = ap faults is.disk }

  pub leaves_faults : (H : Type 0) → LeavesFaultsAreOfLeaves H told plan faults
  leaves_faults H old new None is = absurd is.did
  leaves_faults H old new (Some body) is = record { of_notes = ap faults is.disk; of_leaves = is.did.count }

  pub openings_fail : OpeningsFailOnOneDisk told plan faults
  openings_fail dig notes leaves new_notes new_leaves (inl (refuses, same)) =
      inl (record { of_notes = refuses.count; of_leaves = ap faults same })
  openings_fail dig notes leaves new_notes new_leaves (inr (opened, opens, (same, inl refuses))) =
      inr (record { of_notes = ap faults same ∙ opens.count; of_leaves = refuses.count })
  openings_fail dig notes leaves new_notes new_leaves (inr (opened, opens, (same, inr (behind, reads, at, never)))) =
      absurd never

  -- a fault that was counted behind a question that counted none
  asked : (old new : D) (count : ℕ) → faults new ≡ faults old → count ≡ faults_after (faults new) true
      → count ≡ faults_after (faults old) true
  asked old new count none met = met ∙ ap (λ n. faults_after n true) none

  pub inits_fail : InitsFailOnOneDisk told plan faults
  inits_fail identity notes leaves new_notes new_leaves (inl (untold, same)) =
      inl (record { of_notes = untold.1; of_leaves = ap faults same })
  inits_fail identity notes leaves new_notes new_leaves (inr (was, asks, inl (long, inl (refuses, same)))) =
      grind (arith, common_steps, asked) steps 20000
  inits_fail identity notes leaves new_notes new_leaves (inr (was, asks, inl (long, inr (inl (passes, refuses))))) =
      inr (record { of_notes = passes.count ∙ asks.count; of_leaves = refuses.count })
  inits_fail identity notes leaves new_notes new_leaves (inr (was, asks, inl (long, inr (inr (stops, passes))))) =
      inl (record { of_notes = asked notes was (faults new_notes) asks.count stops.count; of_leaves = passes.count })
  inits_fail identity notes leaves new_notes new_leaves (inr (was, asks, inr (short, inl (same, refuses)))) =
      inr (record { of_notes = ap faults same ∙ asks.count; of_leaves = refuses.count })
  inits_fail identity notes leaves new_notes new_leaves (inr (was, asks, inr (short, inr (stops, passes)))) =
      inl (record { of_notes = asked notes was (faults new_notes) asks.count stops.count; of_leaves = passes.count })
