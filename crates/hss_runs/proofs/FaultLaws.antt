-- The faults that a signer's disks met, by the status of its run.
use Rattle.hss_runs.proofs.Words.{◌≡◌, ℕ, Bool, true, false, List, [], Option, Result, Ok, Err, refl, sym, ◌∙◌, ap, subst, inl, inr, faults_after, History, FaultPlan, is_device_fault, NotesState, JournalRefusal, JournalMade, Status, FaultsBy, Output, EndsAs, fault_output, refused_output, seed_of, Signing, signing, said_output, OpensSigner, RefusesSigner, Signs, RunsSigner}
use Rattle.run_endings.specs.declared.status.Status.TheVariants.{ReadFault, WriteFault, DeviceFault, NoMemory}
use Rattle.run_endings.specs.Faults.{CountsEither}
use Rattle.node_runs.proofs.FaultLaws.{notes-met}
use Rattle.hss_runs.proofs.Adding.{adds-count, fails-count}

abbrev is_fault : Status → Bool
is_fault DeviceFault = true
is_fault status = false

-- where the output's status tells whether a fault was met, that of the run does, unless its text was stopped
met-by : (Met : Bool → Type 0) (output : Output) (status : Status) (before after : Option (List ℕ))
    (failed : Type 0) → EndsAs output status before after failed → Met (is_fault output.status) → FaultsBy status Met
met-by Met output WriteFault before after failed ends met = (is_fault output.status, met)
met-by Met output NoMemory before after failed ends met = (is_fault output.status, met)
met-by Met output ReadFault before after failed ends met = subst Met (ap is_fault ends.0.0) met
met-by Met output status before after failed ends met = subst Met (ap is_fault ends.0) met

said-none : (says : Result (List ℕ) (List ℕ)) → is_fault (said_output says).status ≡ false
said-none (Ok text) = refl
said-none (Err cause) = refl

refused-fault : (why : JournalRefusal) → is_fault (refused_output why).status ≡ is_device_fault why
refused-fault (JournalMade count) = refl
refused-fault why = refl

module _ {D : Type 0} (told : D → Option History) (plan : D → Option FaultPlan) (faults : D → ℕ)
    (taken after : Option (List ℕ)) (status : Status) (notes leaves new_notes new_leaves : D) where
  abbrev Met : Bool → Type 0
  Met = CountsEither faults notes leaves new_notes new_leaves

  -- where the notes met none
  leaves-met : (fault : Bool) → faults new_notes ≡ faults notes
      → faults new_leaves ≡ faults_after (faults leaves) fault → Met fault
  leaves-met true none met = inr (none, met)
  leaves-met false none met = (none, met)

  pub refused-met : (why : JournalRefusal) → RefusesSigner told plan faults notes leaves why new_notes new_leaves
      → Met (is_device_fault why)
  refused-met why (inl (refuses, same)) =
      notes-met told faults notes leaves new_notes new_leaves (is_device_fault why) refuses.count (ap faults same)
  refused-met why (inr (opened, opens, (same, refuses))) =
      leaves-met (is_device_fault why) (ap faults same ∙ opens.count) refuses.count

  module _ (opened levels last : NotesState D) (opens : OpensSigner told plan faults notes leaves opened levels)
      (notes_are : new_notes ≡ opened.disk) (leaves_are : new_leaves ≡ last.disk) where
    both : (fault : Bool) → faults last.disk ≡ faults_after (faults levels.disk) fault → Met fault
    both fault met =
        leaves-met fault (ap faults notes_are ∙ opens.opens_notes.count)
        (ap faults leaves_are ∙ met ∙ ap (λ n. faults_after n fault) opens.opens_leaves.count)

    signs-count : (signing : Signing) → Signs told plan faults taken after status signing levels last
        → FaultsBy status Met
    signs-count signing (inl whole) =
        met-by Met (said_output signing.says) status taken after ⊥ whole.ends
        (subst Met (sym (said-none signing.says))
        (both false (adds-count told plan faults signing.adds levels last whole.adds)))
    signs-count signing (inr (inl part)) =
        met-by Met (fault_output []) status taken after ⊥ part.ends
        (both true (fails-count told plan faults signing.adds levels last part.fails))
    signs-count signing (inr (inr nothing)) =
        subst (λ (s : Status). FaultsBy s Met) (sym nothing.is)
        (false, both false (ap (λ (n : NotesState D). faults n.disk) nothing.stays))

  -- of a run that was to sign
  pub signer-counts : (message : List ℕ)
      → RunsSigner told plan faults taken after status message notes leaves new_notes new_leaves
      → FaultsBy status Met
  signer-counts message (inl ran) =
      signs-count ran.opened ran.levels ran.last ran.opens ran.notes_are ran.leaves_are
      (signing (seed_of ran.opened.records) ran.levels.records message) ran.signs
  signer-counts message (inr refused) =
      met-by Met (refused_output refused.why) status taken after ⊥ refused.ends
      (subst Met (sym (refused-fault refused.why)) (refused-met refused.why refused.refuses))
