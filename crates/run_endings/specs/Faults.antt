-- What a run's disks count of the faults that they meet.
use Rattle.std.specs.Prelude.{◌≡◌, ◌⊎◌, ℕ, Bool, true, false}
use Rattle.plasma_base.specs.Causes.{faults_after}

-- over disks that count their faults
module _ {D : Type 0} (faults : D → ℕ) where
  -- the disk met one fault in this run, and counted it, or none
  abbrev pub Counts : D → D → Bool → Type 0
  Counts old new fault = faults new ≡ faults_after (faults old) fault

  -- the two disks of a wallet met one fault, the one or the other, or none
  abbrev pub CountsEither : D → D → D → D → Bool → Type 0
  CountsEither notes leaves new_notes new_leaves false =
      Counts notes new_notes false × Counts leaves new_leaves false
  CountsEither notes leaves new_notes new_leaves true =
      (Counts notes new_notes true × Counts leaves new_leaves false)
      ⊎ (Counts notes new_notes false × Counts leaves new_leaves true)
