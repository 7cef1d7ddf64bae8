-- What an operator's run does behind its opened notes, by whether its identity has a key.
use Rattle.node_runs.proofs.Words.{◌≡◌, ℕ, Bool, List, Option, subst, History, FaultPlan, NotesState, Status, Outside, RunsBehind}
use Rattle.node_runs.specs.Prompt.{PromptlyBehind}

-- over disks, under a digest, and by a seed that is this one, or none
module _ {D : Type 0} (told : D → Option History) (plan : D → Option FaultPlan) (faults : D → ℕ)
    (dig : List ℕ → List ℕ) (seed of_identity : Option (List ℕ)) (same : seed ≡ of_identity) (opened : NotesState D)
    (leaves : D) (outside : Outside) where
  pub runs-behind : (new_notes new_leaves : D) (failed : Type 0) (status : Status)
      → RunsBehind told plan faults dig seed opened leaves new_notes new_leaves outside failed status
      → RunsBehind told plan faults dig of_identity opened leaves new_notes new_leaves outside failed status
  runs-behind new_notes new_leaves failed status runs =
      subst (λ (s : Option (List ℕ)).
      RunsBehind told plan faults dig s opened leaves new_notes new_leaves outside failed status) same runs

  pub promptly-behind : (failed_last : Bool)
      → PromptlyBehind outside failed_last told plan faults dig seed opened leaves
      → PromptlyBehind outside failed_last told plan faults dig of_identity opened leaves
  promptly-behind failed_last prompt =
      subst (λ (s : Option (List ℕ)). PromptlyBehind outside failed_last told plan faults dig s opened leaves) same
      prompt
