-- What a run of the program does is a call of a node's life.
use Rattle.run_lives.proofs.Words.{◌≡◌, ℕ, false, List, Option, Some, None, refl, ap, ◌∙◌, inl, inr, History, FaultPlan, Form, Replay, Brief, Wallet, Operator, Watcher, InitWallet, InitOperator, InitWatcher, Make, Verify, HssInit, HssSign, HssVerify, Audit, Archive, Status, Outside, asked_of, RunsAreCalls}
use Rattle.node_lives.specs.Disks.{Pair}
use Rattle.node_lives.specs.Calls.{DoesAsked}
use Rattle.replay_run.specs.Forms.{uses_notes, uses_leaves}
use Rattle.replay_run.specs.Does.{DoesForm}
use Rattle.run_lives.proofs.AnyFailure.{watcher-any, operator-any, wallet-any}

both-same : {D : Type 0} (one other : Pair D) → one.notes ≡ other.notes → one.leaves ≡ other.leaves → one ≡ other
both-same one other notes leaves =
    ap (λ n. record { notes = n; leaves = one.leaves }) notes
    ∙ ap (λ l. record { notes = other.notes; leaves = l }) leaves

module _ {D : Type 0} (told : D → Option History) (plan : D → Option FaultPlan) (faults : D → ℕ)
    (dig : List ℕ → List ℕ) (old new : Pair D) (outside : Outside) (failed : Type 0) (status : Status) where
  abbrev Did : Option Form → Type 0
  Did form = DoesAsked told plan faults dig (asked_of form) old new outside status

  untouched : new.notes ≡ old.notes → new.leaves ≡ old.leaves → new ≡ old
  untouched notes leaves = both-same new old notes leaves

  does-asked : (form : Option Form)
      → DoesForm told plan faults dig old.notes old.leaves new.notes new.leaves outside failed status form
      → (uses_notes form ≡ false → new.notes ≡ old.notes) → (uses_leaves form ≡ false → new.leaves ≡ old.leaves)
      → Did form
  does-asked None does notes leaves = untouched (notes refl) (leaves refl)
  does-asked (Some Replay) does notes leaves = untouched (notes refl) (leaves refl)
  does-asked (Some Brief) does notes leaves = untouched (notes refl) (leaves refl)
  does-asked (Some Wallet) does notes leaves =
      wallet-any told plan faults dig outside failed status old.notes old.leaves new.notes new.leaves does
  does-asked (Some Operator) does notes leaves =
      operator-any told plan faults dig outside failed status old.notes old.leaves new.notes new.leaves does
  does-asked (Some Watcher) does notes leaves =
      (watcher-any told plan faults dig outside failed status old.notes new.notes does, leaves refl)
  does-asked (Some (InitWallet tag account seed types)) does notes leaves = does
  does-asked (Some (InitOperator tag account None)) does notes leaves = (does, leaves refl)
  does-asked (Some (InitOperator tag account (Some seed))) does notes leaves = does
  does-asked (Some (InitWatcher tag account)) does notes leaves = (does, leaves refl)
  does-asked (Some (Make seed count)) does notes leaves = untouched (notes refl) (leaves refl)
  does-asked (Some (Verify key message signature)) does notes leaves = untouched (notes refl) (leaves refl)
  does-asked (Some (HssInit seed)) does notes leaves = does
  does-asked (Some (HssSign message)) does notes leaves = does
  does-asked (Some (HssVerify key message signature)) does notes leaves = untouched (notes refl) (leaves refl)
  does-asked (Some (Audit key receipt)) does notes leaves = untouched (notes refl) (leaves refl)
  does-asked (Some Archive) does notes leaves = untouched (notes refl) (leaves refl)

pub runs_are_calls : {D : Type 0} (told : D → Option History) (plan : D → Option FaultPlan) (faults : D → ℕ)
    (dig : List ℕ → List ℕ) → RunsAreCalls told plan faults dig
runs_are_calls told plan faults dig old new outside before after failed_last status form (inl does) notes leaves =
    inl (does-asked told plan faults dig old new outside _ status form does notes leaves)
runs_are_calls told plan faults dig old new outside before after failed_last status form (inr unread) notes leaves =
    inr (unread.is, both-same new old unread.notes_stay unread.leaves_stay)
