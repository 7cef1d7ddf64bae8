-- A call that isn't one of those that open a node's disks leaves these as they are: it begins nothing and opens nothing.
use Rattle.std.proofs.Common.{◌≡◌, ℕ, List, Option, Some, Result, Ok, Err, inl, inr, arith}
use Rattle.std.specs.Prelude.{OnOk}
use Rattle.std.proofs.lemmas.Grind.{common_steps}
use Rattle.crash_disk.specs.Disk.{History, content, FaultPlan}
use Rattle.node_journal.specs.Role.{role_in}
use Rattle.gate_journal.specs.declared.refusal.InitRefusal.{InitRefusal}
use Rattle.gate_journal.specs.declared.refusal.JournalRefusal.{JournalRefusal}
use Rattle.node_replies.specs.Roles.{Role, Wallet, Watcher, Operator}
use Rattle.run_endings.specs.declared.status.Status.{Status}
use Rattle.run_endings.specs.declared.status.Status.TheVariants.{Done, NoMemory}
use Rattle.run_endings.specs.Outputs.{EndsAs}
use Rattle.node_runs.specs.Endings.{init_output}
use Rattle.node_runs.specs.Sessions.{Outside}
use Rattle.node_runs.specs.Runs.{RunsWatcher, RunsWallet}
use Rattle.node_runs.specs.Operators.{RunsOperator}
use Rattle.hss_runs.specs.Identity.{signer_kinds}
use Rattle.hss_runs.specs.Runs.{RefusesSigner, RunsSigner}
use Rattle.node_lives.specs.Disks.{Pair}
use Rattle.node_lives.specs.Calls.{Begun, NotesAlone, BothDisks, Asked, ToBegin, ToRun, ToSign, ToUseNoDisk, BeginsAs, RunsAs, DoesAsked, Starves}
use Rattle.node_lives.specs.Standing.{kinds_of}
use Rattle.node_lives.proofs.Quiet.{Quietly, quiet-same}
use Rattle.node_lives.proofs.Taken.{AllRecorded, init-taken, pair-taken}
use Rattle.node_lives.proofs.Opens.{refused-quiet}
use Rattle.node_lives.proofs.Statuses.{ends-other, init-done}

never-ok : (answer : Result Unit InitRefusal) → OnOk answer ⊥ → answer ≡ Ok tt → ⊥
never-ok (Ok done) never is = never
never-ok (Err why) never is = cc

-- an init that isn't answered Ok isn't done
not-done : (answer : Result Unit InitRefusal) (status : Status) (before after : Option (List ℕ))
    → EndsAs (init_output answer) status before after ⊥ → OnOk answer ⊥ → status ≡ Done → ⊥
not-done answer status before after ends never is =
    ends-other (init_output answer) status Done before after ⊥ ends
    (λ same. never-ok answer never (init-done answer same)) (λ wrong. cc) (λ wrong. cc) is

module _ {D : Type 0} (told : D → Option History) (plan : D → Option FaultPlan) (faults : D → ℕ)
    (dig : List ℕ → List ℕ) where
  -- a crash leaves no more of the notes, and the leaves weren't touched
  pub record QuietBoth (old new : Pair D) : Type 0 where
    pub notes : Quietly (told old.notes) (told new.notes)
    pub leaves : new.leaves ≡ old.leaves

  both-same : (old new : Pair D) → new ≡ old → QuietBoth old new
  both-same old new is = grind (arith, common_steps, quiet-same) steps 20000

  -- Over notes that keep records, which are read by the node's own calls alone: by runs of no other role, and by no
  -- signing that isn't one.
  module _ (own : Asked → Type 0) (old new : Pair D) (before : History) (is : told old.notes ≡ Some before)
      (all : AllRecorded (told old.notes))
      (apart : (other : Role) → (own (ToRun other) → ⊥) → (found : List (List ℕ))
      → role_in (kinds_of dig other) (content before) ≡ Ok found → ⊥)
      (unsigned : (message : List ℕ) → (own (ToSign message) → ⊥) → (found : List (List ℕ))
      → role_in signer_kinds (content before) ≡ Ok found → ⊥) where
    begins-quiet : (disks : Begun) (identity : List ℕ) (outside : Outside) (status : Status)
        → BeginsAs told plan faults dig disks identity old new outside status
        → (status ≡ Done → ⊥) × QuietBoth old new
    begins-quiet BothDisks identity outside status inits =
        let taken = pair-taken told plan faults identity old.notes old.leaves new.notes new.leaves inits.answer before
        all
        is inits.inits in (
          not-done inits.answer status outside.taken outside.after inits.ends taken.0,
          record { notes = taken.1.0; leaves = taken.1.1 },
        )
    begins-quiet NotesAlone identity outside status (inits, same) =
        let taken = init-taken told plan identity old.notes new.notes inits.answer before all is inits.inits in (
          not-done inits.answer status outside.taken outside.after inits.ends taken.0,
          record { notes = taken.1; leaves = same },
        )

    runs-quiet : (other : Role) (outside : Outside) (status : Status) → (own (ToRun other) → ⊥)
        → RunsAs told plan faults dig other old new outside status → QuietBoth old new
    unfolding RunsWatcher RunsOperator RunsWallet
    runs-quiet Wallet outside status never (inl (opened, opens, session)) =
        absurd (apart Wallet never opened.records.notes (opens.opens_notes.kept before is))
    runs-quiet Wallet outside status never (inr (why, inl (refuses, same), refused)) = record {
      notes = refused-quiet told plan (role_in (kinds_of dig Wallet)) old.notes new.notes why refuses.refused;
      leaves = same;
    }
    runs-quiet Wallet outside status never (inr (why, inr (opened, opens, refuses), refused)) =
        absurd (apart Wallet never opened.records (opens.kept before is))
    runs-quiet Watcher outside status never (inl (opened, opens, session), same) =
        absurd (apart Watcher never opened.records (opens.kept before is))
    runs-quiet Watcher outside status never (inr (why, refuses, refused), same) = record {
      notes = refused-quiet told plan (role_in (kinds_of dig Watcher)) old.notes new.notes why refuses.refused;
      leaves = same;
    }
    runs-quiet Operator outside status never (inl (opened, opens, behind)) =
        absurd (apart Operator never opened.records (opens.kept before is))
    runs-quiet Operator outside status never (inr (why, (refuses, same), refused)) = record {
      notes = refused-quiet told plan (role_in (kinds_of dig Operator)) old.notes new.notes why refuses.refused;
      leaves = same;
    }

    signs-refused : (message : List ℕ) (why : JournalRefusal) → (own (ToSign message) → ⊥)
        → RefusesSigner told plan faults old.notes old.leaves why new.notes new.leaves → QuietBoth old new
    signs-refused message why never (inl (refuses, same)) = record {
      notes = refused-quiet told plan (role_in signer_kinds) old.notes new.notes why refuses.refused;
      leaves = same;
    }
    signs-refused message why never (inr (opened, opens, refuses)) =
        absurd (unsigned message never opened.records (opens.kept before is))

    signs-quiet : (message : List ℕ) (outside : Outside) (status : Status) → (own (ToSign message) → ⊥)
        → RunsSigner told plan faults outside.taken outside.after status message old.notes old.leaves new.notes
        new.leaves
        → QuietBoth old new
    signs-quiet message outside status never (inl ran) =
        absurd (unsigned message never ran.opened.records (ran.opens.opens_notes.kept before is))
    signs-quiet message outside status never (inr refused) = signs-refused message refused.why never refused.refuses

    -- what a call did that isn't one of its own
    pub asked-quiet : (asked : Asked) (outside : Outside) (status : Status) → (own asked → ⊥)
        → DoesAsked told plan faults dig asked old new outside status
        → ((disks : Begun) (identity : List ℕ) → asked ≡ ToBegin disks identity → status ≡ Done → ⊥)
        × QuietBoth old new
    asked-quiet (ToBegin disks identity) outside status never did =
        let quiet = begins-quiet disks identity outside status did in
        (λ one named same done. quiet.0 done, quiet.1)
    asked-quiet (ToRun other) outside status never did = grind (arith, common_steps, runs-quiet) steps 20000
    asked-quiet (ToSign message) outside status never did = (
      λ one named wrong. absurd (cc wrong),
      signs-quiet message outside status never did,
    )
    asked-quiet ToUseNoDisk outside status never did = (λ one named wrong. absurd (cc wrong), both-same old new did)

  -- what one did for which memory ran out before
  pub starves-quiet : (old new : Pair D) (status : Status) → Starves old new status
      → ((status ≡ NoMemory) × QuietBoth old new)
  starves-quiet old new status is = (is.0, both-same old new is.1)
