-- A run may be cut off within the opening of its notes, and within that of its leaves behind it.
use Rattle.std.proofs.Common.{◌≡◌, ℕ, true, List, [], length, Option, Some, None, Result, refl, inl, inr}
use Rattle.crash_disk.specs.Disk.{Step, History, content}
use Rattle.crash_disk.specs.Calls.{failed_after, Made}
use Rattle.gate_journal.specs.Steps.{open_steps}
use Rattle.gate_journal.specs.declared.refusal.JournalRefusal.TheVariants.{DeviceFault as FaultRefusal}
use Rattle.node_journal.specs.Notes.{NotesState, Opened, RefusesRole}
use Rattle.node_journal.specs.Role.{role_in}
use Rattle.operator_rules.specs.Records.{operator_kinds, who_is}
use Rattle.wallet_node.specs.Opening.{OpensNotes}
use Rattle.node_replies.specs.Roles.{Role, Wallet, Watcher, Operator}
use Rattle.run_endings.specs.Texts.{device_fault_text}
use Rattle.run_endings.specs.declared.status.Status.TheVariants.{WriteFault}
use Rattle.node_runs.specs.Sessions.{Outside}
use Rattle.node_runs.specs.Runs.{RefusedRun, RunsWatcher, RunsWallet}
use Rattle.node_runs.specs.Operators.{desk_records_in, RunsBehind, RunsOperator}
use Rattle.node_lives.specs.Disks.{Pair}
use Rattle.node_lives.specs.Calls.{ToRun}
use Rattle.node_lives.specs.Cuts.{FailsSince}
use Rattle.node_lives.specs.Answered.{watcher_ran, behind_ran, operator_ran, wallet_ran, ran_as, ran_by}
use Rattle.node_lives.specs.Samples.{Drive, told, foretold, met}
use Rattle.node_lives.specs.Moments.{Making, DoesNothing, IsCutAt, OpeningsMayBeCut}
use Rattle.node_lives.proofs.Moments.{none-since, next-fails, wrote-more, cut-at}
use Rattle.node_lives.proofs.Drives.{after, made}

-- the drive whose next device call failed
abbrev pub failing : (List ℕ → List Step) → ℕ → Drive → Drive
failing steps count old = after (failed_after count) steps true old

pub making-fails : (steps : List ℕ → List Step) (old : Drive) (history : History) → (making : Making steps old history)
    → FailsSince told history (failing steps making.made old)
making-fails steps old history making =
    next-fails making.made (steps (content old.history)) old.history history (failing steps making.made old) making.few
    making.told_is refl

pub making-made : (steps : List ℕ → List Step) (old : Drive) (history : History) → (making : Making steps old history)
    → Made told foretold steps (length (steps (content old.history))) (failed_after making.made) old
    (failing steps making.made old)
making-made steps old history making =
    made (failed_after making.made) steps (length (steps (content old.history))) true old
    (making.few, (λ plan is. absurd (cc is)), refl)

-- it was refused for that fault, whoever reads the image
pub opening-refused : (read : List ℕ → Result (List (List ℕ)) ℕ) (old : Drive) (history : History)
    → (opening : Making open_steps old history)
    → RefusesRole told foretold met read old FaultRefusal (failing open_steps opening.made old)
opening-refused read old history opening =
    record { refused = (opening.made, making-made open_steps old history opening); count = refl }

run-refused : (outside : Outside) → DoesNothing outside → RefusedRun FaultRefusal outside WriteFault
run-refused outside nothing = record {
  gave = nothing.gave;
  ends = record {
    front = wrote-more outside.taken outside.after [] device_fault_text nothing.wrote;
    fault = λ is. absurd (cc is);
  };
}

module _ (dig : List ℕ → List ℕ) (old : Pair Drive) (outside : Outside) (nothing : DoesNothing outside) where
  module _ (notes : History) (opening : Making open_steps old.notes notes) where
    abbrev notes_failed : Pair Drive
    notes_failed = record { notes = failing open_steps opening.made old.notes; leaves = old.leaves }

    notes-cut : (role : Role) → IsCutAt dig (ToRun role) old outside None notes old.leaves.history
    unfolding RunsWallet RunsWatcher RunsOperator wallet_ran watcher_ran operator_ran ran_as ran_by
    notes-cut Wallet =
        cut-at dig (ToRun Wallet) old notes_failed outside WriteFault None notes old.leaves.history
        (inl (inr (FaultRefusal, inl (opening-refused _ old.notes notes opening, refl), run-refused outside nothing)))
        refl
        (making-fails open_steps old.notes notes opening) (none-since old.leaves)
    notes-cut Watcher =
        cut-at dig (ToRun Watcher) old notes_failed outside WriteFault None notes old.leaves.history
        (inl (inr (FaultRefusal, opening-refused _ old.notes notes opening, run-refused outside nothing), refl))
        refl
        (making-fails open_steps old.notes notes opening) (none-since old.leaves)
    notes-cut Operator =
        cut-at dig (ToRun Operator) old notes_failed outside WriteFault None notes old.leaves.history
        (inl (inr (FaultRefusal, (opening-refused _ old.notes notes opening, refl), run-refused outside nothing)))
        refl
        (making-fails open_steps old.notes notes opening) (none-since old.leaves)

  module _ (opened : NotesState Drive) (leaves : History) (opening : Making open_steps old.leaves leaves) where
    abbrev leaves_failed : Pair Drive
    leaves_failed = record { notes = opened.disk; leaves = failing open_steps opening.made old.leaves }

    wallet-opening : OpensNotes told foretold met dig old.notes opened
        → IsCutAt dig (ToRun Wallet) old outside None opened.disk.history leaves
    unfolding RunsWallet wallet_ran ran_as ran_by
    wallet-opening opens =
        cut-at dig (ToRun Wallet) old leaves_failed outside WriteFault None opened.disk.history leaves
        (inl (inr (
          FaultRefusal,
          inr (opened, opens, (refl, inl (opening-refused _ old.leaves leaves opening))),
          run-refused outside nothing,
        )))
        refl
        (none-since opened.disk) (making-fails open_steps old.leaves leaves opening)

    -- behind the notes of an operator with a key
    record Refused (seed : Option (List ℕ)) : Type 0 where
      runs : RunsBehind told foretold met dig seed opened old.leaves opened.disk
          (failing open_steps opening.made old.leaves) outside (Unit {0}) WriteFault
      is : behind_ran told foretold met dig seed opened old.leaves opened.disk
          (failing open_steps opening.made old.leaves) outside WriteFault runs ≡ None

    refused : (seed : List ℕ) (other : Option (List ℕ)) → other ≡ Some seed → Refused other
    unfolding behind_ran
    refused seed None is = absurd (cc is)
    refused seed (Some other) is = record {
      runs = inr (
        FaultRefusal,
        (inl (opening-refused (desk_records_in other) old.leaves leaves opening), refl),
        run-refused outside nothing,
      );
      is = refl;
    }

    desk-opening : (seed : List ℕ) → Opened told foretold met (role_in operator_kinds) old.notes opened
        → (who_is opened.records).key_seed ≡ Some seed
        → IsCutAt dig (ToRun Operator) old outside None opened.disk.history leaves
    unfolding RunsOperator operator_ran ran_as ran_by
    desk-opening seed opens is =
        let behind = refused seed (who_is opened.records).key_seed is in
        cut-at dig (ToRun Operator) old leaves_failed outside WriteFault None opened.disk.history leaves
        (inl (inl (opened, opens, behind.runs)))
        behind.is
        (none-since opened.disk) (making-fails open_steps old.leaves leaves opening)

module _ (dig : List ℕ → List ℕ) where
  pub openings_may_be_cut : OpeningsMayBeCut dig
  openings_may_be_cut = record {
    notes = λ role old outside notes nothing opening. notes-cut dig old outside nothing notes opening role;
    wallet = λ old opened outside leaves opens nothing opening.
        wallet-opening dig old outside nothing opened leaves opening opens;
    desk = λ old opened seed outside leaves opens is nothing opening.
        desk-opening dig old outside nothing opened leaves opening seed opens is;
  }
