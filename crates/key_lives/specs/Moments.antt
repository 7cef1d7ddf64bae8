-- The moments of a signing, told without a fault: within the openings of its disks, as its records are appended, and
-- behind them. At each of them it may be cut off. Over drives, whose faults to come are any.
use Rattle.std.specs.Prelude.{◌≡◌, ◌⊎◌, ℕ, true, false, List, [], ◌∷◌, map, Option, Some, None}
use Rattle.crash_disk.specs.Disk.{History}
use Rattle.gate_journal.specs.Steps.{open_steps}
use Rattle.node_journal.specs.Notes.{NotesState, Opened}
use Rattle.node_journal.specs.Role.{role_in}
use Rattle.node_roles.specs.Notes.{NotesAt, with_note}
use Rattle.streamed_lines.specs.Outside.{WroteFront}
use Rattle.node_runs.specs.Disks.{opened_at}
use Rattle.node_runs.specs.Sessions.{Outside}
use Rattle.hss_keys.specs.Entries.{entry_text}
use Rattle.hss_runs.specs.Identity.{signer_kinds, seed_of}
use Rattle.hss_runs.specs.Signing.{signing, said_output}
use Rattle.hss_runs.specs.Runs.{OpensSigner}
use Rattle.node_lives.specs.Disks.{Pair}
use Rattle.node_lives.specs.Calls.{ToSign}
use Rattle.node_lives.specs.Cuts.{Cut}
use Rattle.node_lives.specs.Samples.{Drive, told, foretold, met}
use Rattle.node_lives.specs.Moments.{Tells, Appending, Making}
use Rattle.key_lives.specs.Signers.{SignerRun, signer_run_in}

-- behind the appends of these records
abbrev pub with_all : NotesAt → List (List ℕ) → NotesAt
with_all at [] = at
with_all at (body ∷ bodies) = with_all (with_note at (Some body)) bodies

-- within the append of one of them, behind those of the ones before it
abbrev pub AppendingOne : List (List ℕ) → NotesAt → History → Type 0
AppendingOne [] at history = ⊥
AppendingOne (body ∷ bodies) at history =
    Appending body at history ⊎ AppendingOne bodies (with_note at (Some body)) history

-- under a digest
module _ (dig : List ℕ → List ℕ) where
  -- a signing of this message on these disks did this outside, came to this, if it was opened, and was cut off as its
  -- disks told this
  pub record IsSigningCutAt (message : List ℕ) (old : Pair Drive) (outside : Outside) (run : Option SignerRun)
      (notes leaves : History) : Type 0 where
    pub cut : Cut told foretold met dig
    pub asked_is : cut.call.asked ≡ ToSign message
    pub old_is : cut.call.old ≡ old
    pub outside_is : cut.call.outside ≡ outside
    pub run_is : signer_run_in told foretold met dig cut.call ≡ run
    pub notes_is : cut.notes ≡ notes
    pub leaves_is : cut.leaves ≡ leaves

  -- A signing may be cut off within the opening of its notes, and within that of its leaves behind it; behind both
  -- within each of its appends, before it wrote anything; and behind these, where it wrote a beginning of its answer.
  pub record SigningsMayBeCut : Type 0 where
    pub notes : (message : List ℕ) (old : Pair Drive) (outside : Outside) (notes : History)
        → WroteFront outside.taken outside.after [] → Making open_steps old.notes notes
        → IsSigningCutAt message old outside None notes old.leaves.history
    pub leaves : (message : List ℕ) (old : Pair Drive) (opened : NotesState Drive) (outside : Outside)
        (leaves : History) → Opened told foretold met (role_in signer_kinds) old.notes opened
        → WroteFront outside.taken outside.after [] → Making open_steps old.leaves leaves
        → IsSigningCutAt message old outside None opened.disk.history leaves
    pub within : (message : List ℕ) (old : Pair Drive) (opened levels : NotesState Drive) (outside : Outside)
        (leaves : History) → OpensSigner told foretold met old.notes old.leaves opened levels
        → WroteFront outside.taken outside.after []
        → AppendingOne (map entry_text (signing (seed_of opened.records) levels.records message).adds)
        (opened_at told met levels) leaves
        → IsSigningCutAt message old outside (Some (record {
          seed = seed_of opened.records;
          message = message;
          found = levels.records;
          is_added = false;
        })) opened.disk.history leaves
    pub behind : (message : List ℕ) (old : Pair Drive) (opened levels : NotesState Drive) (outside : Outside)
        (leaves : History) → OpensSigner told foretold met old.notes old.leaves opened levels
        → WroteFront outside.taken outside.after
        (said_output (signing (seed_of opened.records) levels.records message).says).last
        → Tells (with_all (opened_at told met levels)
        (map entry_text (signing (seed_of opened.records) levels.records message).adds)) leaves
        → IsSigningCutAt message old outside (Some (record {
          seed = seed_of opened.records;
          message = message;
          found = levels.records;
          is_added = true;
        })) opened.disk.history leaves
