-- What a session leaves on a node's disks of which each stays by itself: those of a watcher and of an operator.
use Rattle.std.proofs.Common.{◌≡◌, ℕ, Bool, true, List, [], Option, Some, None, option_map, sym, ap, ◌∙◌, subst, inl, inr}
use Rattle.std.specs.Prelude.{unwrap_or}
use Rattle.crash_disk.specs.Disk.{History}
use Rattle.gate_journal.specs.Life.{Continue}
use Rattle.gate_journal.proofs.Lives.{itself}
use Rattle.node_rules.specs.Wallet.{WalletRecords}
use Rattle.node_replies.specs.Orders.{with_record}
use Rattle.node_answers.specs.Answers.{Outcome}
use Rattle.node_roles.specs.Notes.{NotesAt, with_note}
use Rattle.node_journal.specs.Parts.{Parts, OfLeaves}
use Rattle.node_roles.specs.Parts.{PartFails}
use Rattle.node_roles.specs.Nodes.{records_at}
use Rattle.node_roles.specs.Roles.{wallet_records}
use Rattle.node_runs.specs.Disks.{Keeps, MayKeep, KeepsNode, NodeFailed}
use Rattle.node_lives.specs.Standing.{GoOn}
use Rattle.node_lives.proofs.Stays.{StayTold, settled-stays, fault-stays, earlier-stays}
use Rattle.node_lives.proofs.Own.{noted, more-on, Grows}

-- a part's records, where it is there
abbrev part_records : Option NotesAt → List (List ℕ)
part_records at = unwrap_or (option_map (λ notes. notes.records) at) []

module _ {D : Type 0} (told : D → Option History) where
  -- records of a kind stay on a disk that is there
  abbrev pub PartStays : (List (List ℕ) → Bool) → List (List ℕ) → Option D → Type 0
  PartStays are records None = Unit {0}
  PartStays are records (Some disk) = StayTold are records (told disk)

  pub part-earlier : (are : List (List ℕ) → Bool) (one other : List (List ℕ)) (disk : Option D) → Continue one other
      → PartStays are other disk → PartStays are one disk
  part-earlier are one other None on stays = tt
  part-earlier are one other (Some disk) on stays = λ now is. earlier-stays are one other now on (stays now is)

  module _ (faults : D → ℕ) (are : List (List ℕ) → Bool) where
    -- one is handed back with its records and what a command adds
    part-keeps : (at : Option NotesAt) (added : Option (List ℕ)) (disk : Option D)
        → are (with_record (part_records at) added) ≡ true
        → OfLeaves (Keeps told faults) (option_map (λ notes. with_note notes added) at) disk
        → PartStays are (part_records at) disk
    part-keeps at added None is keeps = tt
    part-keeps None added (Some disk) is keeps = absurd keeps
    part-keeps (Some at) added (Some disk) is keeps = λ now has.
        settled-stays are at.records (with_note at added).records now (keeps.settled now has)
        (ap are (noted at added) ∙ is)
        (subst (Continue at.records) (sym (noted at added)) (more-on at.records at.records added (itself at.records)))

    rest-keeps : (at : Option NotesAt) (disk : Option D) → are (part_records at) ≡ true
        → OfLeaves (Keeps told faults) at disk → PartStays are (part_records at) disk
    rest-keeps None disk is keeps = part-keeps None None disk is keeps
    rest-keeps (Some at) disk is keeps = part-keeps (Some at) None disk is keeps

    -- or behind a device fault as it was added
    part-fails : (at : Option NotesAt) (added : Option (List ℕ)) (disk : Option D) → are (part_records at) ≡ true
        → are (with_record (part_records at) added) ≡ true → PartFails (MayKeep told faults) added at disk
        → PartStays are (part_records at) disk
    part-fails at added None is more fails = tt
    part-fails at None (Some disk) is more fails = absurd fails
    part-fails None (Some body) (Some disk) is more fails = absurd fails
    part-fails (Some at) (Some body) (Some disk) is more fails =
        fault-stays are at.records at.records body fails.passed at.told (told disk) fails.told_is fails.any_moment is
        more (itself at.records)

-- the records of the notes are of a kind, and those of the leaves of another
module _ (are others : List (List ℕ) → Bool) where
  pub record AreEach (records : WalletRecords) : Type 0 where
    pub notes : are records.notes ≡ true
    pub leaves : others records.leaves ≡ true

  module _ {D : Type 0} (told : D → Option History) (disks : Parts D) where
    pub record EachStays (records : WalletRecords) : Type 0 where
      pub notes : StayTold are records.notes (told disks.notes)
      pub leaves : PartStays told others records.leaves disks.leaves

    pub each-earlier : (one other : WalletRecords) → GoOn one other → EachStays other → EachStays one
    each-earlier one other on stays = record {
      notes = part-earlier told are one.notes other.notes (Some disks.notes) on.notes stays.notes;
      leaves = part-earlier told others one.leaves other.leaves disks.leaves on.leaves stays.leaves;
    }

    module _ (faults : D → ℕ) (Good : WalletRecords → Type 0)
        (each : (records : WalletRecords) → Good records → AreEach records) where
      pub each-kept : (at : Parts NotesAt) → Good (wallet_records (records_at at)) → KeepsNode told faults at disks
          → EachStays (wallet_records (records_at at))
      each-kept at good keeps =
          let is = each (wallet_records (records_at at)) good in
          record {
            notes = part-keeps told faults are (Some at.notes) None (Some disks.notes) is.notes keeps.0;
            leaves = rest-keeps told faults others at.leaves disks.leaves is.leaves keeps.1;
          }

      pub each-fails : (at : Parts NotesAt) (outcome : Outcome) → Good (wallet_records (records_at at))
          → Grows Good (wallet_records (records_at at)) outcome → NodeFailed told faults outcome at disks
          → EachStays (wallet_records (records_at at))
      each-fails at outcome good grows (inl (fails, keeps)) =
          let is = each (wallet_records (records_at at)) good in
          record {
            notes =
                part-fails told faults are (Some at.notes) outcome.note (Some disks.notes) is.notes
                (each _ grows.noted).notes fails;
            leaves = rest-keeps told faults others at.leaves disks.leaves is.leaves keeps;
          }
      each-fails at outcome good grows (inr (keeps, fails)) = record {
        notes =
            part-keeps told faults are (Some at.notes) outcome.note (Some disks.notes) (each _ grows.noted).notes
            keeps;
        leaves =
            part-fails told faults others at.leaves outcome.leaf disks.leaves
            (each (wallet_records (records_at at)) good).leaves (each _ grows.both).leaves fails;
      }
