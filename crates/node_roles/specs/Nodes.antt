-- Where the commands of a node leave it, or where one was stopped, and what a command leaves.
use Rattle.std.specs.Prelude.{◌⊎◌, ℕ, List, Option, Result, Ok, Err}
use Rattle.crash_disk.specs.Disk.{History}
use Rattle.plasma_tx.specs.declared.call.RootCall.{RootCall}
use Rattle.node_journal.specs.Notes.{NotesState}
use Rattle.node_journal.specs.declared.stop.Stop.{Stop}
use Rattle.node_journal.specs.declared.stop.Stop.TheVariants.{Closed, NoMemory, DeviceFault}
use Rattle.node_replies.specs.Orders.{with_record}
use Rattle.node_answers.specs.Answers.{Outcome}
use Rattle.node_roles.specs.Notes.{NotesAt, with_note, StaysAt, IsNotesAt, FailedAt}
use Rattle.node_journal.specs.Parts.{Parts, of_each, OfEach}
use Rattle.node_roles.specs.Parts.{with_effect, EachFails}

-- Where a node is that commands came to: what is kept of its parts, and the digest by which it judges openings.
pub record NodeAt (A : Type 0) : Type 0 where
  pub kept : Parts A
  pub dig : List ℕ → List ℕ

-- it keeps this instead
abbrev pub keeping : {A : Type 0} → NodeAt A → Parts A → NodeAt A
keeping at kept = record { kept = kept; dig = at.dig }

-- the records of its parts
abbrev pub records_at : Parts NotesAt → Parts (List (List ℕ))
records_at parts = of_each (λ at. at.records) parts

-- How a node of a role is commanded: the tag of its chain by its notes, the command that a line spells, and what one
-- comes to by the digest, a log and the records.
pub record Commands (L : Type 0) : Type 0 where
  pub tag : List (List ℕ) → List ℕ
  pub command_in : List ℕ → Option L
  pub comes_to : (List ℕ → List ℕ) → List RootCall → Parts (List (List ℕ)) → L → Outcome

-- a command that is answered leaves this, and a refused one nothing
abbrev pub left_with : {A : Type 0} → A → Result (List ℕ) (List ℕ) → Result (A × List ℕ) (List ℕ)
left_with left (Ok text) = Ok (left, text)
left_with left (Err cause) = Err cause

-- a node with what a command of this outcome adds, which is added so to a part
abbrev pub node_with : {A : Type 0} → (A → Option (List ℕ) → A) → NodeAt A → Outcome
    → Result (NodeAt A × List ℕ) (List ℕ)
node_with add at outcome = left_with (keeping at (with_effect add at.kept outcome)) outcome.says

-- by such commands
module _ {L : Type 0} (commands : Commands L) where
  -- what one comes to at a node, behind a log
  abbrev pub outcome_at : List RootCall → NodeAt NotesAt → L → Outcome
  outcome_at log at line = commands.comes_to at.dig log (records_at at.kept) line

  -- what it does there; and to records alone, whatever the disks tell
  abbrev pub node_does : List RootCall → NodeAt NotesAt → L → Result (NodeAt NotesAt × List ℕ) (List ℕ)
  node_does log at line = node_with with_note at (outcome_at log at line)

  abbrev pub records_do : List RootCall → NodeAt (List (List ℕ)) → L
      → Result (NodeAt (List (List ℕ)) × List ℕ) (List ℕ)
  records_do log at line = node_with with_record at (commands.comes_to at.dig log at.kept line)

-- over disks that tell their history and count their faults
module _ {D : Type 0} (told : D → Option History) (faults : D → ℕ) where
  -- an open node is there
  abbrev pub IsNodeAt : Parts NotesAt → Parts (NotesState D) → Type 0
  IsNodeAt at node = OfEach (IsNotesAt told faults) at node

  -- A node that was there was stopped so in a command of this outcome. Where memory ran out it may have been done
  -- before. An open node isn't found closed.
  abbrev pub StoppedAt : Outcome → Parts NotesAt → Stop → Parts (NotesState D) → Type 0
  StoppedAt outcome at NoMemory node = IsNodeAt at node ⊎ IsNodeAt (with_effect with_note at outcome) node
  StoppedAt outcome at DeviceFault node = EachFails (StaysAt told faults) (FailedAt told faults) outcome at node
  StoppedAt outcome at Closed node = ⊥
