-- What an opening of a wallet does.
use Rattle.std.specs.Prelude.{◌≡◌, ◌⊎◌, ℕ, true, false, List, Option}
use Rattle.crash_disk.specs.Disk.{History, FaultPlan}
use Rattle.gate_journal.specs.{declared.refusal.JournalRefusal.{JournalRefusal}, declared.refusal.JournalRefusal.TheVariants.{NotJournal, NoMemory}}
use Rattle.node_journal.specs.{Notes.{NotesState, Opened, RefusesRole}, Role.{role_in}}
use Rattle.leaf_journal.specs.Records.{leaf_records_in_of}
use Rattle.wallet_core.specs.declared.notes.LeafRecord.{LeafRecord}
use Rattle.node_rules.specs.{WalletRecords.{wallet_kinds, is_body, leaves_in, notes_of, are_bound_notes}, WalletOpening.{leaves_of, are_bound, unbound_place}}
use Rattle.wallet_node.specs.State.{WalletState, notes_part, leaves_part}

-- why notes aren't taken for those of a wallet with these leaves: one takes a leaf back that may not be, with the place
-- of the first one's gate; or want of memory
abbrev pub IsUnbound : (List ℕ → List ℕ) → List LeafRecord → List (List ℕ) → JournalRefusal → Type 0
IsUnbound dig bodies notes (NotJournal place) =
    (are_bound_notes bodies (notes_of dig notes) ≡ false) × (place ≡ unbound_place dig bodies notes)
IsUnbound dig bodies notes NoMemory = Unit {0}
IsUnbound dig bodies notes why = ⊥

-- over disks that tell their history, foretell their faults and count them, and under a digest
module _ {D : Type 0} (told : D → Option History) (plan : D → Option FaultPlan) (faults : D → ℕ)
    (dig : List ℕ → List ℕ) where
  -- the notes were opened, whose records are of the wallet's kinds
  abbrev pub OpensNotes : D → NotesState D → Type 0
  OpensNotes old notes = Opened told plan faults (role_in (wallet_kinds dig)) old notes

  -- the leaves were opened behind notes, whose records bind bodies to the leaves of the wallet's key
  abbrev pub OpensLeaves : NotesState D → D → NotesState D → Type 0
  OpensLeaves notes old leaves =
      Opened told plan faults (leaf_records_in_of is_body (leaves_of notes.records)) old leaves

  -- An opening that went through: the notes were opened, then the leaves, and each note that takes a leaf back is of
  -- one that may be.
  pub record OpensWallet {H : Type 0} (notes leaves : D) (opened : WalletState D H) : Type 0 where
    pub opens_notes : OpensNotes notes (notes_part opened)
    pub opens_leaves : OpensLeaves (notes_part opened) leaves (leaves_part opened)
    pub bound : are_bound dig opened.records ≡ true

  -- the notes weren't opened, and the leaves' disk stays
  abbrev pub RefusesNotes : D → D → JournalRefusal → D → D → Type 0
  RefusesNotes notes leaves why new_notes new_leaves =
      RefusesRole told plan faults (role_in (wallet_kinds dig)) notes why new_notes × (new_leaves ≡ leaves)

  -- the leaves weren't opened behind notes
  abbrev pub RefusesLeaves : NotesState D → D → JournalRefusal → D → Type 0
  RefusesLeaves notes leaves why new_leaves =
      RefusesRole told plan faults (leaf_records_in_of is_body (leaves_of notes.records)) leaves why new_leaves

  -- the leaves were opened behind notes, and a note takes one back that may not be; or memory ran out
  abbrev pub RefusesUnbound : NotesState D → D → JournalRefusal → D → Type 0
  RefusesUnbound notes leaves why new_leaves =
      (opened : NotesState D) × OpensLeaves notes leaves opened × (new_leaves ≡ opened.disk)
      × IsUnbound dig (leaves_in opened.records) notes.records why

  -- what was refused behind notes that were opened, whose disk is handed back
  abbrev pub RefusesBehind : NotesState D → D → JournalRefusal → D → D → Type 0
  RefusesBehind notes leaves why new_notes new_leaves =
      (new_notes ≡ notes.disk)
      × (RefusesLeaves notes leaves why new_leaves ⊎ RefusesUnbound notes leaves why new_leaves)

  -- an opening that was refused: that of the notes, or behind it
  abbrev pub RefusesWallet : D → D → JournalRefusal → D → D → Type 0
  RefusesWallet notes leaves why new_notes new_leaves =
      RefusesNotes notes leaves why new_notes new_leaves
      ⊎ ((opened : NotesState D) × OpensNotes notes opened × RefusesBehind opened leaves why new_notes new_leaves)
