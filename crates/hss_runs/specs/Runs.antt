-- What a run of a two-level signer does, over a disk of notes and one of leaves.
use Rattle.std.specs.Prelude.{◌≡◌, ◌⊎◌, ℕ, List, [], ◌∷◌, ◌++◌, map, take, Option, Some, None}
use Rattle.crash_disk.specs.Disk.{History, FaultPlan, MayLeave}
use Rattle.crash_disk.specs.Calls.{WhereTold}
use Rattle.gate_journal.specs.declared.refusal.JournalRefusal.{JournalRefusal}
use Rattle.node_journal.specs.declared.stop.Stop.{Stop}
use Rattle.node_journal.specs.declared.stop.Stop.TheVariants.{Closed, NoMemory as StopNoMemory, DeviceFault}
use Rattle.node_journal.specs.Role.{role_in}
use Rattle.gate_journal.specs.Journal.{Keeps, IsSettled}
use Rattle.node_journal.specs.Notes.{NotesState, Added, AddFailed, Opened, RefusesRole}
use Rattle.run_endings.specs.declared.status.Status.{Status}
use Rattle.run_endings.specs.declared.status.Status.TheVariants.{NoMemory}
use Rattle.run_endings.specs.Outputs.{EndsAs}
use Rattle.run_endings.specs.Endings.{fault_output}
use Rattle.node_runs.specs.Endings.{refused_output}
use Rattle.hss_keys.specs.declared.entry.Entry.{Entry}
use Rattle.hss_keys.specs.Entries.{entry_text}
use Rattle.hss_keys.specs.Form.{level_records_in}
use Rattle.hss_runs.specs.Identity.{signer_kinds, seed_of}
use Rattle.hss_runs.specs.Signing.{Signing, signing, said_output}

-- each image of a crash now keeps the records, and of some more a beginning behind them
abbrev pub KeepsAFront : List (List ℕ) → List (List ℕ) → Option History → Type 0
KeepsAFront records more told =
    WhereTold told (λ now. (image : List ℕ) → MayLeave now image
    → (count : ℕ) × Keeps (records ++ take count more) image)

-- over disks that tell their history, foretell their faults and count them
module _ {D : Type 0} (told : D → Option History) (plan : D → Option FaultPlan) (faults : D → ℕ) where
  -- ---- the opening

  -- the notes were opened, and then the leaves, as those of the key whose seed the notes have
  pub record OpensSigner (notes leaves : D) (opened levels : NotesState D) : Type 0 where
    pub opens_notes : Opened told plan faults (role_in signer_kinds) notes opened
    pub opens_leaves : Opened told plan faults (level_records_in (seed_of opened.records)) leaves levels

  -- the leaves weren't opened behind notes that were
  abbrev pub RefusesLeaves : NotesState D → D → JournalRefusal → D → D → Type 0
  RefusesLeaves opened leaves why new_notes new_leaves =
      (new_notes ≡ opened.disk)
      × RefusesRole told plan faults (level_records_in (seed_of opened.records)) leaves why new_leaves

  -- the notes weren't opened, and the disk of the leaves stays; or they were, and the leaves weren't
  abbrev pub RefusesSigner : D → D → JournalRefusal → D → D → Type 0
  RefusesSigner notes leaves why new_notes new_leaves =
      (RefusesRole told plan faults (role_in signer_kinds) notes why new_notes × (new_leaves ≡ leaves))
      ⊎ ((opened : NotesState D) × Opened told plan faults (role_in signer_kinds) notes opened
      × RefusesLeaves opened leaves why new_notes new_leaves)

  -- a signer was opened, and its two disks are as the openings left them
  pub record OpensAlone (notes leaves new_notes new_leaves : D) : Type 0 where
    pub opened : NotesState D
    pub levels : NotesState D
    pub opens : OpensSigner notes leaves opened levels
    pub notes_are : new_notes ≡ opened.disk
    pub leaves_are : new_leaves ≡ levels.disk

  -- No leaf was spent: behind the openings nothing was done, or one of them was refused.
  abbrev pub SpendsNone : D → D → D → D → Type 0
  SpendsNone notes leaves new_notes new_leaves =
      OpensAlone notes leaves new_notes new_leaves
      ⊎ ((why : JournalRefusal) × RefusesSigner notes leaves why new_notes new_leaves)

  -- ---- the signing

  -- The entries were added, one after another: the device calls of each append all passed, and each image of a crash
  -- since then keeps its record.
  abbrev pub AddsAll : List Entry → NotesState D → NotesState D → Type 0
  AddsAll [] old new = new ≡ old
  AddsAll (entry ∷ entries) old new =
      (now : NotesState D) × Added told plan faults (entry_text entry) old now × AddsAll entries now new

  -- those before one were added, and its append met a device fault, which leaves its record or not
  abbrev pub FailsToAdd : List Entry → NotesState D → NotesState D → Type 0
  FailsToAdd [] old new = ⊥
  FailsToAdd (entry ∷ entries) old new =
      AddFailed told plan faults (entry_text entry) old new
      ⊎ ((now : NotesState D) × Added told plan faults (entry_text entry) old now × FailsToAdd entries now new)

  -- what was done to the leaves by a signing that by its definition adds these entries, and that was stopped so, or
  -- not: want of memory comes before the first
  abbrev pub DidAll : List Entry → NotesState D → Option Stop → NotesState D → Type 0
  DidAll entries old None new = AddsAll entries old new
  DidAll entries old (Some DeviceFault) new = FailsToAdd entries old new
  DidAll entries old (Some StopNoMemory) new = new ≡ old
  DidAll entries old (Some Closed) new = ⊥

  -- the sink had taken this, before and after, where it tells it
  module _ (taken after : Option (List ℕ)) (status : Status) where
    -- All entries were added before anything was written. The text was put, or a beginning of it, and each image of a
    -- crash of the leaves now spells the records with the new ones.
    pub record SignsWhole (signing : Signing) (old new : NotesState D) : Type 0 where
      pub adds : AddsAll signing.adds old new
      pub settled : WhereTold (told new.disk) (λ now. IsSettled now (old.records ++ map entry_text signing.adds))
      pub ends : EndsAs (said_output signing.says) status taken after ⊥

    -- An append of one of them met a device fault, and the run says so. Each image of a crash of the leaves now keeps
    -- the records, and of the new ones those before that one, with it or without.
    pub record SignsInPart (signing : Signing) (old new : NotesState D) : Type 0 where
      pub fails : FailsToAdd signing.adds old new
      pub left : KeepsAFront old.records (map entry_text signing.adds) (told new.disk)
      pub ends : EndsAs (fault_output []) status taken after ⊥

    -- memory ran out before the first append, and nothing was done or written
    pub record SignsNothing (old new : NotesState D) : Type 0 where
      pub stays : new ≡ old
      pub is : status ≡ NoMemory
      pub unwritten : after ≡ taken

    abbrev pub Signs : Signing → NotesState D → NotesState D → Type 0
    Signs signing old new = SignsWhole signing old new ⊎ SignsInPart signing old new ⊎ SignsNothing old new

    -- a signer was opened, whose disks are handed back: that of the notes as the opening left it
    pub record SignerRan (message : List ℕ) (notes leaves new_notes new_leaves : D) : Type 0 where
      pub opened : NotesState D
      pub levels : NotesState D
      pub last : NotesState D
      pub opens : OpensSigner notes leaves opened levels
      pub notes_are : new_notes ≡ opened.disk
      pub leaves_are : new_leaves ≡ last.disk
      pub signs : Signs (signing (seed_of opened.records) levels.records message) levels last

    -- none was opened, and the run says why
    pub record SignerRefused (notes leaves new_notes new_leaves : D) : Type 0 where
      pub why : JournalRefusal
      pub refuses : RefusesSigner notes leaves why new_notes new_leaves
      pub ends : EndsAs (refused_output why) status taken after ⊥

    -- what a run did that was to sign this message
    abbrev pub RunsSigner : List ℕ → D → D → D → D → Type 0
    RunsSigner message notes leaves new_notes new_leaves =
        SignerRan message notes leaves new_notes new_leaves ⊎ SignerRefused notes leaves new_notes new_leaves
