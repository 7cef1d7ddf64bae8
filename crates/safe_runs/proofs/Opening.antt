-- What was opened over disks in memory that hold images, and why it wasn't.
use Rattle.std.proofs.Common.{◌≡◌, ◌⊎◌, ℕ, inl, inr, Bool, true, false, if◌then◌else◌, List, length, Option, Some, Result, Ok, Err, refl, sym, ap, ◌∙◌, subst}
use Rattle.std.specs.Result.{result_ok}
use Rattle.crash_disk.specs.Disk.{History, FaultPlan, content}
use Rattle.gate_journal.specs.Image.{journal_in, spelled}
use Rattle.gate_journal.specs.Journal.{Keeps, RefusesOpen}
use Rattle.gate_journal.specs.declared.refusal.JournalRefusal.{JournalRefusal}
use Rattle.gate_journal.specs.declared.refusal.JournalRefusal.TheVariants.{AlreadyMade, NotJournal, DeviceFault, NoMemory, RecordTooLong, Closed}
use Rattle.node_journal.specs.Notes.{NotesState, Opened, RefusesRole}
use Rattle.node_journal.specs.Role.{Kinds, are_of, front_of, of_kinds, read_of_kinds, role_in}
use Rattle.leaf_journal.specs.Records.{leaf_records_in_of, leaf_records_read_of, MessagesPass}
use Rattle.leaf_journal.proofs.Form.{all_same}
use Rattle.leaf_journal.proofs.KindRecords.{kind_records}
use Rattle.node_rules.specs.Watcher.{watcher_kinds}
use Rattle.node_rules.specs.WalletRecords.{wallet_kinds, is_body, leaves_in, notes_of, are_bound_notes}
use Rattle.node_rules.specs.Wallet.{WalletRecords}
use Rattle.node_rules.specs.WalletOpening.{leaves_of, are_bound, unbound_place}
use Rattle.wallet_node.specs.Opening.{RefusesNotes, RefusesLeaves, RefusesUnbound, RefusesWallet, OpensNotes, OpensLeaves, IsUnbound}
use Rattle.safe_runs.specs.Inside.{only_place}
use Rattle.safe_runs.specs.Runs.{Node, watcher_node, wallet_node, watcher_in, wallet_in, behind, bound_wallet, IsRefused}

-- records of a role that an image spells are those that it keeps
module _ (kinds : Kinds) where
  -- by whether they are
  abbrev of_by : List (List ℕ) → Bool → Result (List (List ℕ)) ℕ
  of_by others are = if are then Ok others else Err (length (spelled (front_of kinds others)))

  of-same : (others records : List (List ℕ)) → of_kinds kinds others ≡ Ok records → others ≡ records
  of-same others records is = at (are_of kinds others) is
    where
      at : (are : Bool) → of_by others are ≡ Ok records → others ≡ records
      at true is = cc is
      at false is = absurd (cc is)

  read-keeps : (read : Result (List (List ℕ)) ℕ) (records : List (List ℕ)) → read_of_kinds kinds read ≡ Ok records
      → result_ok read ≡ Some records
  read-keeps (Ok others) records is = ap Some (of-same others records is)
  read-keeps (Err place) records is = absurd (cc is)

  pub role-keeps : (image : List ℕ) (records : List (List ℕ)) → role_in kinds image ≡ Ok records → Keeps records image
  role-keeps image records is = read-keeps (journal_in image) records is

-- so are those of leaves, and each binds a message that passes
module _ (is_message : List ℕ → Bool) (leaves : ℕ) where
  read-leaves : (read : Result (List (List ℕ)) ℕ) (records : List (List ℕ))
      → leaf_records_read_of is_message leaves read ≡ Ok records → result_ok read ≡ Some records
  read-leaves (Ok others) records is = ap Some (all_same is_message leaves others records is)
  read-leaves (Err place) records is = absurd (cc is)

  pub leaves-keep : (image : List ℕ) (records : List (List ℕ)) → leaf_records_in_of is_message leaves image ≡ Ok records
      → Keeps records image
  leaves-keep image records is = read-leaves (journal_in image) records is

  pub leaves-pass : (image : List ℕ) (records : List (List ℕ)) → leaf_records_in_of is_message leaves image ≡ Ok records
      → MessagesPass is_message records
  leaves-pass image records is = ((kind_records is_message leaves image records).0 is).1

pub kept-same : (image : List ℕ) (one other : List (List ℕ)) → Keeps one image → Keeps other image → one ≡ other
kept-same image one other first second = cc (sym first ∙ second)

-- an opening that a reader of images refused
module _ {D T : Type 0} (read : List ℕ → Result T ℕ) (told : D → Option History) (plan : D → Option FaultPlan)
    (old new : D) (history : History) (told_is : told old ≡ Some history) where
  pub refused-at : (place : ℕ) → RefusesOpen read told plan old (NotJournal place) new
      → read (content history) ≡ Err place
  refused-at place refuses = refuses.1 history told_is

-- of a watcher
module _ {D : Type 0} (told : D → Option History) (plan : D → Option FaultPlan) (faults : D → ℕ)
    (dig : List ℕ → List ℕ) where
  pub watcher-refused : (old new : D) (history : History) (why : JournalRefusal) → told old ≡ Some history
      → RefusesRole told plan faults (role_in (watcher_kinds dig)) old why new
      → IsRefused (watcher_in dig (content history)) (only_place why)
  watcher-refused old new history (NotJournal place) told_is refuses =
      ap (behind (λ records. Ok (watcher_node dig records)))
      (refused-at (role_in (watcher_kinds dig)) told plan old new history told_is place refuses.refused)
  watcher-refused old new history DeviceFault told_is refuses = tt
  watcher-refused old new history NoMemory told_is refuses = tt
  watcher-refused old new history (RecordTooLong count) told_is refuses = tt
  watcher-refused old new history Closed told_is refuses = tt
  watcher-refused old new history (AlreadyMade size) told_is refuses = tt

  -- of a wallet
  module _ (notes leaves : D) (of_notes of_leaves : History) (notes_are : told notes ≡ Some of_notes)
      (leaves_are : told leaves ≡ Some of_leaves) where
    abbrev read_wallet : Result Node ℕ
    read_wallet = wallet_in dig (content of_notes) (content of_leaves)

    abbrev behind_notes : Result (List (List ℕ)) ℕ → Result Node ℕ
    behind_notes read =
        behind
        (λ records.
        behind (λ others. bound_wallet dig (record { notes = records; leaves = others }))
        (leaf_records_in_of is_body (leaves_of records) (content of_leaves)))
        read

    abbrev behind_leaves : List (List ℕ) → Result (List (List ℕ)) ℕ → Result Node ℕ
    behind_leaves records read = behind (λ others. bound_wallet dig (record { notes = records; leaves = others })) read

    by-notes : (records : List (List ℕ)) → role_in (wallet_kinds dig) (content of_notes) ≡ Ok records
        → read_wallet ≡ behind_leaves records (leaf_records_in_of is_body (leaves_of records) (content of_leaves))
    by-notes records is = ap behind_notes is

    by-both : (records others : List (List ℕ)) → role_in (wallet_kinds dig) (content of_notes) ≡ Ok records
        → leaf_records_in_of is_body (leaves_of records) (content of_leaves) ≡ Ok others
        → read_wallet ≡ bound_wallet dig (record { notes = records; leaves = others })
    by-both records others notes leaves = by-notes records notes ∙ ap (behind_leaves records) leaves

    pub wallet-opened : (wallet : WalletRecords) → role_in (wallet_kinds dig) (content of_notes) ≡ Ok wallet.notes
        → leaf_records_in_of is_body (leaves_of wallet.notes) (content of_leaves) ≡ Ok wallet.leaves
        → are_bound dig wallet ≡ true → read_wallet ≡ Ok (wallet_node dig wallet)
    wallet-opened wallet notes leaves bound =
        by-both wallet.notes wallet.leaves notes leaves
        ∙ ap (λ b. if b then Ok (wallet_node dig wallet)
        else Err (unbound_place dig (leaves_in wallet.leaves) wallet.notes)) bound

    notes-refused : (why : JournalRefusal) (new_notes new_leaves : D)
        → RefusesNotes told plan faults dig notes leaves why new_notes new_leaves
        → IsRefused read_wallet (only_place why)
    notes-refused (NotJournal place) new_notes new_leaves refuses =
        ap behind_notes
        (refused-at (role_in (wallet_kinds dig)) told plan notes new_notes of_notes notes_are place refuses.0.refused)
    notes-refused DeviceFault new_notes new_leaves refuses = tt
    notes-refused NoMemory new_notes new_leaves refuses = tt
    notes-refused (RecordTooLong count) new_notes new_leaves refuses = tt
    notes-refused Closed new_notes new_leaves refuses = tt
    notes-refused (AlreadyMade size) new_notes new_leaves refuses = tt

    leaves-refused : (opened : NotesState D) (why : JournalRefusal) (new_leaves : D)
        → role_in (wallet_kinds dig) (content of_notes) ≡ Ok opened.records
        → RefusesLeaves told plan faults dig opened leaves why new_leaves → IsRefused read_wallet (only_place why)
    leaves-refused opened (NotJournal place) new_leaves is refuses =
        by-notes opened.records is
        ∙ ap (behind_leaves opened.records)
        (refused-at (leaf_records_in_of is_body (leaves_of opened.records)) told plan leaves new_leaves of_leaves
        leaves_are place refuses.refused)
    leaves-refused opened DeviceFault new_leaves is refuses = tt
    leaves-refused opened NoMemory new_leaves is refuses = tt
    leaves-refused opened (RecordTooLong count) new_leaves is refuses = tt
    leaves-refused opened Closed new_leaves is refuses = tt
    leaves-refused opened (AlreadyMade size) new_leaves is refuses = tt

    unbound-refused : (opened : NotesState D) (why : JournalRefusal) (new_leaves : D)
        → role_in (wallet_kinds dig) (content of_notes) ≡ Ok opened.records
        → RefusesUnbound told plan faults dig opened leaves why new_leaves → IsRefused read_wallet (only_place why)
    unbound-refused opened (NotJournal place) new_leaves is refuses =
        let others = refuses.0.records in
        by-both opened.records others is (refuses.1.kept of_leaves leaves_are)
        ∙ ap (λ b. if b then Ok (wallet_node dig (record { notes = opened.records; leaves = others }))
        else Err (unbound_place dig (leaves_in others) opened.records)) refuses.3.0
        ∙ ap Err (sym refuses.3.1)
    unbound-refused opened DeviceFault new_leaves is refuses = tt
    unbound-refused opened NoMemory new_leaves is refuses = tt
    unbound-refused opened (RecordTooLong count) new_leaves is refuses = tt
    unbound-refused opened Closed new_leaves is refuses = tt
    unbound-refused opened (AlreadyMade size) new_leaves is refuses = tt

    pub wallet-refused : (why : JournalRefusal) (new_notes new_leaves : D)
        → RefusesWallet told plan faults dig notes leaves why new_notes new_leaves
        → IsRefused read_wallet (only_place why)
    wallet-refused why new_notes new_leaves (inl refuses) = notes-refused why new_notes new_leaves refuses
    wallet-refused why new_notes new_leaves (inr behind) =
        let opened = behind.0 in
        let read = behind.1.kept of_notes notes_are in
        elim behind.2.1 [
          | inl refuses ↦ leaves-refused opened why new_leaves read refuses
          | inr refuses ↦ unbound-refused opened why new_leaves read refuses
        ]

-- records that were opened as a role's, and what the disk keeps then
module _ {D : Type 0} (told : D → Option History) (plan : D → Option FaultPlan) (faults : D → ℕ) (kinds : Kinds) where
  pub same-records : (old : D) (opened : NotesState D) (history now : History) (records : List (List ℕ))
      → told old ≡ Some history → Opened told plan faults (role_in kinds) old opened → told opened.disk ≡ Some now
      → Keeps records (content now) → role_in kinds (content history) ≡ Ok records
  same-records old opened history now records told_old is told_new keeps =
      is.kept history told_old
      ∙ ap Ok (kept-same (content now) opened.records records (is.settled now told_new).read keeps)

-- records of a role are of its kinds
module _ (kinds : Kinds) where
  of-are : (others records : List (List ℕ)) → of_kinds kinds others ≡ Ok records → are_of kinds records ≡ true
  of-are others records is = at (are_of kinds others) refl is
    where
      at : (are : Bool) → are_of kinds others ≡ are → of_by kinds others are ≡ Ok records → are_of kinds records ≡ true
      at true all is = ap (are_of kinds) (sym (cc is)) ∙ all
      at false other is = absurd (cc is)

  read-are : (read : Result (List (List ℕ)) ℕ) (records : List (List ℕ)) → read_of_kinds kinds read ≡ Ok records
      → are_of kinds records ≡ true
  read-are (Ok others) records is = of-are others records is
  read-are (Err place) records is = absurd (cc is)

  pub role-are : (image : List ℕ) (records : List (List ℕ)) → role_in kinds image ≡ Ok records
      → are_of kinds records ≡ true
  role-are image records is = read-are (journal_in image) records is
