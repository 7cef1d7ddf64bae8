-- What the images of a node's disks keep that a crash may leave, and no more: what is asked of their records holds from
-- one call to the next.
use Rattle.std.proofs.Common.{◌≡◌, ℕ, true, List, [], Option, Some, Ok, sym, ap, ◌∙◌, subst, inl, inr, arith}
use Rattle.std.proofs.lemmas.Grind.{common_steps}
use Rattle.crash_disk.specs.Disk.{History, content, MayLeave, FaultPlan}
use Rattle.crash_disk.specs.Calls.{WhereTold}
use Rattle.crash_disk.proofs.Left.{content_may_be_left}
use Rattle.gate_journal.specs.Image.{journal_in}
use Rattle.gate_journal.specs.Journal.{Keeps as KeepsRecords}
use Rattle.gate_journal.specs.declared.refusal.JournalRefusal.{JournalRefusal}
use Rattle.gate_journal.proofs.Lives.{in_keeps}
use Rattle.node_journal.specs.Role.{are_of, role_in}
use Rattle.node_journal.specs.Notes.{NotesState, Opened}
use Rattle.leaf_journal.specs.Records.{leaf_records_of, leaf_records_read_of, leaf_records_in_of}
use Rattle.node_rules.specs.Wallet.{WalletRecords}
use Rattle.node_rules.specs.WalletRecords.{wallet_kinds, is_body}
use Rattle.node_rules.specs.WalletOpening.{leaves_of}
use Rattle.node_rules.proofs.WalletGrow.{wallet-parts}
use Rattle.wallet_node.specs.State.{WalletState}
use Rattle.wallet_node.specs.Opening.{OpensWallet, RefusesWallet}
use Rattle.node_replies.specs.Roles.{Role, Wallet, Watcher, Operator}
use Rattle.run_endings.specs.declared.status.Status.{Status}
use Rattle.node_runs.specs.Sessions.{Outside}
use Rattle.node_lives.specs.Disks.{Pair, BothLie, BothTell}
use Rattle.node_lives.specs.Calls.{Asked, ToRun, DoesAsked}
use Rattle.node_lives.specs.Standing.{KeepWallet, Stand, kinds_of}
use Rattle.node_lives.proofs.Quiet.{Quietly, quiet-same}
use Rattle.node_lives.proofs.Taken.{AllRecorded}
use Rattle.node_lives.proofs.Stays.{keeps-same}
use Rattle.node_lives.proofs.Roles.{ok-of, role-recorded, role-read, none-other, none-signer}
use Rattle.node_lives.proofs.Opens.{tells-some, refused-quiet, opened-quiet}
use Rattle.node_lives.proofs.Foreign.{asked-quiet}
use Rattle.node_lives.proofs.Life.{lies-no-more}

-- the images keep records of which this holds
pub record Keep (P : WalletRecords → Type 0) (notes leaves : List ℕ) : Type 0 where
  pub kept : WalletRecords
  pub keeps_notes : KeepsRecords kept.notes notes
  pub keeps_leaves : KeepsRecords kept.leaves leaves
  pub is : P kept

-- the records of a node that has notes alone
abbrev pub notes_alone : List (List ℕ) → WalletRecords
notes_alone notes = record { notes = notes; leaves = [] }

pub record KeepNotes (P : WalletRecords → Type 0) (image : List ℕ) : Type 0 where
  pub kept : List (List ℕ)
  pub keeps : KeepsRecords kept image
  pub is : P (notes_alone kept)

module _ {D : Type 0} (told : D → Option History) where
  -- Each image that a crash now may leave of the notes keeps records of which this holds; of a wallet each two images
  -- of both disks do. Of an operator nothing is asked.
  abbrev pub BothOnly : (WalletRecords → Type 0) → D → D → Type 0
  BothOnly P notes leaves =
      WhereTold (told notes) (λ n. WhereTold (told leaves)
      (λ l. (one other : List ℕ) → MayLeave n one → MayLeave l other → Keep P one other))

  abbrev pub NotesOnly : (WalletRecords → Type 0) → D → Type 0
  NotesOnly P notes = WhereTold (told notes) (λ n. (image : List ℕ) → MayLeave n image → KeepNotes P image)

  abbrev pub Only : Role → (WalletRecords → Type 0) → Pair D → Type 0
  Only Wallet P pair = BothOnly P pair.notes pair.leaves
  Only Watcher P pair = NotesOnly P pair.notes
  Only Operator P pair = Unit {0}

  keep-weaker : (P R : WalletRecords → Type 0) (notes leaves : List ℕ) → ((r : WalletRecords) → P r → R r)
      → Keep P notes leaves → Keep R notes leaves
  keep-weaker P R notes leaves more keep = grind (arith, common_steps) steps 20000

  notes-weaker : (P R : WalletRecords → Type 0) (image : List ℕ) → ((r : WalletRecords) → P r → R r)
      → KeepNotes P image → KeepNotes R image
  notes-weaker P R image more keep =
      record { kept = keep.kept; keeps = keep.keeps; is = more (notes_alone keep.kept) keep.is }

  pub only-weaker : (role : Role) (P R : WalletRecords → Type 0) (pair : Pair D)
      → ((r : WalletRecords) → P r → R r) → Only role P pair → Only role R pair
  only-weaker Wallet P R pair more only = λ n is l also one other may left.
      keep-weaker P R one other more (only n is l also one other may left)
  only-weaker Watcher P R pair more only = λ n is image may. notes-weaker P R image more (only n is image may)
  only-weaker Operator P R pair more only = tt

  -- where a crash leaves no more
  both-quiet : (P : WalletRecords → Type 0) (old new : Pair D) → BothTell told old
      → Quietly (told old.notes) (told new.notes) → Quietly (told old.leaves) (told new.leaves)
      → BothOnly P old.notes old.leaves → BothOnly P new.notes new.leaves
  both-quiet P old new tells notes leaves only = λ n is l also one other may left.
      (let h = tells-some (told old.notes) tells.0 in
      let k = tells-some (told old.leaves) tells.1 in
      only h.0 h.1 k.0 k.1 one other (notes h.0 n h.1 is one may) (leaves k.0 l k.1 also other left))

  pub notes-quiet : (P : WalletRecords → Type 0) (old new : Pair D) → BothTell told old
      → Quietly (told old.notes) (told new.notes) → NotesOnly P old.notes → NotesOnly P new.notes
  notes-quiet P old new tells notes only = λ n is image may.
      (let h = tells-some (told old.notes) tells.0 in only h.0 h.1 image (notes h.0 n h.1 is image may))

  pub only-quiet : (role : Role) (P : WalletRecords → Type 0) (old new : Pair D) → BothTell told old
      → Quietly (told old.notes) (told new.notes) → Quietly (told old.leaves) (told new.leaves)
      → Only role P old → Only role P new
  only-quiet Wallet P old new tells notes leaves only = both-quiet P old new tells notes leaves only
  only-quiet Watcher P old new tells notes leaves only = notes-quiet P old new tells notes only
  only-quiet Operator P old new tells notes leaves only = tt

module _ {D : Type 0} (told : D → Option History) (plan : D → Option FaultPlan) (faults : D → ℕ)
    (dig : List ℕ → List ℕ) where
  -- ---- between two calls

  notes-lie : (P : WalletRecords → Type 0) (left next : Pair D) → BothLie told left next → NotesOnly told P left.notes
      → NotesOnly told P next.notes
  notes-lie P left next lie only = λ n is image may.
      (let notes = lies-no-more told plan faults dig left.notes next.notes lie.0 n is in
      only notes.0 notes.1 image (notes.2 image may))

  pub only-lies : (role : Role) (P : WalletRecords → Type 0) (left next : Pair D) → BothLie told left next
      → Only told role P left → Only told role P next
  only-lies Wallet P left next lie only = λ n is l also one other may leaves.
      (let notes = lies-no-more told plan faults dig left.notes next.notes lie.0 n is in
      let others = lies-no-more told plan faults dig left.leaves next.leaves lie.1 l also in
      only notes.0 notes.1 others.0 others.1 one other (notes.2 one may) (others.2 other leaves))
  only-lies Watcher P left next lie only = notes-lie P left next lie only
  only-lies Operator P left next lie only = tt

  -- ---- calls that aren't runs of the role

  -- what stands on the notes
  pub record NotesAre (role : Role) (image : List ℕ) : Type 0 where
    pub records : List (List ℕ)
    pub keeps : KeepsRecords records image
    pub are : are_of (kinds_of dig role) records ≡ true

  pub notes-are : (role : Role) (first : WalletRecords) (pair : Pair D) → BothTell told pair
      → Stand dig told role first pair → (now : History) → told pair.notes ≡ Some now → (image : List ℕ)
      → MayLeave now image → NotesAre role image
  notes-are Wallet first pair tells stand now is image may =
      let l = tells-some (told pair.leaves) tells.1 in
      let there = stand now is l.0 l.1 image (content l.0) may (content_may_be_left l.0) in
      record {
        records = there.kept.notes;
        keeps = there.keeps_notes;
        are = (wallet-parts dig there.kept there.is).role;
      }
  notes-are Watcher first pair tells stand now is image may =
      let there = stand now is image may in
      let parts = in_keeps (are_of (kinds_of dig Watcher)) image there.0 there.1 in
      record { records = there.0; keeps = parts.0; are = parts.1 }
  notes-are Operator first pair tells stand now is image may =
      let there = stand.0 now is image may in
      let parts = in_keeps (are_of (kinds_of dig Operator)) image there.0 there.1 in
      record { records = there.0; keeps = parts.0; are = parts.1 }

  module _ (role : Role) (first : WalletRecords) (old : Pair D) (tells : BothTell told old)
      (stand : Stand dig told role first old) where
    all-recorded : AllRecorded (told old.notes)
    all-recorded now is image may =
        let are = notes-are role first old tells stand now is image may in
        role-recorded (kinds_of dig role) image are.records are.keeps are.are

    -- no other role's journal is opened there
    pub none-opened : (other : Role) → (role ≡ other → ⊥) → (opened : NotesState D)
        → Opened told plan faults (role_in (kinds_of dig other)) old.notes opened → ⊥
    none-opened other apart opened opens =
        let h = tells-some (told old.notes) tells.0 in
        let are = notes-are role first old tells stand h.0 h.1 (content h.0) (content_may_be_left h.0) in
        none-other dig role other (content h.0) are.records opened.records (λ same. apart (sym same)) are.keeps are.are
        (opens.kept h.0 h.1)

    -- a call that isn't a run of the role leaves no more
    pub foreign-only : (P : WalletRecords → Type 0) (asked : Asked) (new : Pair D) (outside : Outside) (status : Status)
        → (asked ≡ ToRun role → ⊥) → DoesAsked told plan faults dig asked old new outside status
        → Only told role P old → Only told role P new
    foreign-only P asked new outside status never did only =
        let h = tells-some (told old.notes) tells.0 in
        let are = notes-are role first old tells stand h.0 h.1 (content h.0) (content_may_be_left h.0) in
        let quiet = asked-quiet told plan faults dig (λ one. one ≡ ToRun role) old new h.0 h.1 all-recorded
        (λ other apart found read. none-other dig role other (content h.0) are.records found
        (λ same. apart (ap (λ (r : Role). ToRun r) same)) are.keeps are.are read)
        (λ message apart found read. none-signer dig role (content h.0) are.records found are.keeps are.are read)
        asked outside status never did in
        only-quiet told role P old new tells quiet.1.notes
        (quiet-same (told old.leaves) (told new.leaves) (ap told quiet.1.leaves)) only

  -- ---- openings

  module _ (P : WalletRecords → Type 0) (first : WalletRecords) (old : Pair D) (tells : BothTell told old)
      (stand : Stand dig told Wallet first old) (only : BothOnly told P old.notes old.leaves) where
    notes_history : (h : History) × (told old.notes ≡ Some h)
    notes_history = tells-some (told old.notes) tells.0

    leaves_history : (h : History) × (told old.leaves ≡ Some h)
    leaves_history = tells-some (told old.leaves) tells.1

    here : Keep P (content notes_history.0) (content leaves_history.0)
    here =
        only notes_history.0 notes_history.1 leaves_history.0 leaves_history.1 _ _
        (content_may_be_left notes_history.0) (content_may_be_left leaves_history.0)

    there : KeepWallet dig first (content notes_history.0) (content leaves_history.0)
    there =
        stand notes_history.0 notes_history.1 leaves_history.0 leaves_history.1 _ _
        (content_may_be_left notes_history.0) (content_may_be_left leaves_history.0)

    leaves-read : (notes : List (List ℕ)) → there.kept.notes ≡ notes
        → leaf_records_in_of is_body (leaves_of notes) (content leaves_history.0) ≡ Ok there.kept.leaves
    leaves-read notes same =
        ap (leaf_records_read_of is_body (leaves_of notes))
        (ok-of (journal_in (content leaves_history.0)) there.kept.leaves there.keeps_leaves)
        ∙ subst (λ (l : List (List ℕ)). leaf_records_of is_body (leaves_of l) there.kept.leaves ≡ Ok there.kept.leaves)
        same (wallet-parts dig there.kept there.is).leaves

    -- what is opened is so
    pub wallet-found : (opened : WalletState D (Unit {0}))
        → OpensWallet told plan faults dig old.notes old.leaves opened → P opened.records
    wallet-found opened opens =
        let notes = (role-read (wallet_kinds dig) (content notes_history.0) opened.records.notes
        (opens.opens_notes.kept notes_history.0 notes_history.1)).0 in
        let one : here.kept.notes ≡ opened.records.notes =
        keeps-same (content notes_history.0) here.kept.notes opened.records.notes here.keeps_notes notes in
        let theirs : there.kept.notes ≡ opened.records.notes =
        keeps-same (content notes_history.0) there.kept.notes opened.records.notes there.keeps_notes notes in
        let read = leaves-read opened.records.notes theirs in
        let found = opens.opens_leaves.kept leaves_history.0 leaves_history.1 in
        let leaves : there.kept.leaves ≡ opened.records.leaves = cc (read, found) in
        let other : here.kept.leaves ≡ opened.records.leaves =
        keeps-same (content leaves_history.0) here.kept.leaves there.kept.leaves here.keeps_leaves there.keeps_leaves
        ∙ leaves in
        let same : here.kept ≡ opened.records = λ i. record { notes = one i; leaves = other i } in
        subst P same here.is

  -- an opening of a wallet that was refused leaves no more
  refused-both : (notes leaves new_notes new_leaves : D) (why : JournalRefusal)
      → RefusesWallet told plan faults dig notes leaves why new_notes new_leaves
      → Quietly (told notes) (told new_notes) × Quietly (told leaves) (told new_leaves)
  refused-both notes leaves new_notes new_leaves why (inl (refuses, same)) = (
    refused-quiet told plan (role_in (wallet_kinds dig)) notes new_notes why refuses.refused,
    quiet-same (told leaves) (told new_leaves) (ap told same),
  )
  refused-both notes leaves new_notes new_leaves why (inr (opened, opens, (same, inl refuses))) = (
    opened-quiet told plan faults _ notes opened new_notes opens same,
    refused-quiet told plan (leaf_records_in_of is_body (leaves_of opened.records)) leaves new_leaves why
        refuses.refused,
  )
  refused-both notes leaves new_notes new_leaves why
      (inr (opened, opens, (same, inr (behind, opening, one, unbound)))) = (
        opened-quiet told plan faults _ notes opened new_notes opens same,
        opened-quiet told plan faults _ leaves behind new_leaves opening one,
      )

  pub wallet-refused : (P : WalletRecords → Type 0) (old new : Pair D) → BothTell told old → (why : JournalRefusal)
      → RefusesWallet told plan faults dig old.notes old.leaves why new.notes new.leaves
      → Only told Wallet P old → Only told Wallet P new
  wallet-refused P old new tells why refuses only =
      let quiet = refused-both old.notes old.leaves new.notes new.leaves why refuses in
      only-quiet told Wallet P old new tells quiet.0 quiet.1 only

  -- of a watcher
  pub watcher-found : (P : WalletRecords → Type 0) (old : Pair D) → BothTell told old → (opened : NotesState D)
      → Opened told plan faults (role_in (kinds_of dig Watcher)) old.notes opened → NotesOnly told P old.notes
      → P (notes_alone opened.records)
  watcher-found P old tells opened opens only =
      let h = tells-some (told old.notes) tells.0 in
      let here = only h.0 h.1 (content h.0) (content_may_be_left h.0) in
      let read = role-read (kinds_of dig Watcher) (content h.0) opened.records (opens.kept h.0 h.1) in
      subst (λ (r : List (List ℕ)). P (notes_alone r))
      (keeps-same (content h.0) here.kept opened.records here.keeps read.0) here.is
