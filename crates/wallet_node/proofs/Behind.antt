-- What an opening of leaves behind notes does.
use Rattle.wallet_node.proofs.Words.{◌≡◌, ℕ, true, false, List, Option, Ok, Err, inr, refl, ap, subst, length-take-le, arith, Result, IfOk, IfErr, common_steps, History, FaultPlan, Secret, is_supported, leaf_count, public_key_of, NotesState, Opened, RefusesRole, leaf_records_in_of, leaves_of_key, WalletIdentity, is_body, leaves_in, secret_of, who_is, WalletState, leaves_part}
use Rattle.sha2.specs.Sha256.{sha256}
use Rattle.sha2.proofs.Facts256.{length-sha256}
use Rattle.gate_journal.specs.declared.refusal.JournalRefusal.{JournalRefusal}
use Rattle.gate_journal.specs.declared.refusal.JournalRefusal.TheVariants.{NoMemory}
use Rattle.lms_sign.proofs.Laws.{key-types}
use Rattle.node_journal.proofs.Keeping.{none_made}
use Rattle.node_rules.specs.WalletOpening.{leaves_of}
use Rattle.wallet_node.specs.declared.opening.ReturnedBoth.{ReturnedBoth}
use Rattle.wallet_node.specs.Opening.{IsUnbound, OpensNotes, OpensLeaves, RefusesBehind, RefusesLeaves, RefusesWallet}

-- the wallet's key has as many leaves as its types say
key-leaves : (who : WalletIdentity) → is_supported who.types ≡ true
    → leaves_of_key (public_key_of (secret_of who)) ≡ leaf_count who.types
key-leaves who supported =
    ap leaf_count (key-types (secret_of who) supported (length-take-le 16 (sha256 who.seed)
    (omega (arith, length-sha256 who.seed))))

module _ {D : Type 0} (told : D → Option History) (plan : D → Option FaultPlan) (faults : D → ℕ)
    (dig : List ℕ → List ℕ) (notes : NotesState D) (disk : D) (who : WalletIdentity) (secret : Secret)
    (who_is_it : who ≡ who_is notes.records) (supported : is_supported who.types ≡ true)
    (secret_is : secret ≡ secret_of who) where
  -- by which reader
  leaves-same : leaves_of_key (public_key_of secret) ≡ leaves_of notes.records
  leaves-same = grind (arith, common_steps, key-leaves) steps 20000

  -- leaves that were opened
  pub behind-opened : (opened : NotesState D)
      → Opened told plan faults (leaf_records_in_of is_body (leaves_of_key (public_key_of secret))) disk opened
      → OpensLeaves told plan faults dig notes disk opened
  behind-opened opened =
      subst (λ (n : ℕ). Opened told plan faults (leaf_records_in_of is_body n) disk opened) leaves-same

  -- leaves that weren't
  pub behind-refused : (new : D) (why : JournalRefusal)
      → RefusesRole told plan faults (leaf_records_in_of is_body (leaves_of_key (public_key_of secret))) disk why new
      → RefusesLeaves told plan faults dig notes disk why new
  behind-refused new why =
      subst (λ (n : ℕ). RefusesRole told plan faults (leaf_records_in_of is_body n) disk why new) leaves-same

-- no call was made of leaves, for want of memory
pub behind-none : {D : Type 0} (told : D → Option History) (plan : D → Option FaultPlan) (faults : D → ℕ)
    (dig : List ℕ → List ℕ) (notes : NotesState D) (disk : D)
    → RefusesLeaves told plan faults dig notes disk NoMemory disk
behind-none told plan faults dig notes disk = record {
  refused = (0, (λ one. absurd (omega (arith, one))), none_made told plan disk);
  count = refl;
}

-- what the wallet has of leaves that were opened
pub behind-over : {D H : Type 0} (told : D → Option History) (plan : D → Option FaultPlan) (faults : D → ℕ)
    (dig : List ℕ → List ℕ) (notes : NotesState D) (disk : D) (opened : NotesState D) (hash : H)
    (result : Result (WalletState D H) (ReturnedBoth D)) → OpensLeaves told plan faults dig notes disk opened
    → IfOk result (λ node. node ≡ record {
      notes_disk = notes.disk;
      leaves_disk = opened.disk;
      closed = false;
      records = record { notes = notes.records; leaves = opened.records };
      hash = hash;
    })
    → IfOk result (λ node. OpensLeaves told plan faults dig notes disk (leaves_part node))
behind-over told plan faults dig notes disk opened hash (Err returned) opens over = tt
behind-over {D} told plan faults dig notes disk opened hash (Ok node) opens over =
    grind (arith, common_steps) steps 20000

-- what was refused behind leaves that were opened
pub behind-unbound : {D T : Type 0} (told : D → Option History) (plan : D → Option FaultPlan) (faults : D → ℕ)
    (dig : List ℕ → List ℕ) (notes : NotesState D) (disk : D) (opened : NotesState D)
    (result : Result T (ReturnedBoth D)) → OpensLeaves told plan faults dig notes disk opened
    → IfErr result (λ returned. IsUnbound dig (leaves_in opened.records) notes.records returned.why)
    → IfErr result (λ returned. returned.notes ≡ notes.disk)
    → IfErr result (λ returned. returned.leaves ≡ opened.disk)
    → IfErr result (λ returned.
    RefusesBehind told plan faults dig notes disk returned.why returned.notes returned.leaves)
behind-unbound told plan faults dig notes disk opened (Ok node) opens unbound same same_leaves = tt
behind-unbound told plan faults dig notes disk opened (Err returned) opens unbound same same_leaves =
    (same, inr (opened, opens, same_leaves, unbound))

-- what was refused behind notes that were opened
pub wallet-refused : {D T : Type 0} (told : D → Option History) (plan : D → Option FaultPlan) (faults : D → ℕ)
    (dig : List ℕ → List ℕ) (notes leaves : D) (opened : NotesState D) (result : Result T (ReturnedBoth D))
    → OpensNotes told plan faults dig notes opened
    → IfErr result (λ returned.
    RefusesBehind told plan faults dig opened leaves returned.why returned.notes returned.leaves)
    → IfErr result (λ returned.
    RefusesWallet told plan faults dig notes leaves returned.why returned.notes returned.leaves)
wallet-refused told plan faults dig notes leaves opened (Ok node) opens refused = tt
wallet-refused told plan faults dig notes leaves opened (Err returned) opens refused = inr (opened, opens, refused)
