-- A wallet's two parts, closed by one flag.
use Rattle.wallet_node.proofs.Words.{◌≡◌, ℕ, ◌||◌, Bool, true, false, List, Option, refl, sym, subst, arith, common_steps, History, FaultPlan, NotesState, Did, WalletState, DidNote, DidLeaf}
use Rattle.node_journal.specs.declared.stop.Stop.{Stop}

pub open-both : (a b : Bool) → (a || b) ≡ false → (a ≡ false) × (b ≡ false)
open-both true b is = absurd (cc is)
open-both false b is = (refl, is)

or-false : (b : Bool) → b ≡ (b || false)
or-false true = refl
or-false false = refl

-- the flag beside another
abbrev pub beside : {D : Type 0} → Bool → NotesState D → NotesState D
beside other part = record part { closed = part.closed || other }

abbrev pub behind : {D : Type 0} → Bool → NotesState D → NotesState D
behind other part = record part { closed = other || part.closed }

module _ {D : Type 0} (told : D → Option History) (plan : D → Option FaultPlan) (faults : D → ℕ)
    (added : Option (List ℕ)) (stop : Option Stop) (old new : NotesState D) where
  pub did-beside : (other : Bool) → other ≡ false → Did told plan faults added old stop new
      → Did told plan faults added (beside other old) stop (beside other new)
  did-beside other is did = grind (arith, common_steps, or-false) steps 20000

  pub did-behind : (other : Bool) → other ≡ false → Did told plan faults added old stop new
      → Did told plan faults added (behind other old) stop (behind other new)
  did-behind other is did =
      subst (λ (b : Bool). Did told plan faults added (behind b old) stop (behind b new)) (sym is) did

-- over both disks
module _ {D H : Type 0} (told : D → Option History) (plan : D → Option FaultPlan) (faults : D → ℕ)
    (added : Option (List ℕ)) (stop : Option Stop) (old new : NotesState D) (hash : H) (state : WalletState D H) where
  -- a wallet of notes and these leaves
  abbrev pub of_notes : D → Bool → List (List ℕ) → NotesState D → WalletState D H
  of_notes disk closed leaves notes = record {
    notes_disk = notes.disk;
    leaves_disk = disk;
    closed = notes.closed || closed;
    records = record { notes = notes.records; leaves = leaves };
    hash = hash;
  }

  -- a wallet of leaves and these notes
  abbrev pub of_leaves : D → Bool → List (List ℕ) → NotesState D → WalletState D H
  of_leaves disk closed notes leaves = record {
    notes_disk = disk;
    leaves_disk = leaves.disk;
    closed = closed || leaves.closed;
    records = record { notes = notes; leaves = leaves.records };
    hash = hash;
  }

  -- what was done to notes was done to the wallet
  pub note-done : (disk : D) (closed : Bool) (leaves : List (List ℕ)) → of_notes disk closed leaves old ≡ state
      → closed ≡ false → Did told plan faults added old stop new
      → DidNote told plan faults added state stop (of_notes disk closed leaves new)
  note-done disk closed leaves is none did = grind (arith, common_steps, did-beside) steps 20000

  -- and so with leaves
  pub leaf-done : (disk : D) (closed : Bool) (notes : List (List ℕ)) → of_leaves disk closed notes old ≡ state
      → closed ≡ false → Did told plan faults added old stop new
      → DidLeaf told plan faults added state stop (of_leaves disk closed notes new)
  leaf-done disk closed notes is none did = grind (arith, common_steps, did-behind) steps 20000
