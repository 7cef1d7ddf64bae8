-- A wallet that is somewhere, behind a command.
use Rattle.node_roles.proofs.Words.{◌≡◌, ◌⊎◌, ℕ, false, List, ◌++◌, ◌∷◌, [], Option, Some, None, sym, ap, ◌∙◌, subst, inl, inr, History, FaultPlan, WhereTold, NotesState, Stop, who_is, Outcome, NotesAt, IsNotesAt, StaysAt, Parts, both, IsNodeAt}
use Rattle.gate_journal.specs.Journal.{IsSettled}
use Rattle.wallet_node.specs.State.{WalletState, notes_part, leaves_part}
use Rattle.node_deeds.specs.WalletOrders.{DidEither}
use Rattle.node_roles.specs.Roles.{wallet_parts}
use Rattle.node_roles.proofs.NodeLaws.{Goes, with-leaves}
use Rattle.node_roles.proofs.NotesLaws.{adds-at, fails-at, same-at, never-closed, stays}

-- over disks that tell their history, foretell their faults and count them
module _ {D : Type 0} (told : D → Option History) (plan : D → Option FaultPlan) (faults : D → ℕ) where
  -- what wasn't asked is where it was
  beside : (at : NotesAt) (old new : NotesState D) → new.disk ≡ old.disk → new.records ≡ old.records
      → IsNotesAt told faults at old → StaysAt told faults at new
  beside at old new disk records is = record {
    records_are = records ∙ is.there.records_are;
    told_is = ap told disk ∙ is.there.told_is;
    faults_are = ap faults disk ∙ is.there.faults_are;
    settled =
        subst (λ disk. WhereTold (told disk) (λ now. IsSettled now new.records)) (sym disk)
        (subst (λ records. WhereTold (told old.disk) (λ now. IsSettled now records)) (sym records) is.there.settled);
  }

  -- and open, if the wallet is open
  beside-open : (at : NotesAt) (old new : NotesState D) → new.closed ≡ false → new.disk ≡ old.disk
      → new.records ≡ old.records → IsNotesAt told faults at old → IsNotesAt told faults at new
  beside-open at old new is_open disk records is =
      record { is_open = is_open; there = beside at old new disk records is }

-- a command that adds this leaf's record, or else this note, or neither
module _ {D H : Type 0} (told : D → Option History) (plan : D → Option FaultPlan) (faults : D → ℕ) where
  note-goes : (note : Option (List ℕ)) (says : _) (of_notes of_leaves : NotesAt) (old new : WalletState D H)
      → IsNotesAt told faults of_notes (notes_part old) → IsNotesAt told faults of_leaves (leaves_part old)
      → Goes told faults (record { says = says; note = note; leaf = None }) (both of_notes of_leaves)
      (λ stop. DidEither told plan faults None note old stop new) (wallet_parts new)
  note-goes note says of_notes of_leaves old new is beside_is = record {
    adds = λ did.
        let notes = adds-at told plan faults note of_notes (notes_part old) (notes_part new) is did.did in (
          notes,
          beside-open told plan faults of_leaves (leaves_part old) (leaves_part new) notes.is_open did.disk did.leaves
              beside_is,
        );
    stays = λ did.
        let notes = same-at told plan faults of_notes (notes_part old) (notes_part new) did.did.1 is in (
          notes,
          beside-open told plan faults of_leaves (leaves_part old) (leaves_part new) notes.is_open did.disk did.leaves
              beside_is,
        );
    fails = λ did. inl (
      fails-at told plan faults note of_notes (notes_part old) (notes_part new) is did.did,
      beside told plan faults of_leaves (leaves_part old) (leaves_part new) did.disk did.leaves beside_is,
    );
    never = λ did. never-closed told plan faults of_notes (notes_part old) is did.did.0;
  }

  leaf-goes : (leaf : List ℕ) (says : _) (of_notes of_leaves : NotesAt) (old new : WalletState D H)
      → IsNotesAt told faults of_notes (notes_part old) → IsNotesAt told faults of_leaves (leaves_part old)
      → Goes told faults (record { says = says; note = None; leaf = Some leaf }) (both of_notes of_leaves)
      (λ stop. DidEither told plan faults (Some leaf) None old stop new) (wallet_parts new)
  leaf-goes leaf says of_notes of_leaves old new beside_is is = record {
    adds = λ did.
        let leaves = adds-at told plan faults (Some leaf) of_leaves (leaves_part old) (leaves_part new) is did.did in (
          beside-open told plan faults of_notes (notes_part old) (notes_part new) leaves.is_open did.disk did.notes
              beside_is,
          leaves,
        );
    stays = λ did.
        let leaves = same-at told plan faults of_leaves (leaves_part old) (leaves_part new) did.did.1 is in (
          beside-open told plan faults of_notes (notes_part old) (notes_part new) leaves.is_open did.disk did.notes
              beside_is,
          leaves,
        );
    fails = λ did. inr (
      beside told plan faults of_notes (notes_part old) (notes_part new) did.disk did.notes beside_is,
      fails-at told plan faults (Some leaf) of_leaves (leaves_part old) (leaves_part new) is did.did,
    );
    never = λ did. never-closed told plan faults of_leaves (leaves_part old) is did.did.0;
  }

  either-goes : (note leaf : Option (List ℕ)) (says : _) → (note ≡ None) ⊎ (leaf ≡ None)
      → (of_notes of_leaves : NotesAt)
      (old new : WalletState D H)
      → IsNotesAt told faults of_notes (notes_part old) → IsNotesAt told faults of_leaves (leaves_part old)
      → Goes told faults (record { says = says; note = note; leaf = leaf }) (both of_notes of_leaves)
      (λ stop. DidEither told plan faults leaf note old stop new) (wallet_parts new)
  either-goes note None says one of_notes of_leaves old new is beside_is =
      note-goes note says of_notes of_leaves old new is beside_is
  either-goes None (Some leaf) says one of_notes of_leaves old new is beside_is =
      leaf-goes leaf says of_notes of_leaves old new is beside_is
  either-goes (Some note) (Some leaf) says (inl wrong) of_notes of_leaves old new is beside_is = cc
  either-goes (Some note) (Some leaf) says (inr wrong) of_notes of_leaves old new is beside_is = cc

  pub wallet-goes : (outcome : Outcome) → (outcome.note ≡ None) ⊎ (outcome.leaf ≡ None) → (at : Parts NotesAt)
      (old new : WalletState D H) → IsNodeAt told faults at (wallet_parts old)
      → Goes told faults outcome at (λ stop. DidEither told plan faults outcome.leaf outcome.note old stop new)
      (wallet_parts new)
  wallet-goes outcome one at old new is =
      with-leaves told faults at (notes_part old) (leaves_part old)
      (λ at. Goes told faults outcome at (λ stop. DidEither told plan faults outcome.leaf outcome.note old stop new)
      (wallet_parts new))
      is
      (λ of_notes of_leaves notes leaves.
      either-goes outcome.note outcome.leaf outcome.says one of_notes of_leaves old new notes leaves)

  -- the digest stays, and the tag
  pub either-hash : (leaf note : Option (List ℕ)) (old new : WalletState D H) (stop : Option Stop)
      → DidEither told plan faults leaf note old stop new → new.hash ≡ old.hash
  either-hash None added old new stop did = did.hash
  either-hash (Some leaf) added old new stop did = did.hash

  pub either-tag : (leaf note : Option (List ℕ)) (old new : WalletState D H) (stop : Option Stop)
      → ((body : List ℕ) → (who_is (old.records.notes ++ body ∷ [])).tag ≡ (who_is old.records.notes).tag)
      → DidEither told plan faults leaf note old stop new
      → (who_is new.records.notes).tag ≡ (who_is old.records.notes).tag
  either-tag None added old new stop same did =
      stays told plan faults (λ records. (who_is records).tag) added (notes_part old) (notes_part new) stop same did.did
  either-tag (Some leaf) added old new stop same did = ap (λ records. (who_is records).tag) did.notes
