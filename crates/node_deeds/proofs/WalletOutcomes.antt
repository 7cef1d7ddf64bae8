-- How what a node's command answered and did becomes what an order gives out and does.
use Rattle.node_deeds.proofs.Words.{◌≡◌, ◌⊎◌, ℕ, Bool, false, List, Option, Some, None, Ok, Err, inl, inr, refl, sym, ap, subst, Result, IfOk, History, FaultPlan, Stop, NotesState, Did, stopped_by, WalletRefusal, RefusedMemory, wallet_cause, Response, answered, Given, IsGiven}
use Rattle.node_journal.specs.declared.stop.Stop.TheVariants.{Closed, NoMemory, DeviceFault}
use Rattle.wallet_node.specs.State.{WalletState, notes_part, leaves_part, stop_in, DidNote, DidLeaf}
use Rattle.node_deeds.specs.WalletOrders.{DidEither}
use Rattle.node_deeds.specs.WalletInside.{HandsOn}

-- ---- what is given out

module _ {A : Type 0} (give : A → Response) (answer : Result A WalletRefusal) where
  abbrev IsAnswer : Given → Type 0
  IsAnswer given = IsGiven (answered wallet_cause give answer) given

  -- for an answer
  pub ok-gives : (done : A) (given : Given) → Ok done ≡ answer → IsGiven (give done) given → IsAnswer given
  ok-gives done given same is = subst (λ r. IsGiven (answered wallet_cause give r) given) same is

  -- for a refusal that was handed on
  pub err-gives : (why : WalletRefusal) (result : Result Given Stop) → (stop_in why ≡ None → Err why ≡ answer)
      → HandsOn (stop_in why) (wallet_cause why) result → IfOk result IsAnswer
  err-gives why result same on = at (stop_in why) result same on
    where
      at : (stop : Option Stop) (r : Result Given Stop) → (stop ≡ None → Err why ≡ answer)
          → HandsOn stop (wallet_cause why) r → IfOk r IsAnswer
      at (Some stop) (Ok given) same on = absurd (cc on)
      at (Some stop) (Err other) same on = tt
      at None (Ok given) same on =
          subst (λ r. IsGiven (answered wallet_cause give r) given) (same refl) on
      at None (Err other) same on = tt

-- ---- what is done

same-part : {D : Type 0} (a b : D) (c d : Bool) (r s : List (List ℕ)) → a ≡ b → c ≡ d → r ≡ s
    → (let one : NotesState D = record { disk = a; closed = c; records = r } in one)
    ≡ (let other : NotesState D = record { disk = b; closed = d; records = s } in other)
same-part a b c d r s same_disk same_closed same_records = cc

module _ {D H : Type 0} (told : D → Option History) (plan : D → Option FaultPlan) (faults : D → ℕ)
    (old new : WalletState D H) where
  abbrev DoesIt : Option (List ℕ) → Option (List ℕ) → Option Stop → Type 0
  DoesIt leaf note stop = DidEither told plan faults leaf note old stop new

  -- a command that adds no leaf's record did what its note says
  pub noted : (leaf note : Option (List ℕ)) (stop : Option Stop) → leaf ≡ None
      → DidNote told plan faults note old stop new → DoesIt leaf note stop
  noted None added stop none did = did
  noted (Some leaf) added stop none did = absurd (cc none)

  -- where the leaves stay, and the notes and their disk too, the notes' part stays
  notes-stay : leaves_part new ≡ leaves_part old → new.notes_disk ≡ old.notes_disk
      → new.records.notes ≡ old.records.notes → notes_part new ≡ notes_part old
  notes-stay leaves disk notes =
      same-part new.notes_disk old.notes_disk new.closed old.closed new.records.notes old.records.notes disk
      (ap (λ (p : NotesState D). p.closed) leaves) notes

  -- a command that added nothing to the leaves added nothing to the notes
  still : (stop : Option Stop) → DidLeaf told plan faults None old stop new
      → DidNote told plan faults None old stop new
  still stop did = record {
    did = at stop did.did;
    disk = part (λ (p : NotesState D). p.disk) stop did.did;
    leaves = part (λ (p : NotesState D). p.records) stop did.did;
    hash = did.hash;
  }
    where
      at : (s : Option Stop) → Did told plan faults None (leaves_part old) s (leaves_part new)
          → Did told plan faults None (notes_part old) s (notes_part new)
      at None is = (is.0, notes-stay is.1 did.disk did.notes)
      at (Some Closed) is = (is.0, notes-stay is.1 did.disk did.notes)
      at (Some NoMemory) is = (is.0, notes-stay is.1 did.disk did.notes)
      at (Some DeviceFault) is = absurd is

      part : {T : Type 0} (f : NotesState D → T) (s : Option Stop)
          → Did told plan faults None (leaves_part old) s (leaves_part new)
          → f (leaves_part new) ≡ f (leaves_part old)
      part f None is = ap f is.1
      part f (Some Closed) is = ap f is.1
      part f (Some NoMemory) is = ap f is.1
      part f (Some DeviceFault) is = absurd is

  -- a command that adds no note did what its leaf's record says
  pub leafed : (leaf note : Option (List ℕ)) (stop : Option Stop) → note ≡ None
      → DidLeaf told plan faults leaf old stop new → DoesIt leaf note stop
  leafed (Some leaf) added stop none did = did
  leafed None None stop none did = still stop did
  leafed None (Some note) stop none did = absurd (cc none)

  -- a command that added nothing left all as want of memory does
  pub unchanged : (leaf note : Option (List ℕ)) → note ≡ None → leaf ≡ None → DoesIt leaf note None
      → DoesIt leaf note (Some NoMemory)
  unchanged None None no_note no_leaf did =
      record { did = did.did; disk = did.disk; leaves = did.leaves; hash = did.hash }
  unchanged (Some leaf) added no_note no_leaf did = absurd (cc no_leaf)
  unchanged None (Some note) no_note no_leaf did = absurd (cc no_note)

  -- a refusal that was handed on leaves what the refused command left
  pub err-did : (leaf note : Option (List ℕ)) (why : WalletRefusal) (result : Result Given Stop)
      → (stop_in why ≡ None → (note ≡ None) × (leaf ≡ None)) → HandsOn (stop_in why) (wallet_cause why) result
      → DoesIt leaf note (stop_in why) → DoesIt leaf note (stopped_by result)
  err-did leaf note why result bare on did = at (stop_in why) result bare on did
    where
      at : (stop : Option Stop) (r : Result Given Stop) → (stop ≡ None → (note ≡ None) × (leaf ≡ None))
          → HandsOn stop (wallet_cause why) r → DoesIt leaf note stop → DoesIt leaf note (stopped_by r)
      at (Some stop) (Ok given) bare on did = absurd (cc on)
      at (Some stop) (Err other) bare on did =
          let same : stop ≡ other = cc on in subst (λ s. DoesIt leaf note (Some s)) same did
      at None (Ok given) bare on did = did
      at None (Err other) bare on did =
          subst (λ s. DoesIt leaf note (Some s)) (sym on)
          (unchanged leaf note (bare refl).0 (bare refl).1 did)

-- a command that adds nothing leaves an open wallet as it was, where memory alone may have stopped it
pub unasked : {D H : Type 0} (told : D → Option History) (plan : D → Option FaultPlan) (faults : D → ℕ)
    (wallet : WalletState D H) (why : WalletRefusal) (result : Result Given Stop) → wallet.closed ≡ false
    → (stop_in why ≡ None) ⊎ (why ≡ RefusedMemory) → HandsOn (stop_in why) (wallet_cause why) result
    → DidEither told plan faults None None wallet (stopped_by result) wallet
unasked told plan faults wallet why result is_open ends on = at (stop_in why) result (free ends) on
  where
    free : (stop_in why ≡ None) ⊎ (why ≡ RefusedMemory) → (stop_in why ≡ None) ⊎ (stop_in why ≡ Some NoMemory)
    free (inl none) = inl none
    free (inr starved) = inr (ap stop_in starved)

    at : (stop : Option Stop) (r : Result Given Stop) → (stop ≡ None) ⊎ (stop ≡ Some NoMemory)
        → HandsOn stop (wallet_cause why) r → DidNote told plan faults None wallet (stopped_by r) wallet
    at (Some stop) (Ok given) free on = absurd (cc on)
    at (Some stop) (Err other) (inl none) on = absurd (cc none)
    at (Some stop) (Err other) (inr starved) on =
        let memory : NoMemory ≡ other = cc (on, starved) in
        subst (λ s. DidNote told plan faults None wallet (Some s) wallet) memory
        (record { did = (is_open, refl); disk = refl; leaves = refl; hash = refl })
    at None (Ok given) free on = record { did = (is_open, refl); disk = refl; leaves = refl; hash = refl }
    at None (Err other) free on =
        subst (λ s. DidNote told plan faults None wallet (Some s) wallet) (sym on)
        (record { did = (is_open, refl); disk = refl; leaves = refl; hash = refl })
