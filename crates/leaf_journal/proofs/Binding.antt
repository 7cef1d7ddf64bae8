-- The records that bind and migrate, behind others.
use Rattle.leaf_journal.proofs.Words.{◌≡◌, ◌<◌, ◌≤◌, ℕ, true, false, List, [], ◌∷◌, ◌++◌, length, Option, Some, None, Err, refl, ◌∙◌, ap, subst, inl, inr, arith, cases_Bool, eq-eqb, lt-ltb, le-leb, take_at, drop_at, bytes_eq-Decides, common_steps, History, FaultPlan, NotesState, Did, leaves_of, leaf_effect, bind_stop, binding_record, is_marked, is_marker, marker, may_follow, MayBind, messages_of, with_number}
use Rattle.std.proofs.lemmas.List.Folds.{list_any-append}
use Rattle.leaf_journal.specs.declared.refusal.BindRefusal.{BindRefusal}
use Rattle.leaf_journal.proofs.Messages.{other_length}
use Rattle.leaf_journal.proofs.Form.{more-marked, more-unmarked, more-mark}

module _ (records : List (List ℕ)) (message : List ℕ) where
  abbrev q : ℕ
  q = length (messages_of records)

  second_follows : (leaves : ℕ) → is_marked records ≡ true → 1 ≤ length message → length message ≤ 128 → q < leaves
      → may_follow leaves records (with_number q message) ≡ true
  second_follows leaves marked least most leaf =
      grind (arith, common_steps, take_at, bytes_eq-Decides, le-leb, lt-ltb) steps 20000

  plain : length message ≡ 116 → is_marker message ≡ false
  plain whole = other_length message (λ four. omega (arith, whole, four))

  first_follows : (leaves : ℕ) → is_marked records ≡ false → length message ≡ 116 → q < leaves
      → may_follow leaves records message ≡ true
  first_follows leaves not_marked whole leaf = rw (not_marked, plain whole, eq-eqb _ _ whole, lt-ltb q leaves leaf)
      refl

  lengths : MayBind records message → is_marked records ≡ false → length message ≡ 116
  lengths (inl whole) not_marked = whole
  lengths (inr second) not_marked = absurd (cc (second.0, not_marked))

  bounds : MayBind records message → (1 ≤ length message) × (length message ≤ 128)
  bounds (inl whole) = (omega (arith, whole), omega (arith, whole))
  bounds (inr second) = (second.1, second.2)

  -- a record that binds may follow, and binds the message to the next leaf
  pub binding_follows : (leaves : ℕ) → MayBind records message → q < leaves
      → may_follow leaves records (binding_record records message) ≡ true
  binding_follows leaves may leaf = elim (cases_Bool (is_marked records)) [
    | inl marked ↦ (let is : binding_record records message ≡ with_number q message = rw marked refl in
        ap (may_follow leaves records) is ∙ second_follows leaves marked (bounds may).0 (bounds may).1 leaf)
    | inr not_marked ↦ grind (arith, common_steps, first_follows, lengths) steps 20000
  ]

  pub binding-messages : MayBind records message → messages_of (records ++ binding_record records message ∷ []) ≡
      messages_of records ++ message ∷ []
  binding-messages may =
      grind (arith, common_steps, cases_Bool, more-marked, drop_at, more-unmarked, plain, lengths) steps 20000

-- so may the marker, which binds none
pub marker_follows : (leaves : ℕ) (records : List (List ℕ)) → is_marked records ≡ false
    → may_follow leaves records marker ≡ true
marker_follows leaves records not_marked = rw not_marked refl

pub marker-messages : (records : List (List ℕ)) → is_marked records ≡ false
    → messages_of (records ++ marker ∷ []) ≡ messages_of records
marker-messages records not_marked = more-mark records marker (record { unmarked = not_marked; mark = refl })

pub marker-marked : (records : List (List ℕ)) → is_marked (records ++ marker ∷ []) ≡ true
marker-marked records = grind (arith, common_steps, list_any-append) steps 20000

-- a bind where a leaf is left
module _ (key : List ℕ) (records : List (List ℕ)) (message : List ℕ)
    (left : length (messages_of records) < leaves_of key) where
  pub bind-noted : (leaf_effect key records message).note ≡ Some (binding_record records message)
  bind-noted = rw (lt-ltb (length (messages_of records)) (leaves_of key) left) refl

  -- nothing but a stop keeps it from being bound
  pub bind-fails : (why : BindRefusal)
      → (bind_stop (Err why) ≡ None → Err why ≡ (leaf_effect key records message).answer)
      → bind_stop (Err why) ≡ None → ⊥
  bind-fails why answered none =
      absurd (cc (rw (lt-ltb (length (messages_of records)) (leaves_of key) left) at answered none))

  -- its record was added, or it was stopped
  pub bind-did : {D : Type 0} (told : D → Option History) (plan : D → Option FaultPlan) (faults : D → ℕ)
      (old new : NotesState D) (stop : _)
      → Did told plan faults (leaf_effect key records message).note old stop new
      → Did told plan faults (Some (binding_record records message)) old stop new
  bind-did told plan faults old new stop did =
      subst (λ (n : Option (List ℕ)). Did told plan faults n old stop new) bind-noted did

  pub bind-stays : {D : Type 0} (told : D → Option History) (plan : D → Option FaultPlan) (faults : D → ℕ)
      (old new : NotesState D) (why : BindRefusal)
      → (bind_stop (Err why) ≡ None → Err why ≡ (leaf_effect key records message).answer)
      → Did told plan faults (leaf_effect key records message).note old (bind_stop (Err why)) new
      → new.records ≡ old.records
  bind-stays told plan faults old new why answered did = grind (arith, common_steps, bind-fails, bind-did) steps 20000
