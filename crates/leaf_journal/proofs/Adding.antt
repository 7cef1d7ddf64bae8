-- What an append and an opening tell of leaves.
use Rattle.leaf_journal.proofs.Words.{◌≡◌, ◌≤◌, ◌+◌, ◌-◌, max, ℕ, cond, true, false, List, [], ◌∷◌, ◌++◌, length, Option, Ok, sym, ◌∙◌, ap, subst, arith, length-append, lt-ltb, le-leb, common_steps, History, FaultPlan, WhereTold, most, spelled, JournalState, IsSettled, fresh_journal, with_spare, has_spare, Appended, AppendFailed, KeepsAtAnyMoment, moments_stay, settled_stays, are_leaf_records, every_message, leaf_records, may_follow, leaves_of, LeafRecordsState, IsSound}
use Rattle.std.specs.Result.{is_ok}
use Rattle.leaf_journal.proofs.Form.{all_same, one_more, count_within, follows_short, spelled-count}

are_ok : (leaves : ℕ) (records : List (List ℕ)) → leaf_records leaves records ≡ Ok records
    → are_leaf_records leaves records ≡ true
are_ok leaves records are = ap is_ok are

-- an open journal with room for a record that may follow
pub record IsReady {D : Type 0} (journal : JournalState D) (leaves : ℕ) (records : List (List ℕ))
    (body : List ℕ) : Type 0 where
  pub open' : journal.closed ≡ false
  pub are : leaf_records leaves records ≡ Ok records
  pub follows : may_follow leaves records body ≡ true
  pub short : length body ≤ 132
  pub bodies : leaves + 1 ≤ length records + journal.spare_bodies
  pub bytes : 132 ≤ journal.spare_bytes

pub ready_from : {D : Type 0} {told : Option History} {journal : JournalState
    D} {key : List ℕ} {kept : LeafRecordsState} → IsSound told journal key kept
    → journal.closed ≡ false → (body : List ℕ) → may_follow kept.leaves kept.records body ≡ true
    → IsReady journal kept.leaves kept.records body
ready_from {kept = kept} sound is body follows = grind (arith, common_steps, follows_short) steps 20000

module _ {D : Type 0} {journal : JournalState D} {leaves : ℕ} {records : List (List ℕ)} {body : List ℕ}
    (ready : IsReady journal leaves records body) where
  pub more_are : leaf_records leaves (records ++ body ∷ []) ≡ Ok (records ++ body ∷ [])
  more_are = one_more every_message leaves records body ready.are ready.follows

  pub spare : has_spare journal (length body) ≡ true
  spare = grind (arith, common_steps, count_within, more_are, lt-ltb, le-leb) steps 20000

  pub fits : length body ≤ most
  fits = omega (arith, ready.short)

-- the leaves over such a journal
module _ {D : Type 0} (told : D → Option History) {plan : D → Option FaultPlan} {journal : JournalState D}
    {key body : List ℕ} {kept : LeafRecordsState} (sound : IsSound (told journal.disk) journal key kept)
    (ready : IsReady journal kept.leaves kept.records body)
  where
    pub fault_sound : {new : JournalState D} → AppendFailed told plan body journal new
        → KeepsAtAnyMoment kept.records body (told journal.disk) (told new.disk) → IsSound (told new.disk) new key kept
    fault_sound {new = new} failed any =
        let shut : new.closed ≡ false → ⊥ = λ still. absurd (let is = failed.is_closed in cc (is, still)) in
        record {
          count = sound.count;
          are = sound.are;
          stay = moments_stay (are_leaf_records kept.leaves) kept.records (are_ok kept.leaves kept.records sound.are)
              body (are_ok kept.leaves (kept.records ++ body ∷ []) (more_are ready)) failed.made any;
          settled = λ still. absurd (shut still);
          gate = λ still. absurd (shut still);
          bodies = λ still. absurd (shut still);
          bytes = λ still. absurd (shut still);
        }

    pub append_sound : {new : JournalState D} {more : LeafRecordsState} → Appended told plan body journal new
        → more ≡ record { leaves = kept.leaves; records = kept.records ++ body ∷ [] }
        → WhereTold (told new.disk) (λ now. IsSettled now (kept.records ++ body ∷ []))
        → IsSound (told new.disk) new key more
    append_sound {new = new} appended is settled =
        let all = kept.records ++ body ∷ [] in
        let are = more_are ready in
        let count = count_within kept.leaves all are in
        let gate : new.gate ≡ journal.gate + (5 + length body) = grind (arith, common_steps) steps 20000 in
        let bodies : new.spare_bodies ≡ cond (has_spare journal (length body)) (journal.spare_bodies - 1)
        journal.spare_bodies = ap (λ (j : JournalState D). j.spare_bodies) appended.journal in
        let bytes : new.spare_bytes ≡ max (length body) journal.spare_bytes = grind (arith, common_steps) steps 20000 in
        let one_less : new.spare_bodies ≡ journal.spare_bodies - 1 = grind (arith, common_steps, spare) steps 20000 in
        let here : IsSound (told new.disk) new key (record { leaves = kept.leaves; records = all }) = record {
          count = sound.count;
          are = are;
          stay = λ history some.
              settled_stays (are_leaf_records kept.leaves) all (are_ok kept.leaves all are) history (settled history some);
          settled = λ still. settled;
          gate = λ still. omega (arith, gate, sound.gate ready.open', spelled-count kept.records body);
          bodies = λ still. omega (arith, one_less, ready.bodies, count, length-append kept.records (body ∷ []));
          bytes = λ still. omega (arith, bytes, ready.bytes);
        } in
        subst (λ (k : LeafRecordsState). IsSound (told new.disk) new key k) (sym is) here

-- a journal that was just opened and given room is open
pub open_after : {D : Type 0} {old new : JournalState D} (bodies : List (List ℕ)) (others : ℕ)
    → new ≡ with_spare others 132 new.disk old → old ≡ fresh_journal old.disk bodies → new.closed ≡ false
open_after {D = D} bodies others is fresh = ap (λ (j : JournalState D). j.closed) is ∙ ap (λ (j : JournalState D). j.closed) fresh

-- leaves that were just opened over these bodies, with room for all others
module _ {D : Type 0} (told : D → Option History) (new : JournalState D) (kept : LeafRecordsState) (leaves : ℕ)
    (bodies : List (List ℕ))
    (read : leaf_records leaves bodies ≡ Ok kept.records)
    (settled : WhereTold (told new.disk) (λ now. IsSettled now bodies)) where
  pub same : bodies ≡ kept.records
  same = all_same every_message leaves bodies kept.records read

  opened_settled : WhereTold (told new.disk) (λ now. IsSettled now kept.records)
  opened_settled = subst (λ (l : List (List ℕ)). WhereTold (told new.disk) (λ now. IsSettled now l)) same settled

  pub opened_sound : {old : JournalState D} {key : List ℕ} (others : ℕ) → kept.leaves ≡ leaves
      → leaves ≡ leaves_of key → others + length kept.records ≡ kept.leaves + 1
      → new ≡ with_spare others 132 new.disk old → old ≡ fresh_journal old.disk bodies
      → IsSound (told new.disk) new key kept
  opened_sound {old = old} others count of_key room is fresh =
      let are : leaf_records kept.leaves kept.records ≡ Ok kept.records =
      ap (λ (n : ℕ). leaf_records n kept.records) count ∙ ap (leaf_records leaves) (sym same) ∙ read in
      let gate : new.gate ≡ length (spelled bodies) = grind (arith, common_steps) steps 20000 in
      let bodies_is : new.spare_bodies ≡ max others old.spare_bodies = grind (arith, common_steps) steps 20000 in
      let bytes_is : new.spare_bytes ≡ max 132 old.spare_bytes = ap (λ (j : JournalState D). j.spare_bytes) is in
      record {
        count = count ∙ of_key;
        are = are;
        stay = λ history some. settled_stays (are_leaf_records kept.leaves) kept.records
            (are_ok kept.leaves kept.records are) history (opened_settled history some);
        settled = λ still. opened_settled;
        gate = λ still. gate ∙ ap (λ (l : List (List ℕ)). length (spelled l)) same;
        bodies = λ still. omega (arith, bodies_is, room);
        bytes = λ still. omega (arith, bytes_is);
      }
