-- What an append and an opening tell of a two-level signer's records.
use Rattle.hss_keys.proofs.Words.{◌≡◌, ◌≤◌, ◌+◌, ◌-◌, ℕ, true, false, List, [], ◌∷◌, ◌++◌, length, Option, Some, Result, Ok, Err, sym, ◌∙◌, ap, subst, arith, is_ok, IfErr, OnErr, OnOk, lt-ltb, le-leb, common_steps, faults_after, History, FaultPlan, WhereTold, IsStill, passed, most, spelled, JournalState, IsSettled, fresh_journal, with_spare, has_spare, Appended, AppendFailed, NotesState, KeepsAtAnyMoment, stopped_by, Added, AddFailed, Did, Stay, Stop, StopClosed, StopNoMemory, StopFault, moments_stay, settled_stays, leaf_count, HssSeed, Entry, Binds, entries_of, are_level_records, level_records, may_follow, leaves_left, LevelRecordsState, IsKept, HasRoom}
use Rattle.crash_disk.proofs.Calls.{made_from}
use Rattle.hss_keys.proofs.Counts.{left-less, left-most, IsNextLeaf}
use Rattle.hss_keys.proofs.Form.{all_same, one_more, spelled-count}

are_ok : (seed : HssSeed) (records : List (List ℕ)) → level_records seed records ≡ Ok records
    → are_level_records seed records ≡ true
are_ok seed records are = ap is_ok are

-- over an open journal with room for a record that may follow
module _ {D : Type 0} (told : D → Option History) {journal : JournalState D} {kept : LevelRecordsState} (body : List ℕ)
    (open' : journal.closed ≡ false) (is_kept : IsKept (told journal.disk) journal kept) (room : HasRoom journal kept 1)
    (follows : may_follow kept.seed kept.records body ≡ true) (short : length body ≤ 137)
  where
    more_are : level_records kept.seed (kept.records ++ body ∷ []) ≡ Ok (kept.records ++ body ∷ [])
    more_are = one_more kept.seed kept.records body is_kept.are follows

    pub spare : has_spare journal (length body) ≡ true
    spare = grind (arith, common_steps, lt-ltb, le-leb) steps 20000

    pub fits : length body ≤ most
    fits = omega (arith, short)

    pub fault_kept : {plan : D → Option FaultPlan} {new : JournalState D}
        → AppendFailed told plan body journal new
        → KeepsAtAnyMoment kept.records body (told journal.disk) (told new.disk) → IsKept (told new.disk) new kept
    fault_kept {new = new} failed any =
        let shut : new.closed ≡ false → ⊥ = λ still. absurd (let is = failed.is_closed in cc (is, still)) in
        record {
          are = is_kept.are;
          stay = moments_stay (are_level_records kept.seed) kept.records (are_ok kept.seed kept.records is_kept.are)
              body (are_ok kept.seed (kept.records ++ body ∷ []) more_are) failed.made any;
          settled = λ still. absurd (shut still);
          gate = λ still. absurd (shut still);
        }

    pub append_kept : {plan : D → Option FaultPlan} {new : JournalState D} {more : LevelRecordsState}
        → Appended told plan body journal new
        → more.seed ≡ kept.seed → more.records ≡ kept.records ++ body ∷ []
        → WhereTold (told new.disk) (λ now. IsSettled now more.records)
        → IsKept (told new.disk) new more
    append_kept {new = new} {more = more} appended same is settled =
        let gate : new.gate ≡ journal.gate + (5 + length body) = grind (arith, common_steps) steps 20000 in
        let are : level_records more.seed more.records ≡ Ok more.records = rw (same, is) more_are in
        record {
          are = are;
          stay = λ history some. settled_stays (are_level_records more.seed) more.records
              (are_ok more.seed more.records are) history (settled history some);
          settled = λ still. settled;
          gate = grind (arith, common_steps, spelled-count) steps 20000;
        }

    -- the room after it
    pub bodies-left : {plan : D → Option FaultPlan} {new : JournalState D}
        → Appended told plan body journal new
        → journal.spare_bodies ≤ new.spare_bodies + 1
    bodies-left {new = new} appended = grind (arith, common_steps, spare) steps 20000

    pub bytes-left : {plan : D → Option FaultPlan} {new : JournalState D}
        → Appended told plan body journal new
        → journal.spare_bytes ≤ new.spare_bytes
    bytes-left {new = new} appended = grind (arith, common_steps) steps 20000

-- the notes as they were before, on the disk as it was then
abbrev pub begun : {D : Type 0} → D → NotesState D → NotesState D
begun first old = record { disk = first; closed = old.closed; records = old.records }

-- from a disk that is still the same
module _ {D : Type 0} (told : D → Option History) (plan : D → Option FaultPlan) (faults : D → ℕ) {body : List
    ℕ} {first : D} {old new : NotesState D} (still : IsStill told plan faults first old.disk)
  where
    pub added_from : Added told plan faults body old new → Added told plan faults body (begun first old) new
    added_from did = record {
      was_open = did.was_open;
      fits = did.fits;
      made = made_from told plan still did.made;
      any_moment = λ before is. did.any_moment before (still.same_calls ∙ is);
      count = did.count ∙ still.same_count;
      is_open = did.is_open;
      records = did.records;
      settled = did.settled;
    }

    pub failed_from : AddFailed told plan faults body old new → AddFailed told plan faults body (begun first old) new
    failed_from did = record {
      was_open = did.was_open;
      fits = did.fits;
      passed = did.passed;
      made = made_from told plan still did.made;
      any_moment = λ before is. did.any_moment before (still.same_calls ∙ is);
      count = did.count ∙ ap (λ n. faults_after n true) still.same_count;
      is_closed = did.is_closed;
      records = did.records;
    }

-- records that were just opened over these bodies, with room for what is left
module _ {D : Type 0} (told : D → Option History) (new : JournalState D) (kept : LevelRecordsState)
    (bodies : List (List ℕ)) (read : level_records kept.seed bodies ≡ Ok kept.records)
    (settled : WhereTold (told new.disk) (λ now. IsSettled now bodies))
  where
    same : bodies ≡ kept.records
    same = all_same kept.seed bodies kept.records read

    pub opened_settled : WhereTold (told new.disk) (λ now. IsSettled now kept.records)
    opened_settled = subst (λ (l : List (List ℕ)). WhereTold (told new.disk) (λ now. IsSettled now l)) same settled

    pub opened_kept : {old : JournalState D} (more : ℕ) → new ≡ with_spare more 137 new.disk old
        → old ≡ fresh_journal old.disk bodies → IsKept (told new.disk) new kept
    opened_kept {old = old} more is fresh =
        let are : level_records kept.seed kept.records ≡ Ok kept.records =
        ap (level_records kept.seed) (sym same) ∙ read in
        let gate : new.gate ≡ length (spelled bodies) = grind (arith, common_steps) steps 20000 in
        record {
          are = are;
          stay = λ history some. settled_stays (are_level_records kept.seed) kept.records
              (are_ok kept.seed kept.records are) history (opened_settled history some);
          settled = λ still. opened_settled;
          gate = λ still. gate ∙ ap (λ (l : List (List ℕ)). length (spelled l)) same;
        }

-- there is room after a reservation
pub reserved_room : {D : Type 0} (journal : JournalState D) {new : JournalState D} {kept : LevelRecordsState}
    (disk : D) (more least : ℕ) → new ≡ with_spare more 137 disk journal → least ≤ more → least ≤ kept.spare
    → HasRoom new kept least
reserved_room {D = D} journal {new = new} disk more least is fewer enough =
    grind (arith, common_steps, spare) steps 20000

-- ---- what a reservation leaves

-- the same records, with other room
pub kept_same : {D : Type 0} {told : Option History} {journal : JournalState D} {kept more : LevelRecordsState}
    → IsKept told journal kept → more.seed ≡ kept.seed → more.records ≡ kept.records → IsKept told journal more
kept_same {told = told} {journal = journal} {kept = kept} {more = more} is_kept same is =
    let path : (seed : HssSeed) (records : List (List ℕ)) → more.seed ≡ seed → more.records ≡ records
    → level_records seed records ≡ Ok records → WhereTold told (Stay (are_level_records seed) records)
    → (journal.closed ≡ false → WhereTold told (λ history. IsSettled history records))
    → (journal.closed ≡ false → journal.gate ≡ length (spelled records)) → IsKept told journal more =
    λ seed records e f are stay settled gate. record {
      are = rw (e, f) are;
      stay = rw (e, f) stay;
      settled = rw f settled;
      gate = rw f gate;
    } in
    path kept.seed kept.records same is is_kept.are is_kept.stay is_kept.settled is_kept.gate

-- the same records in a journal with other room
pub kept_reserved : {D : Type 0} (told : D → Option History) {journal new : JournalState D} {kept : LevelRecordsState}
    (more : ℕ) → IsKept (told journal.disk) journal kept → new ≡ with_spare more 137 new.disk journal
    → told new.disk ≡ told journal.disk → IsKept (told new.disk) new kept
kept_reserved {D = D} told {journal = journal} {new = new} {kept = kept} more is_kept is told_same =
    let closed : new.closed ≡ journal.closed = ap (λ (j : JournalState D). j.closed) is in
    let gate : new.gate ≡ journal.gate = ap (λ (j : JournalState D). j.gate) is in
    record {
      are = is_kept.are;
      stay = subst (λ (t : Option History). WhereTold t (Stay (are_level_records kept.seed) kept.records))
          (sym told_same) is_kept.stay;
      settled = grind (arith, common_steps) steps 20000;
      gate = λ still. gate ∙ is_kept.gate (sym closed ∙ still);
    }

-- what an append did behind a reservation
pub did_reserved : {D : Type 0} (told : D → Option History) (plan : D → Option FaultPlan) (faults : D → ℕ)
    (body : List ℕ) (old mid new : NotesState D) (r : Result Unit Stop)
    → IfErr r (λ stop. stop ≡ StopFault) → IsStill told plan faults old.disk mid.disk → mid.closed ≡ old.closed
    → mid.records ≡ old.records → Did told plan faults (Some body) mid (stopped_by r) new
    → Did told plan faults (Some body) old (stopped_by r) new
did_reserved told plan faults body old mid new (Ok done) fault still closed is did =
    subst (λ (s : NotesState _). Added told plan faults body s new)
    (λ i. record { disk = old.disk; closed = closed i; records = is i })
    (added_from told plan faults {old = mid} still did)
did_reserved told plan faults body old mid new (Err StopFault) fault still closed is did =
    subst (λ (s : NotesState _). AddFailed told plan faults body s new)
    (λ i. record { disk = old.disk; closed = closed i; records = is i })
    (failed_from told plan faults {old = mid} still did)
did_reserved told plan faults body old mid new (Err StopClosed) fault still closed is did = absurd (cc fault)
did_reserved told plan faults body old mid new (Err StopNoMemory) fault still closed is did = absurd (cc fault)

-- room for fewer
fewer_room : {D : Type 0} {new : JournalState D} {more : LevelRecordsState} (least few : ℕ) → few ≤ least
    → HasRoom new more least → HasRoom new more few
fewer_room least few fewer room = grind (arith, common_steps, spare) steps 20000

-- the room behind an append: of a bottom key, and of a message
module _ {D : Type 0} {journal new : JournalState D} {kept more : LevelRecordsState} (r : Result Unit Stop)
    (closed : OnErr r (new.closed ≡ true)) (same : more.seed ≡ kept.seed)
    (spare : OnOk r (kept.spare ≤ more.spare + 1)) (bodies : OnOk r (journal.spare_bodies ≤ new.spare_bodies + 1))
    (bytes : OnOk r (journal.spare_bytes ≤ new.spare_bytes))
  where
    least_room : (least : ℕ) → HasRoom journal kept (least + 1) → new.closed ≡ false → HasRoom new more least
    least_room least room still = grind (arith, common_steps, spare) steps 20000

    pub level_room : HasRoom journal kept (1 + leaf_count kept.seed.bottom) → new.closed ≡ false
        → HasRoom new more (leaves_left more.seed (entries_of more.records))
    level_room room still = grind (arith, common_steps, same, fewer_room, left-most, least_room) steps 20000

    pub message_room : (entries : List Entry) (j q : ℕ) (message : List ℕ) → entries ≡ entries_of kept.records
        → IsNextLeaf kept.seed entries j q
        → OnOk r (entries_of more.records ≡ entries ++ Binds j q message ∷ [])
        → HasRoom journal kept (leaves_left kept.seed entries) → new.closed ≡ false
        → HasRoom new more (leaves_left more.seed (entries_of more.records))
    message_room entries j q message are next is room still = at r closed is
      where
        at : (s : Result Unit Stop) → OnErr s (new.closed ≡ true)
            → OnOk s (entries_of more.records ≡ entries ++ Binds j q message ∷ [])
            → HasRoom new more (leaves_left more.seed (entries_of more.records))
        at (Ok done) shut one_more' =
            let less = left-less kept.seed entries j q message next in
            let after : leaves_left more.seed (entries_of more.records)
            ≡ leaves_left kept.seed (entries ++ Binds j q message ∷ []) =
            (λ i. leaves_left (same i) (one_more' i)) in
            let one : leaves_left kept.seed entries ≡ (leaves_left kept.seed entries - 1) + 1 = omega (arith, less) in
            fewer_room (leaves_left kept.seed entries - 1) (leaves_left more.seed (entries_of more.records))
            (omega (arith, after, less))
            (least_room (leaves_left kept.seed entries - 1) (subst (HasRoom journal kept) one room) still)
        at (Err stop) shut none = absurd (cc (shut, still))
