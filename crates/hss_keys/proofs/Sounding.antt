-- What holds of a two-level signer after a reservation and after an append.
use Rattle.hss_keys.proofs.Words.{◌≡◌, ◌≤◌, ◌+◌, ℕ, true, false, List, [], ◌∷◌, ◌++◌, Option, Result, Ok, Err, refl, sym, ◌∙◌, ap, arith, OnErr, OnOk, common_steps, History, JournalState, with_spare, Stop, leaf_count, Binds, hss_key_of, entries_of, entry_text, IsEntry, entry_may_follow, leaves_left, LevelRecordsState, HasRoom, IsKept, IsSound}
use Rattle.hss_keys.proofs.Spelling.{entries_are_read_back}
use Rattle.hss_keys.proofs.Counts.{entries-more, has-next, left-one, next_leaf}
use Rattle.hss_keys.proofs.Adding.{kept_same, level_room, message_room, reserved_room}

-- the same records, with more room
pub same_sound : {D : Type 0} {told : Option History} {journal : JournalState D} {key : List ℕ}
    {kept more : LevelRecordsState} → IsSound told journal key kept → more.seed ≡ kept.seed
    → more.records ≡ kept.records → kept.spare ≤ more.spare → IsSound told journal key more
same_sound {kept = kept} {more = more} sound same is spare =
    let left : leaves_left more.seed (entries_of more.records) ≡ leaves_left kept.seed (entries_of kept.records) =
    (λ i. leaves_left (same i) (entries_of (is i))) in
    record {
      key_is = sound.key_is ∙ ap hss_key_of (sym same);
      is_kept = kept_same sound.is_kept same is;
      room = λ open'.
          let room = sound.room open' in
          record {
            spare = omega (arith, room.spare, left, spare);
            bodies = omega (arith, room.bodies, left);
            bytes = λ some. room.bytes (omega (arith, some, left));
          };
    }

-- room for one
pub one_room : {D : Type 0} {told : Option History} {journal : JournalState D} {key : List ℕ} {kept : LevelRecordsState}
    → IsSound told journal key kept → journal.closed ≡ false → (j q : ℕ) (message : List ℕ)
    → entry_may_follow kept.seed (entries_of kept.records) (Binds j q message) ≡ true → HasRoom journal kept 1
one_room {kept = kept} sound open' j q message may =
    let entries = entries_of kept.records in
    let next = next_leaf kept.seed entries j q message may in
    let one = left-one kept.seed entries (has-next kept.seed entries j q next) in
    let room = sound.room open' in
    record {
      spare = omega (arith, room.spare, one);
      bodies = omega (arith, room.bodies, one);
      bytes = λ some. room.bytes (omega (arith, one));
    }

-- the entries behind an append
on_ok : {A B : Type 0} (r : Result Unit Stop) → (A → B) → OnOk r A → OnOk r B
on_ok (Ok done) f a = f a
on_ok (Err stop) f a = a

-- an append of a message
pub message_sound : {D : Type 0} (told : D → Option History) {journal new : JournalState D} {key : List ℕ}
    {kept more : LevelRecordsState} (r : Result Unit Stop) (j q : ℕ) (message : List ℕ)
    → IsEntry (Binds j q message) → IsSound (told journal.disk) journal key kept → journal.closed ≡ false
    → entry_may_follow kept.seed (entries_of kept.records) (Binds j q message) ≡ true
    → IsKept (told new.disk) new more → OnErr r (new.closed ≡ true) → more.seed ≡ kept.seed
    → OnOk r (more.records ≡ kept.records ++ entry_text (Binds j q message) ∷ [])
    → OnOk r (kept.spare ≤ more.spare + 1) → OnOk r (journal.spare_bodies ≤ new.spare_bodies + 1)
    → OnOk r (journal.spare_bytes ≤ new.spare_bytes) → IsSound (told new.disk) new key more
message_sound told {journal = journal} {new = new} {kept = kept} {more = more} r j q message is_entry sound open' may
    is_kept closed same is spare bodies bytes =
    let entries = entries_of kept.records in
    let next = next_leaf kept.seed entries j q message may in
    let entry = Binds j q message in
    let read = entries_are_read_back entry is_entry in
    record {
      key_is = sound.key_is ∙ ap hss_key_of (sym same);
      is_kept = is_kept;
      room = λ still. message_room {journal = journal} {new = new} {kept = kept} {more = more} r closed same spare
          bodies bytes entries j q message refl next
          (grind (arith, common_steps, on_ok, entries-more) steps 20000)
          (sound.room open') still;
    }

-- an append of a bottom key, behind a reservation
pub level_sound : {D : Type 0} (told : D → Option History) {journal mid new : JournalState D} {key : List ℕ}
    {kept more : LevelRecordsState} (between : LevelRecordsState) (r : Result Unit Stop) (count : ℕ)
    → IsSound (told journal.disk) journal key kept → between.seed ≡ kept.seed
    → 1 + leaf_count kept.seed.bottom ≤ between.spare → mid ≡ with_spare count 137 mid.disk journal
    → 1 + leaf_count kept.seed.bottom ≤ count
    → IsKept (told new.disk) new more → OnErr r (new.closed ≡ true) → more.seed ≡ between.seed
    → OnOk r (between.spare ≤ more.spare + 1) → OnOk r (mid.spare_bodies ≤ new.spare_bodies + 1)
    → OnOk r (mid.spare_bytes ≤ new.spare_bytes) → IsSound (told new.disk) new key more
level_sound told {journal = journal} {mid = mid} {new = new} {kept = kept} {more = more} between r count sound was
    spare_is reserved enough is_kept closed same spare bodies bytes =
    grind (arith, common_steps, level_room, reserved_room) steps 20000
