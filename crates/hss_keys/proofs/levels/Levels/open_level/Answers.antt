use Rattle.hss_keys.proofs.Words.{◌≡◌, ◌+◌, true, Some, sym, ◌∙◌, ap, subst, arith, leaf_count, JournalState, Did, stopped_by, entries_of, entry_text, entry_may_follow, LevelsState, IsSound, notes_over}
use Rattle.hss_keys.proofs.Adding.{did_reserved, kept_reserved, kept_same, reserved_room}
use Rattle.hss_keys.proofs.Sounding.{level_sound, same_sound}
use Rattle.hss_keys.proofs.levels.Levels.open_level.Goals as goal

pub invariant_of-self : goal.invariant_of-self
invariant_of-self g c =
    let level = c.reserve_level.ensures in
    same_sound c.self.invariant level.seed level.records level.kept

pub invariant_of-self-in_err-reserve : goal.invariant_of-self-in_err-reserve
invariant_of-self-in_err-reserve g c =
    let told = g.D.Disk.told in
    let level = c.reserve_level.ensures in
    subst (λ (j : JournalState _). IsSound (told j.disk) j c.self.inside.key c.reserve_level.new.self)
    (sym c.in_err-reserve.ensures.err)
    (same_sound c.self.invariant level.seed level.records level.kept)

pub append-requires-clause-open : goal.append-requires-clause-open
append-requires-clause-open g c =
    ap (λ (j : JournalState _). j.closed) c.in_ok-reserve.ensures.room
    ∙ ap (λ (s : LevelsState _). s.notes.closed) c.self.view_is ∙ c.requires.open

pub append-requires-clause-kept : goal.append-requires-clause-kept
append-requires-clause-kept g c =
    let told = g.D.Disk.told in
    let level = c.reserve_level.ensures in
    kept_reserved told {journal = c.self.inside.journal} {new = c.reserve.new.self} (1 + c.from.result)
    (kept_same c.self.invariant.is_kept level.seed level.records) c.in_ok-reserve.ensures.room
    c.reserve.ensures.still.same_calls

pub append-requires-clause-room : goal.append-requires-clause-room
append-requires-clause-room g c =
    reserved_room c.self.inside.journal c.reserve.new.self.disk (1 + c.from.result) 1 c.in_ok-reserve.ensures.room
    (omega arith) (omega (arith, c.in_ok-reserve_level.ensures.room))

pub append-requires-clause-follows : goal.append-requires-clause-follows
append-requires-clause-follows g c =
    let level = c.reserve_level.ensures in
    let follows = subst (λ (s : LevelsState _). entry_may_follow s.seed (entries_of s.notes.records) c.args.entry.now ≡ true)
    (sym c.self.view_is) c.requires.follows in
    rw (level.seed, level.records) follows

pub invariant_of-self-2 : goal.invariant_of-self-2
invariant_of-self-2 g c =
    let level = c.reserve_level.ensures in
    let append = c.append.ensures in
    let count : c.from.result ≡ leaf_count c.self.inside.records.seed.bottom =
    c.from.ensures ∙ c.bottom_leaves-leaves.ensures.value in
    level_sound g.D.Disk.told c.reserve_level.new.self c.append.result (1 + c.from.result) c.self.invariant level.seed
    c.in_ok-reserve_level.ensures.room c.in_ok-reserve.ensures.room (omega (arith, count)) append.kept append.closed
    append.seed append.spare append.bodies append.bytes

pub returns-clause-did : goal.returns-clause-did
returns-clause-did g c =
    let d = g.D.Disk in
    let append = c.append.ensures in
    subst (λ (s : LevelsState _). Did d.told d.plan d.faults (Some (entry_text c.args.entry.now)) s.notes
    (stopped_by c.append.result)
    (record {
      disk = c.append.new.journal.disk;
      closed = c.append.new.journal.closed;
      records = c.append.new.records.records;
    })) c.self.view_is
    (did_reserved d.told d.plan d.faults _ (notes_over c.self.inside.journal c.self.inside.records.records) _ _ _
    append.fault c.reserve.ensures.still (ap (λ (j : JournalState _). j.closed) c.in_ok-reserve.ensures.room)
    c.reserve_level.ensures.records append.did)
