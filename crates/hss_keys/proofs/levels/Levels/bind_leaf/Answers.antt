use Rattle.hss_keys.proofs.Words.{◌≡◌, true, false, ℕ, List, Some, sym, ◌∙◌, ap, subst, arith, Did, stopped_by, Binds, entries_of, entry_text, IsEntry, entry_may_follow, LevelsState}
use Rattle.hss_keys.proofs.Sounding.{message_sound, one_room}
use Rattle.hss_keys.proofs.levels.Levels.bind_leaf.Goals as goal

pub append-requires-clause-room : goal.append-requires-clause-room
append-requires-clause-room g c =
    let inside = c.self.inside in
    let open' : inside.journal.closed ≡ false = ap (λ (s : LevelsState _). s.notes.closed) c.self.view_is
    ∙ c.requires.open in
    let follows = subst (λ (s : LevelsState _). entry_may_follow s.seed (entries_of s.notes.records)
    (Binds c.args.top_leaf c.args.leaf c.args.message.now) ≡ true) (sym c.self.view_is) c.requires.follows in
    one_room c.self.invariant open' c.args.top_leaf c.args.leaf c.args.message.now follows

pub append-requires-clause-follows : goal.append-requires-clause-follows
append-requires-clause-follows g c =
    let follows = subst (λ (s : LevelsState _). entry_may_follow s.seed (entries_of s.notes.records)
    (Binds c.args.top_leaf c.args.leaf c.args.message.now) ≡ true) (sym c.self.view_is) c.requires.follows in
    subst (λ (m : List ℕ). entry_may_follow c.self.inside.records.seed (entries_of c.self.inside.records.records)
    (Binds c.args.top_leaf c.args.leaf m) ≡ true) (sym c.of.ensures) follows

pub invariant_of-self : goal.invariant_of-self
invariant_of-self g c =
    let inside = c.self.inside in
    let open' : inside.journal.closed ≡ false = ap (λ (s : LevelsState _). s.notes.closed) c.self.view_is
    ∙ c.requires.open in
    let follows = subst (λ (s : LevelsState _). entry_may_follow s.seed (entries_of s.notes.records)
    (Binds c.args.top_leaf c.args.leaf c.args.message.now) ≡ true) (sym c.self.view_is) c.requires.follows in
    let entry : IsEntry (Binds c.args.top_leaf c.args.leaf c.args.message.now) =
    (omega arith, omega arith, c.requires.some, c.requires.most) in
    let append = rw c.of.ensures at c.append.ensures in
    message_sound g.D.Disk.told c.append.result c.args.top_leaf c.args.leaf c.args.message.now entry c.self.invariant
    open' follows append.kept append.closed append.seed append.records append.spare append.bodies append.bytes

pub returns-clause-did : goal.returns-clause-did
returns-clause-did g c =
    let d = g.D.Disk in
    let append = rw c.of.ensures at c.append.ensures in
    subst (λ (s : LevelsState _). Did d.told d.plan d.faults
    (Some (entry_text (Binds c.args.top_leaf c.args.leaf c.args.message.now))) s.notes (stopped_by c.append.result)
    (record {
      disk = c.append.new.journal.disk;
      closed = c.append.new.journal.closed;
      records = c.append.new.records.records;
    })) c.self.view_is append.did
