use Rattle.leaf_journal.proofs.Words.{◌≡◌, true, false, ℕ, [], ◌∷◌, ◌++◌, refl, sym, ◌∙◌, ap, subst, Added, AddFailed, notes_over, goes_through, meets_fault, moments, settled_now, went, met, may_follow, LeavesState, leaves_of, LeafRecordsState}
use Rattle.plasma_base.specs.Causes.{faults_after}
use Rattle.leaf_journal.proofs.Adding.{ready_from, fits, spare, fault_sound, append_sound}
use Rattle.leaf_journal.proofs.leaves.Leaves.add.Goals as goal

pub invariant_of-self : goal.invariant_of-self
invariant_of-self g c =
    let told = g.D.Disk.told in
    let plan = g.D.Disk.plan in
    let inside = c.self.inside in
    let sound = c.self.invariant in
    let new = c.append.new.self in
    let open' : inside.journal.closed ≡ false = ap (λ (s : LeavesState _). s.notes.closed) c.self.view_is
    ∙ c.requires.open in
    let follows : may_follow inside.records.leaves inside.records.records c.args.body ≡ true =
    ap (λ (n : ℕ). may_follow n inside.records.records c.args.body) sound.count
    ∙ ap (λ (s : LeavesState _). may_follow (leaves_of s.key) s.notes.records c.args.body) c.self.view_is
    ∙ c.requires.follows in
    let ready = ready_from sound open' c.args.body follows in
    let append = rw c.as_slice.ensures.value at c.append.ensures in
    let failed = meets_fault told plan open' (fits ready) (spare ready) c.append.result new append.appends
    (sym c.is_err.ensures.value ∙ c.if-is_err.true) in
    fault_sound told sound ready failed.1 (moments told plan g.D.Disk.faults c.args.body inside.journal new
    inside.records.records sound.gate sound.settled append.any_moment open')

pub returns-then-is_err-clause-failed : goal.returns-then-is_err-clause-failed
returns-then-is_err-clause-failed g c =
    let told = g.D.Disk.told in
    let plan = g.D.Disk.plan in
    let inside = c.self.inside in
    let sound = c.self.invariant in
    let new = c.append.new.self in
    let open' : inside.journal.closed ≡ false = ap (λ (s : LeavesState _). s.notes.closed) c.self.view_is
    ∙ c.requires.open in
    let follows : may_follow inside.records.leaves inside.records.records c.args.body ≡ true =
    ap (λ (n : ℕ). may_follow n inside.records.records c.args.body) sound.count
    ∙ ap (λ (s : LeavesState _). may_follow (leaves_of s.key) s.notes.records c.args.body) c.self.view_is
    ∙ c.requires.follows in
    let ready = ready_from sound open' c.args.body follows in
    let append = rw c.as_slice.ensures.value at c.append.ensures in
    let failed = meets_fault told plan open' (fits ready) (spare ready) c.append.result new append.appends
    (sym c.is_err.ensures.value ∙ c.if-is_err.true) in
    subst (λ (s : LeavesState _). AddFailed told plan g.D.Disk.faults c.args.body s.notes
    (notes_over new inside.records.records)) c.self.view_is
    (met told plan g.D.Disk.faults c.args.body inside.journal new inside.records.records sound.gate sound.settled
    append.any_moment failed.1
    (append.cause ∙ ap (λ b. faults_after (g.D.Disk.faults inside.journal.disk) b) failed.0))

pub invariant_of-self-2 : goal.invariant_of-self-2
invariant_of-self-2 g c =
    let told = g.D.Disk.told in
    let plan = g.D.Disk.plan in
    let inside = c.self.inside in
    let sound = c.self.invariant in
    let new = c.append.new.self in
    let open' : inside.journal.closed ≡ false = ap (λ (s : LeavesState _). s.notes.closed) c.self.view_is
    ∙ c.requires.open in
    let follows : may_follow inside.records.leaves inside.records.records c.args.body ≡ true =
    ap (λ (n : ℕ). may_follow n inside.records.records c.args.body) sound.count
    ∙ ap (λ (s : LeavesState _). may_follow (leaves_of s.key) s.notes.records c.args.body) c.self.view_is
    ∙ c.requires.follows in
    let ready = ready_from sound open' c.args.body follows in
    let append = rw c.as_slice.ensures.value at c.append.ensures in
    let through = goes_through told plan open' (fits ready) (spare ready) c.append.result new append.appends
    (sym c.is_err.ensures.value ∙ c.if-is_err.false) in
    append_sound told sound ready through.1 c.push.ensures
    (settled_now told plan g.D.Disk.faults c.args.body inside.journal new inside.records.records sound.gate
    sound.settled append.any_moment through.1 (rw through.0 at append.kept) refl)

pub returns-clause-added : goal.returns-clause-added
returns-clause-added g c =
    let told = g.D.Disk.told in
    let plan = g.D.Disk.plan in
    let inside = c.self.inside in
    let sound = c.self.invariant in
    let new = c.append.new.self in
    let open' : inside.journal.closed ≡ false = ap (λ (s : LeavesState _). s.notes.closed) c.self.view_is
    ∙ c.requires.open in
    let follows : may_follow inside.records.leaves inside.records.records c.args.body ≡ true =
    ap (λ (n : ℕ). may_follow n inside.records.records c.args.body) sound.count
    ∙ ap (λ (s : LeavesState _). may_follow (leaves_of s.key) s.notes.records c.args.body) c.self.view_is
    ∙ c.requires.follows in
    let ready = ready_from sound open' c.args.body follows in
    let append = rw c.as_slice.ensures.value at c.append.ensures in
    let through = goes_through told plan open' (fits ready) (spare ready) c.append.result new append.appends
    (sym c.is_err.ensures.value ∙ c.if-is_err.false) in
    let grown : c.push.new.self.records ≡ inside.records.records ++ c.args.body ∷ [] =
    ap (λ (k : LeafRecordsState). k.records) c.push.ensures in
    subst (λ (s : LeavesState _). Added told plan g.D.Disk.faults c.args.body s.notes
    (notes_over new c.push.new.self.records)) c.self.view_is
    (went told plan g.D.Disk.faults c.args.body inside.journal new inside.records.records sound.gate sound.settled
    append.any_moment through.1 (rw through.0 at append.kept) grown (rw through.0 at append.cause))
