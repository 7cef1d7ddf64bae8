use Rattle.node_journal.proofs.Words.{rules, ◌≡◌, true, false, Some, List, ℕ, [], ◌∷◌, ◌++◌, ◌≤◌, length, sym, ◌∙◌, ap, subst, most, may_follow, NotesState, NotesAndRole, Added, Did, stop_of}
use Rattle.node_journal.specs.declared.stop.Stop.{Stop}
use Rattle.node_journal.proofs.Adding.{note_went, sound_more, stopped}
use Rattle.node_journal.proofs.Keeping.{notes_over}
use Rattle.node_journal.proofs.notes.Notes.add.Goals as goal

pub invariant_of-self-in-Ok : goal.invariant_of-self-in-Ok
invariant_of-self-in-Ok g c =
    let inside = c.self.inside in
    let d = g.D.Disk in
    let kinds = g.R.Role.kinds inside.role in
    let body = c.as_slice.result.now in
    let pushed : c.push.new.self.items ≡ inside.records.items ++ c.args.body ∷ [] = search
    (rules, c.unwrap.ensures, c.push.ensures.items, c.reserve.ensures.items) in
    let same : c.push.new.self.items ≡ inside.records.items ++ body ∷ [] = pushed
    ∙ ap (λ (b : List ℕ). inside.records.items ++ b ∷ []) (sym c.as_slice.ensures) in
    let may : may_follow kinds inside.records.items body ≡ true =
    ap (may_follow kinds inside.records.items) c.as_slice.ensures
    ∙ ap (λ (s : NotesAndRole _ _). may_follow (g.R.Role.kinds s.role) s.notes.records c.args.body) c.self.view_is
    ∙ c.requires.kind in
    sound_more kinds d.told d.plan d.faults body inside.journal c.append.new.self inside.records.items
    c.self.invariant c.append.ensures.any_moment
    c.in-Ok.ensures.appends c.in-Ok.ensures.kept c.push.new.self.items same may

pub returns-in-Ok-clause-did : goal.returns-in-Ok-clause-did
returns-in-Ok-clause-did g c =
    let inside = c.self.inside in
    let d = g.D.Disk in
    let kinds = g.R.Role.kinds inside.role in
    let body = c.as_slice.result.now in
    let now = notes_over c.append.new.self c.push.new.self.items in
    let pushed : c.push.new.self.items ≡ inside.records.items ++ c.args.body ∷ [] = search
    (rules, c.unwrap.ensures, c.push.ensures.items, c.reserve.ensures.items) in
    let same : c.push.new.self.items ≡ inside.records.items ++ body ∷ [] = pushed
    ∙ ap (λ (b : List ℕ). inside.records.items ++ b ∷ []) (sym c.as_slice.ensures) in
    let added = note_went kinds d.told d.plan d.faults body inside.journal c.append.new.self inside.records.items
    c.self.invariant c.append.ensures.any_moment
    c.in-Ok.ensures.appends c.in-Ok.ensures.kept c.push.new.self.items same c.in-Ok.ensures.cause in
    subst (λ (s : NotesState _). Added d.told d.plan d.faults c.args.body s now)
    (ap (λ (s : NotesAndRole _ _). s.notes) c.self.view_is)
    (subst (λ (b : List ℕ). Added d.told d.plan d.faults b
    (notes_over inside.journal inside.records.items) now) c.as_slice.ensures added)

pub returns-in-Err-clause-did : goal.returns-in-Err-clause-did
returns-in-Err-clause-did g c =
    let inside = c.self.inside in
    let d = g.D.Disk in
    let body = c.as_slice.result.now in
    let why = c.in-Err.why in
    let was_open : inside.journal.closed ≡ false = sym c.is_closed.ensures ∙ c.if-is_closed.false in
    let fits = subst (λ (b : List ℕ). length b ≤ most) (sym c.as_slice.ensures) c.requires.fits in
    let old = notes_over inside.journal inside.records.items in
    let here = stopped (g.R.Role.kinds inside.role) d.told d.plan d.faults body inside.journal c.append.new.self
    inside.records.items c.self.invariant c.append.ensures.any_moment
    why was_open fits c.in-Err.ensures.appends c.in-Err.ensures.cause in
    let of_body = subst (λ (b : List ℕ). Did d.told d.plan d.faults (Some b) old (Some (stop_of why))
    (notes_over c.append.new.self inside.records.items)) c.as_slice.ensures here in
    let of_stop = subst (λ (s : Stop). Did d.told d.plan d.faults (Some c.args.body) old (Some s)
    (notes_over c.append.new.self inside.records.items)) (sym c.stop_of.ensures) of_body in
    let of_items = subst (λ (rs : List (List ℕ)). Did d.told d.plan d.faults (Some c.args.body) old
    (Some c.stop_of.result) (notes_over c.append.new.self rs)) (sym c.reserve.ensures.items) of_stop in
    subst (λ (s : NotesState _). Did d.told d.plan d.faults (Some c.args.body) s (Some c.stop_of.result)
    (notes_over c.append.new.self c.reserve.new.self.items))
    (ap (λ (s : NotesAndRole _ _). s.notes) c.self.view_is) of_items
