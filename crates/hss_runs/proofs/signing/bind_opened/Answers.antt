use Rattle.std.proofs.Common.{List, Option, None, Some, Result, Err, ℕ, refl, sym, ◌∙◌, ap, subst}
use Rattle.node_journal.specs.Notes.{Did}
use Rattle.node_journal.specs.declared.stop.Stop.{Stop}
use Rattle.hss_keys.specs.declared.refusal.LevelRefusal.{LevelRefusal}
use Rattle.hss_keys.specs.Entries.{entries_of}
use Rattle.hss_keys.specs.Levels.{bind_effect, bound_of, HssBoundState}
use Rattle.hss_runs.proofs.Leaves.{of-last}
use Rattle.hss_runs.proofs.Calls.{bind-answer, bind-note, fault-is, signable-parts, stop-is}
use Rattle.hss_runs.proofs.signing.bind_opened.Goals as goal

pub bind-requires-clause-some : goal.bind-requires-clause-some
bind-requires-clause-some g c = (signable-parts c.args.message.now c.requires.signable).0

pub bind-requires-clause-most : goal.bind-requires-clause-most
bind-requires-clause-most g c = (signable-parts c.args.message.now c.requires.signable).1

pub returns-in-Ok-clause-bound : goal.returns-in-Ok-clause-bound
returns-in-Ok-clause-bound g c =
    let old = c.args.levels.now in
    let is = of-last old.seed (entries_of old.notes.records) c.args.next c.requires.next c.requires.opened in
    let same = c.in-Ok.ensures.answer refl ∙ bind-answer old.seed old.notes.records c.args.next c.args.message.now is in
    cc (same)

pub returns-in-Ok-clause-did : goal.returns-in-Ok-clause-did
returns-in-Ok-clause-did g c =
    let d = g.D.Disk in
    let old = c.args.levels.now in
    let is = of-last old.seed (entries_of old.notes.records) c.args.next c.requires.next c.requires.opened in
    subst (λ (n : Option (List ℕ)). Did d.told d.plan d.faults n old.notes None c.bind.new.self.notes)
    (bind-note old.seed old.notes.records c.args.next c.args.message.now is) c.in-Ok.ensures.did

pub returns-in-Err-clause-did : goal.returns-in-Err-clause-did
returns-in-Err-clause-did g c =
    let d = g.D.Disk in
    let old = c.args.levels.now in
    let new = c.bind.new.self in
    let message = c.args.message.now in
    let is = of-last old.seed (entries_of old.notes.records) c.args.next c.requires.next c.requires.opened in
    let stop = stop-is {T = HssBoundState} c.in-Err.why (bind_effect old.seed old.notes.records message).answer
    (bound_of old.seed c.args.next.top_leaf c.args.next.leaf message)
    (bind-answer old.seed old.notes.records c.args.next message is) c.in-Err.ensures.answer
    ∙ ap (λ (s : Stop). Some s) (sym c.stop_of.ensures) in
    subst (λ (n : Option (List ℕ)). Did d.told d.plan d.faults n old.notes (Some c.stop_of.result) new.notes)
    (bind-note old.seed old.notes.records c.args.next message is)
    (subst (λ (s : Option Stop). Did d.told d.plan d.faults (bind_effect old.seed old.notes.records message).note
    old.notes s new.notes) stop c.in-Err.ensures.did)

pub returns-in-Err-clause-fault : goal.returns-in-Err-clause-fault
returns-in-Err-clause-fault g c =
    let d = g.D.Disk in
    let old = c.args.levels.now in
    let message = c.args.message.now in
    let is = of-last old.seed (entries_of old.notes.records) c.args.next c.requires.next c.requires.opened in
    let err : LevelRefusal → Result HssBoundState LevelRefusal = λ why. Err why in
    c.stop_of.ensures
    ∙ fault-is {T = HssBoundState} d.told d.plan d.faults (bind_effect old.seed old.notes.records message).note
    old.notes c.bind.new.self.notes c.in-Err.why (bind_effect old.seed old.notes.records message).answer
    (bound_of old.seed c.args.next.top_leaf c.args.next.leaf message)
    (bind-answer old.seed old.notes.records c.args.next message is) c.in-Err.ensures.answer c.requires.open
    (λ starved. c.in-Err.ensures.no_memory (ap err starved)) c.in-Err.ensures.did
