use Rattle.std.proofs.Common.{◌≡◌, ℕ, false, List, [], ◌∷◌, ◌++◌, Option, None, Some, Ok, sym, ◌∙◌, ap, subst}
use Rattle.node_journal.specs.Notes.{Did}
use Rattle.node_journal.specs.declared.stop.Stop.{Stop}
use Rattle.hss_keys.specs.declared.entry.Entry.TheVariants.{Opens}
use Rattle.hss_keys.specs.Keys.{bottom_key}
use Rattle.hss_keys.specs.Entries.{entries_of, entry_text}
use Rattle.hss_keys.specs.Form.{level_records}
use Rattle.hss_keys.specs.Levels.{advance_effect}
use Rattle.hss_runs.specs.Signing.{next_leaf}
use Rattle.hss_runs.proofs.Leaves.{next-behind, of-new}
use Rattle.hss_runs.proofs.Calls.{advance-answer, advance-note, stop-is}
use Rattle.hss_runs.proofs.signing.open_next.Goals as goal

pub returns-in-Ok-clause-did : goal.returns-in-Ok-clause-did
returns-in-Ok-clause-did g c =
    let d = g.D.Disk in
    let old = c.args.levels.now in
    let is = of-new old.seed (entries_of old.notes.records) c.args.next c.requires.next c.requires.opens in
    subst (λ (n : Option (List ℕ)). Did d.told d.plan d.faults n old.notes None c.advance.new.self.notes)
    (advance-note old.seed old.notes.records c.args.next is) c.in-Ok.ensures.did

pub returns-in-Ok-clause-next : goal.returns-in-Ok-clause-next
returns-in-Ok-clause-next g c =
    let d = g.D.Disk in
    let old = c.args.levels.now in
    let new = c.advance.new.self in
    let is = of-new old.seed (entries_of old.notes.records) c.args.next c.requires.next c.requires.opens in
    let body = entry_text (Opens c.args.next.top_leaf (bottom_key old.seed c.args.next.top_leaf)) in
    let added = subst
    (λ (n : Option (List ℕ)). Did d.told d.plan d.faults n old.notes None new.notes)
    (advance-note old.seed old.notes.records c.args.next is) c.in-Ok.ensures.did in
    let records : new.notes.records ≡ old.notes.records ++ body ∷ [] = added.records in
    let more : level_records old.seed (old.notes.records ++ body ∷ []) ≡ Ok (old.notes.records ++ body ∷ []) =
    subst (λ (l : List (List ℕ)). level_records old.seed l ≡ Ok l) records
    (rw c.in-Ok.ensures.seed at c.is_whole-in-Ok.ensures.are) in
    (λ i. next_leaf (c.in-Ok.ensures.seed i) (entries_of (records i)))
    ∙ next-behind old.seed old.notes.records body c.is_whole.ensures.are is.has_none more
    ∙ sym (λ i. Some (record { top_leaf = is.top_leaf i; leaf = is.leaf i; opens = false }))

pub returns-in-Err-clause-did : goal.returns-in-Err-clause-did
returns-in-Err-clause-did g c =
    let d = g.D.Disk in
    let old = c.args.levels.now in
    let new = c.advance.new.self in
    let is = of-new old.seed (entries_of old.notes.records) c.args.next c.requires.next c.requires.opens in
    let stop = stop-is {T = ℕ} c.in-Err.why (advance_effect old.seed old.notes.records).answer c.args.next.top_leaf
    (advance-answer old.seed old.notes.records c.args.next is) c.in-Err.ensures.answer
    ∙ ap (λ (s : Stop). Some s) (sym c.stop_of.ensures) in
    subst (λ (n : Option (List ℕ)). Did d.told d.plan d.faults n old.notes (Some c.stop_of.result) new.notes)
    (advance-note old.seed old.notes.records c.args.next is)
    (subst (λ (s : Option Stop). Did d.told d.plan d.faults (advance_effect old.seed old.notes.records).note
    old.notes s new.notes) stop c.in-Err.ensures.did)
