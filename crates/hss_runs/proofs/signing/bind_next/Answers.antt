use Rattle.std.proofs.Common.{List, sym, subst}
use Rattle.node_journal.specs.Notes.{stopped_by}
use Rattle.hss_keys.specs.declared.entry.Entry.{Entry}
use Rattle.hss_keys.specs.declared.entry.Entry.TheVariants.{Opens, Binds}
use Rattle.hss_keys.specs.Keys.{bottom_key}
use Rattle.hss_runs.specs.Runs.{DidAll}
use Rattle.hss_runs.proofs.Adding.{did-one, did-two}
use Rattle.hss_runs.proofs.Calls.{added-last, added-new}
use Rattle.hss_runs.proofs.signing.bind_next.Goals as goal

pub returns-then-next-clause-did : goal.returns-then-next-clause-did
returns-then-next-clause-did g c =
    let d = g.D.Disk in
    let old = c.args.levels.now in
    let next = c.args.next in
    let message = c.args.message.now in
    subst (λ (l : List Entry). DidAll d.told d.plan d.faults l old.notes (stopped_by c.bind_opened.result)
    c.bind_opened.new.levels.notes) (sym (added-new old.seed next message c.if-next.true))
    (did-two d.told d.plan d.faults (Opens next.top_leaf (bottom_key old.seed next.top_leaf))
    (Binds next.top_leaf next.leaf message) old.notes c.open_next.new.levels.notes
    c.bind_opened.new.levels.notes c.bind_opened.result c.in_ok-open_next.ensures.did
    c.bind_opened.ensures.did c.bind_opened.ensures.fault)

pub returns-clause-did : goal.returns-clause-did
returns-clause-did g c =
    let d = g.D.Disk in
    let old = c.args.levels.now in
    let next = c.args.next in
    let message = c.args.message.now in
    subst (λ (l : List Entry). DidAll d.told d.plan d.faults l old.notes (stopped_by c.bind_opened-2.result)
    c.bind_opened-2.new.levels.notes) (sym (added-last old.seed next message c.if-next.false))
    (did-one d.told d.plan d.faults (Binds next.top_leaf next.leaf message) old.notes
    c.bind_opened-2.new.levels.notes c.bind_opened-2.result c.bind_opened-2.ensures.did
    c.bind_opened-2.ensures.fault)
