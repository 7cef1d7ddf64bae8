use Rattle.std.proofs.Common.{codes, length, sym, ◌∙◌, ap, subst}
use Rattle.hss_runs.specs.Signing.{refuses, Signing}
use Rattle.hss_runs.specs.Runs.{Signs}
use Rattle.hss_runs.proofs.Adding.{refuses-signs}
use Rattle.hss_runs.proofs.Calls.{signing-next, signing-short, signing-spent}
use Rattle.hss_runs.proofs.run.sign.Goals as goal

pub returns-then-not-is_signable-clause-signs : goal.returns-then-not-is_signable-clause-signs
returns-then-not-is_signable-clause-signs g c =
    let d = g.D.Disk in
    let k = g.K.Sink in
    let old = c.args.levels.now in
    let message = c.args.message.now in
    subst (λ (s : Signing). Signs d.told d.plan d.faults (k.taken c.args.sink.now) (k.taken c.put_refused.new.sink)
    c.put_refused.result s old.notes old.notes)
    (sym (signing-short old.seed old.notes.records message (sym c.is_signable.ensures ∙ c.if-not-is_signable.true)))
    (refuses-signs d.told d.plan d.faults _ _ _ (codes "bad-length") (length message) old.notes
    (c.is_whole.ensures.settled c.requires.open) c.put_refused.ensures.ends)

pub returns-in-Some-clause-signs : goal.returns-in-Some-clause-signs
returns-in-Some-clause-signs g c =
    let d = g.D.Disk in
    let k = g.K.Sink in
    let old = c.args.levels.now in
    let message = c.args.message.now in
    subst (λ (s : Signing). Signs d.told d.plan d.faults (k.taken c.args.sink.now) (k.taken c.sign_by.new.sink)
    c.sign_by.result s old.notes c.sign_by.new.levels.notes)
    (sym (signing-next old.seed old.notes.records message c.in-Some.next
    (sym c.is_signable.ensures ∙ c.if-not-is_signable.false) (sym c.in-Some.ensures)))
    c.sign_by.ensures.signs

pub returns-in-None-clause-signs : goal.returns-in-None-clause-signs
returns-in-None-clause-signs g c =
    let d = g.D.Disk in
    let k = g.K.Sink in
    let old = c.args.levels.now in
    let message = c.args.message.now in
    let spent = signing-spent old.seed old.notes.records message (sym c.is_signable.ensures ∙ c.if-not-is_signable.false)
    (sym c.in-None.ensures)
    ∙ sym (ap (λ n. refuses (codes "key-spent") n) (c.from.ensures ∙ c.opened.ensures.value)) in
    subst (λ (s : Signing). Signs d.told d.plan d.faults (k.taken c.args.sink.now)
    (k.taken c.put_refused-in-None.new.sink) c.put_refused-in-None.result s old.notes old.notes) (sym spent)
    (refuses-signs d.told d.plan d.faults _ _ _ (codes "key-spent") c.from.result old.notes
    (c.is_whole.ensures.settled c.requires.open) c.put_refused-in-None.ensures.ends)
