use Rattle.hss_keys.proofs.Words.{◌≡◌, Ok, ◌∙◌, ap, sym, level_records}
use Rattle.hss_keys.proofs.Opening.{opened_level, opened_sound, refused_by_journal}
use Rattle.hss_keys.proofs.levels.Levels.open.Goals as goal

pub returns-in-Err-clause-refused : goal.returns-in-Err-clause-refused
returns-in-Err-clause-refused g c = refused_by_journal g.D.Disk.told g.D.Disk.plan g.D.Disk.faults c.args.secret.now
    c.in-Err.returned.why c.in-Err.ensures.refused c.in-Err.ensures.refused_cause

pub invariant_of-result : goal.invariant_of-result
invariant_of-result g c =
    let bodies = c.in-Ok.opened.1.items in
    let kept = c.in-Ok-prepare.records in
    let read : level_records c.args.secret.now bodies ≡ Ok kept.records =
    ap (level_records c.args.secret.now) (sym c.deref.ensures.value) ∙ c.in-Ok-prepare.ensures.records in
    opened_sound g.D.Disk.told g.D.Disk.plan g.D.Disk.faults c.args.secret.now c.args.disk c.in-Ok.opened.0
    c.prepare.new.journal kept bodies c.in-Ok-prepare.ensures.seed read
    c.in-Ok-prepare.ensures.room c.in-Ok.ensures.journal c.in-Ok.ensures.settled c.prepare.ensures.still
    c.public.ensures c.in-Ok-prepare.ensures.spare

pub returns-in-Ok-prepare-clause-opened : goal.returns-in-Ok-prepare-clause-opened
returns-in-Ok-prepare-clause-opened g c =
    let bodies = c.in-Ok.opened.1.items in
    let kept = c.in-Ok-prepare.records in
    let read : level_records c.args.secret.now bodies ≡ Ok kept.records =
    ap (level_records c.args.secret.now) (sym c.deref.ensures.value) ∙ c.in-Ok-prepare.ensures.records in
    opened_level g.D.Disk.told g.D.Disk.plan g.D.Disk.faults c.args.secret.now c.args.disk c.in-Ok.opened.0
    c.prepare.new.journal kept bodies c.in-Ok-prepare.ensures.seed read
    c.in-Ok-prepare.ensures.room c.in-Ok.ensures.journal c.in-Ok.ensures.settled c.prepare.ensures.still
    c.in-Ok.ensures.made c.in-Ok.ensures.records c.in-Ok.ensures.cause
