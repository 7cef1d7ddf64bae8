use Rattle.std.proofs.Common.{refl, ap, sym, ◌∙◌}
use Rattle.std.specs.List.{list_any}
use Rattle.std.proofs.lemmas.List.{take_all}
use Rattle.std.proofs.lemmas.List.Folds.{list_any-from_Any}
use Rattle.world_scene.specs.Seeking.{is_sought}
use Rattle.world_scene.proofs.Scans.{none_more}
use Rattle.world_scene.proofs.seeking.is_there.Goals as goal

pub loop-entry-init : goal.loop-entry-init
loop-entry-init g c = refl

pub loop-entry-preserved : goal.loop-entry-preserved
loop-entry-preserved g c =
    none_more (is_sought c.args.sought.now) c.args.entries.now c.loop-entry.entry-index c.entry-item.result
    c.loop-entry-test.true c.entry-item.is c.loop-entry.invariant
    (sym c.if-is_sought.false ∙ c.is_sought.ensures)

pub returns-then-is_sought : goal.returns-then-is_sought
returns-then-is_sought g c =
    sym (list_any-from_Any (is_sought c.args.sought.now) c.args.entries.now (
      c.loop-entry.entry-index,
      c.entry-item.result,
      c.loop-entry-test.true,
      sym c.entry-item.is,
      sym c.is_sought.ensures ∙ c.if-is_sought.true,
    ))

pub returns : goal.returns
returns g c =
    c.loop-entry.invariant
    ∙ ap (list_any (is_sought c.args.sought.now)) (take_all c.loop-entry.entry-index c.args.entries.now
    c.loop-entry-test.false)
