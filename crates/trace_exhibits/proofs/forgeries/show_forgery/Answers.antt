use Rattle.std.proofs.Common.{sym, ap, ◌∙◌}
use Rattle.std.specs.List.{list_any}
use Rattle.std.proofs.lemmas.Bool.{true≢false}
use Rattle.std.proofs.lemmas.List.{take_all}
use Rattle.watch_duty.proofs.Members.{any-has, contains-has}
use Rattle.trace_exhibits.specs.Wallets.{is_forged_in}
use Rattle.trace_exhibits.proofs.Lined.{event-forges}
use Rattle.trace_exhibits.proofs.forgeries.show_forgery.Goals as goal

pub returns-then-branch : goal.returns-then-branch
returns-then-branch c events event shown keeps tested =
    let test = is_forged_in c.args.tag.now events in
    let items = c.args.shown.now in
    let found = any-has test items c.one-item.result
    (contains-has items c.one-item.result (c.loop-one.one-index, c.loop-one-test.true, sym c.one-item.is))
    (sym (c.in_ok-is_forged.ensures events keeps (c.loop-one.invariant events keeps tested).1).0
    ∙ c.if-branch.true) in (
      sym (event-forges c.args.tag.now events event ∙ ap (list_any test) (sym shown) ∙ found),
      λ wrong. absurd (true≢false wrong),
    )

pub returns : goal.returns
returns c events event shown keeps tested =
    let test = is_forged_in c.args.tag.now events in
    let items = c.args.shown.now in
    let kept = c.loop-one.invariant events keeps tested in (
      sym (event-forges c.args.tag.now events event ∙ ap (list_any test) (sym shown)
          ∙ ap (list_any test) (sym (take_all c.loop-one.one-index items c.loop-one-test.false))
          ∙ kept.0),
      λ _. kept.1,
    )
