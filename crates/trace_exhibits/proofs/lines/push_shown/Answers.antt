use Rattle.std.proofs.Common.{◌≡◌, ◌++◌, OnOk, sym, ap, ◌∙◌, subst}
use Rattle.std.proofs.lemmas.List.{append-nil}
use Rattle.watch_duty.specs.Laws.{openings_of_call}
use Rattle.world_rules.specs.Events.{coin_of_call}
use Rattle.trace_exhibits.specs.Told.{shown_of}
use Rattle.trace_exhibits.specs.Lines.{event_of}
use Rattle.trace_exhibits.proofs.Accepted.{shown-accepted, shown-nothing}
use Rattle.trace_exhibits.proofs.lines.push_shown.Goals as goal

pub returns-in-Joins : goal.returns-in-Joins
returns-in-Joins c =
    let call = c.in-Joins.call.now in
    subst (λ shown. OnOk c.push_call.result (c.push_call.new.shown.items ≡ c.args.shown.now.items ++ shown))
    (sym (ap (λ line. shown_of (event_of line)) c.in-Joins.is
    ∙ shown-accepted (coin_of_call call) (openings_of_call (coin_of_call call) call))) c.push_call.ensures

pub returns-in-Shows : goal.returns-in-Shows
returns-in-Shows c =
    subst (λ shown. OnOk c.push_openings.result (c.push_openings.new.shown.items ≡ c.args.shown.now.items ++ shown))
    (sym (ap (λ line. shown_of (event_of line)) c.in-Shows.is
    ∙ shown-accepted c.in-Shows.coin c.in-Shows.openings.now)) c.push_openings.ensures

pub returns-in_default : goal.returns-in_default
returns-in_default c =
    let shown = c.args.shown.now.items in
    sym (append-nil shown)
    ∙ ap (λ more. shown ++ more)
    (sym (shown-nothing c.args.line.now c.in_default.not-Joins c.in_default.not-Shows))
