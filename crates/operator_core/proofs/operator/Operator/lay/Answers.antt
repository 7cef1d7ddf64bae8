use Rattle.std.proofs.Common.{◌≡◌, false, refl, sym, ◌∙◌}
use Rattle.operator_core.proofs.Adds.{lay_long, lay_short, lay_stop-refusal}
use Rattle.operator_core.proofs.operator.Operator.lay.Goals as goal

pub returns-then-bytes-gt-MOST_LAID-clause-answer : goal.returns-then-bytes-gt-MOST_LAID-clause-answer
returns-then-bytes-gt-MOST_LAID-clause-answer g c =
    λ any. rw (lay_long c.args.coin c.args.bytes.now c.if-bytes-gt-MOST_LAID.true) refl

pub returns-then-bytes-gt-MOST_LAID-clause-did : goal.returns-then-bytes-gt-MOST_LAID-clause-did
returns-then-bytes-gt-MOST_LAID-clause-did g c =
    let open' : c.args.self.now.notes.closed ≡ false =
    rw (← c.self.view_is) (sym c.is_closed.ensures ∙ c.if-is_closed.false) in
    rw (lay_long c.args.coin c.args.bytes.now c.if-bytes-gt-MOST_LAID.true) (open', refl)

pub returns-in-Ok-clause-answer : goal.returns-in-Ok-clause-answer
returns-in-Ok-clause-answer g c =
    λ any. rw (lay_short c.args.coin c.args.bytes.now c.if-bytes-gt-MOST_LAID.false) refl

pub returns-in-Ok-clause-did : goal.returns-in-Ok-clause-did
returns-in-Ok-clause-did g c =
    rw (lay_short c.args.coin c.args.bytes.now c.if-bytes-gt-MOST_LAID.false) c.in-Ok.ensures.did

pub returns-in-Err-clause-did : goal.returns-in-Err-clause-did
returns-in-Err-clause-did g c =
    rw (
      lay_short c.args.coin c.args.bytes.now c.if-bytes-gt-MOST_LAID.false,
      c.lay_refusal.ensures,
      lay_stop-refusal c.in-Err.stop,
    ) c.in-Err.ensures.did
