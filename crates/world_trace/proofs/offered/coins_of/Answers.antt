use Rattle.std.proofs.Common.{◌==◌, ap, ◌∙◌}
use Rattle.std.specs.List.{list_any}
use Rattle.std.proofs.lemmas.List.{take_all}
use Rattle.world_rules.specs.Events.{coin_of_call}
use Rattle.coin_verdicts.specs.Facts.{has}
use Rattle.world_trace.proofs.offered.coins_of.Goals as goal

pub returns : goal.returns
returns c n =
    let whole = take_all c.loop-call.call-index c.args.calls.now c.loop-call-test.false in
    ap (λ coins. has coins n) c.from_vec.ensures ∙ c.loop-call.invariant n
    ∙ ap (list_any (λ call. coin_of_call call == n)) whole
