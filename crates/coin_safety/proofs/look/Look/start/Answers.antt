use Rattle.std.proofs.Common.{rules}
use Rattle.coin_safety.proofs.StartLaws.{start-at-last}
use Rattle.coin_safety.proofs.look.Look.start.Goals as goal

pub returns-in_ok-copy-in-Some : goal.returns-in_ok-copy-in-Some
returns-in_ok-copy-in-Some c =
    start-at-last c.args.self.now.account _ c.args.self.now.kept.now.links c.in-Some.before.now c.in-Some.link.now
    c.in_ok-shown_tip-in-Some.field-0 c.in_ok-copy-in-Some.field-0 (search rules) (search rules) (search rules)
