use Rattle.std.proofs.Common.{rules}
use Rattle.wallet_node.proofs.StartLaws.{start-at-last}
use Rattle.wallet_node.proofs.watching.start_call.Goals as goal

pub returns-in_ok-copy-in-Some : goal.returns-in_ok-copy-in-Some
returns-in_ok-copy-in-Some c =
    start-at-last c.args.account c.args.coin c.args.tip c.args.deposit c.args.spends.now c.in-Some.before.now
    c.in-Some.link.now c.in_ok-shown_tip-in-Some.field-0 c.in_ok-copy-in-Some.field-0 (search rules) (search rules)
    (search rules)
