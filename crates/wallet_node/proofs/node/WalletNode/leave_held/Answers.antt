use Rattle.std.proofs.Common.{rules, ◌<◌, ◌^◌}
use Rattle.node_rules.specs.Wallet.{who}
use Rattle.wallet_node.proofs.Notes.{leave-spells}
use Rattle.wallet_node.proofs.node.WalletNode.leave_held.Goals as goal

pub add_note-requires-clause-spells : goal.add_note-requires-clause-spells
add_note-requires-clause-spells g c =
    let coin_fits : c.args.coin < 2 ^ 64 = search (rules, c.ranges.coin) in
    let tip_fits : c.args.tip < 2 ^ 64 = search (rules, c.ranges.tip) in
    leave-spells (g.H.Hash32.digest_of c.args.self.now.hash) (who c.args.self.now.records).tag c.args.coin
    c.args.tip c.in-Ok.body coin_fits tip_fits c.in-Ok.ensures.text
