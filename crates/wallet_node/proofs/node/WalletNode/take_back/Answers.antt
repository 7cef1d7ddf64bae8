use Rattle.std.proofs.Common.{rules, ◌<◌, ◌^◌}
use Rattle.node_rules.specs.Wallet.{who}
use Rattle.wallet_node.proofs.Notes.{reclaim-spells}
use Rattle.wallet_node.proofs.node.WalletNode.take_back.Goals as goal

pub add_note-requires-clause-spells : goal.add_note-requires-clause-spells
add_note-requires-clause-spells g c =
    let coin_fits : c.args.coin < 2 ^ 64 = search (rules, c.ranges.coin) in
    let tip_fits : c.args.tip < 2 ^ 64 = search (rules, c.ranges.tip) in
    let q_fits : c.args.q < 2 ^ 32 = search (rules, c.ranges.q) in
    reclaim-spells (g.H.Hash32.digest_of c.args.self.now.hash) (who c.args.self.now.records).tag c.args.coin
    c.args.tip c.args.q c.in-Ok.body coin_fits tip_fits q_fits c.in-Ok.ensures.text
