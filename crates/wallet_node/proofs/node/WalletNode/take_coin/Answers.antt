use Rattle.node_rules.specs.Wallet.{who}
use Rattle.wallet_node.proofs.Notes.{accept-spells}
use Rattle.wallet_node.proofs.node.WalletNode.take_coin.Goals as goal

pub add_note-requires-clause-spells : goal.add_note-requires-clause-spells
add_note-requires-clause-spells g c =
    accept-spells (g.H.Hash32.digest_of c.args.self.now.hash) (who c.args.self.now.records).tag c.args.links
    c.tip-tip.result c.args.body c.requires.read c.tip-tip.ensures c.requires.note
