use Rattle.wallet_node.proofs.Behind.{wallet-refused}
use Rattle.wallet_node.proofs.node.WalletNode.open_keyed.Goals as goal

pub returns-clause-refused : goal.returns-clause-refused
returns-clause-refused g c =
    wallet-refused g.D.Disk.told g.D.Disk.plan g.D.Disk.faults (g.H.Hash32.digest_of c.args.h) c.args.notes
    c.args.leaves c.in-Ok.notes.notes c.open_behind.result c.in-Ok.ensures.opened c.open_behind.ensures.refused
