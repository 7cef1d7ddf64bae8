use Rattle.world_nodes.specs.declared.down.DownNode.TheVariants.{Wallet, Watcher, Operator}
use Rattle.world_nodes.proofs.Ready.{why-at}
use Rattle.world_nodes.proofs.down.DownNode.open_up.Goals as goal

pub no_memory-requires : goal.no_memory-requires
no_memory-requires g c =
    why-at (g.H.Hash32.digest_of c.args.hash) c.args.self (Wallet c.in-Wallet.notes c.in-Wallet.leaves c.in-Wallet.key)
    (Wallet c.in-Err.returned.notes c.in-Err.returned.leaves c.in-Wallet.key) c.in-Err.returned.why c.requires
    c.in-Wallet.is c.in-Err.ensures.refused

pub no_memory-requires-in-Err-open_with : goal.no_memory-requires-in-Err-open_with
no_memory-requires-in-Err-open_with g c =
    why-at (g.H.Hash32.digest_of c.args.hash) c.args.self (Watcher c.in-Watcher.notes)
    (Watcher c.in-Err-open_with.returned.disk) c.in-Err-open_with.returned.why c.requires c.in-Watcher.is
    c.in-Err-open_with.ensures.refused

pub no_memory-requires-in-Err-open_with-2 : goal.no_memory-requires-in-Err-open_with-2
no_memory-requires-in-Err-open_with-2 g c =
    why-at (g.H.Hash32.digest_of c.args.hash) c.args.self (Operator c.in-Operator.notes)
    (Operator c.in-Err-open_with-2.returned.disk) c.in-Err-open_with-2.returned.why c.requires c.in-Operator.is
    c.in-Err-open_with-2.ensures.refused
