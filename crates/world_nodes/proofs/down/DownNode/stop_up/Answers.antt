use Rattle.world_nodes.specs.declared.down.DownNode.TheVariants.{Wallet, Watcher, Operator}
use Rattle.world_nodes.specs.declared.up.UpNode.TheVariants.{Wallet as WalletUp, Watcher as WatcherUp, Operator as OperatorUp}
use Rattle.world_nodes.proofs.Ready.{opens-not, stop-why-at}
use Rattle.world_nodes.proofs.down.DownNode.stop_up.Goals as goal

pub unreachable-requires : goal.unreachable-requires
unreachable-requires g c =
    opens-not g.row.H.Denot (g.H.Hash32.digest_of c.args.hash) c.args.self
    (Wallet c.in-Wallet.notes c.in-Wallet.leaves c.in-Wallet.key) (WalletUp c.in-Ok.field-0) c.requires c.in-Wallet.is
    c.in-Ok.ensures.opened

pub no_memory-requires : goal.no_memory-requires
no_memory-requires g c =
    stop-why-at g.row.H.Denot (g.H.Hash32.digest_of c.args.hash) c.args.self
    (Wallet c.in-Wallet.notes c.in-Wallet.leaves c.in-Wallet.key)
    (Wallet c.in-Err.returned.notes c.in-Err.returned.leaves c.in-Wallet.key) c.in-Err.returned.why c.requires
    c.in-Wallet.is c.in-Err.ensures.refused c.in_default.not-DeviceFault

pub unreachable-requires-in-Ok-open_with : goal.unreachable-requires-in-Ok-open_with
unreachable-requires-in-Ok-open_with g c =
    opens-not g.row.H.Denot (g.H.Hash32.digest_of c.args.hash) c.args.self (Watcher c.in-Watcher.notes)
    (WatcherUp c.in-Ok-open_with.field-0) c.requires c.in-Watcher.is c.in-Ok-open_with.ensures.opened

pub no_memory-requires-in_default-why : goal.no_memory-requires-in_default-why
no_memory-requires-in_default-why g c =
    stop-why-at g.row.H.Denot (g.H.Hash32.digest_of c.args.hash) c.args.self (Watcher c.in-Watcher.notes)
    (Watcher c.in-Err-open_with.returned.disk) c.in-Err-open_with.returned.why c.requires c.in-Watcher.is
    c.in-Err-open_with.ensures.refused c.in_default-why.not-DeviceFault

pub unreachable-requires-in-Ok-open_with-2 : goal.unreachable-requires-in-Ok-open_with-2
unreachable-requires-in-Ok-open_with-2 g c =
    opens-not g.row.H.Denot (g.H.Hash32.digest_of c.args.hash) c.args.self (Operator c.in-Operator.notes)
    (OperatorUp c.in-Ok-open_with-2.field-0) c.requires c.in-Operator.is c.in-Ok-open_with-2.ensures.opened

pub no_memory-requires-in_default-why-2 : goal.no_memory-requires-in_default-why-2
no_memory-requires-in_default-why-2 g c =
    stop-why-at g.row.H.Denot (g.H.Hash32.digest_of c.args.hash) c.args.self (Operator c.in-Operator.notes)
    (Operator c.in-Err-open_with-2.returned.disk) c.in-Err-open_with-2.returned.why c.requires c.in-Operator.is
    c.in-Err-open_with-2.ensures.refused c.in_default-why-2.not-DeviceFault
