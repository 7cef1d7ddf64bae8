use Rattle.std.proofs.Common.{None, Some, refl, sym, ap, subst}
use Rattle.crash_disk.specs.Disk.{fresh_history}
use Rattle.crash_disk.specs.Memory.{MemState}
use Rattle.node_rules.specs.WalletRecords.{is_body, wallet_kinds}
use Rattle.node_rules.specs.WalletOpening.{leaves_of}
use Rattle.safe_runs.specs.Runs.{IsRefused, wallet_in}
use Rattle.safe_runs.proofs.Opening.{role-keeps, leaves-keep, leaves-pass, wallet-opened, wallet-refused}
use Rattle.safe_runs.proofs.holdings.open_wallet.Goals as goal

pub returns-in-Ok-clause-opened : goal.returns-in-Ok-clause-opened
returns-in-Ok-clause-opened g c =
    let opened = c.in-Ok.ensures.opened in
    wallet-opened (λ (disk : MemState). Some disk.history) (λ (disk : MemState). None) (λ (disk : MemState). 0)
    (g.H.Hash32.digest_of c.args.h) c.disk_of.result c.disk_of-2.result
    (fresh_history c.args.notes.items) (fresh_history c.args.leaves.items) (ap Some c.disk_of.ensures)
    (ap Some c.disk_of-2.ensures) c.in-Ok.node.records
    (opened.opens_notes.kept (fresh_history c.args.notes.items) (ap Some c.disk_of.ensures))
    (opened.opens_leaves.kept (fresh_history c.args.leaves.items) (ap Some c.disk_of-2.ensures)) opened.bound

pub returns-in-Ok-clause-notes : goal.returns-in-Ok-clause-notes
returns-in-Ok-clause-notes g c =
    role-keeps (wallet_kinds (g.H.Hash32.digest_of c.args.h)) c.args.notes.items c.in-Ok.node.records.notes
    (c.in-Ok.ensures.opened.opens_notes.kept (fresh_history c.args.notes.items) (ap Some c.disk_of.ensures))

pub returns-in-Ok-clause-leaves : goal.returns-in-Ok-clause-leaves
returns-in-Ok-clause-leaves g c =
    leaves-keep is_body (leaves_of c.in-Ok.node.records.notes) c.args.leaves.items c.in-Ok.node.records.leaves
    (c.in-Ok.ensures.opened.opens_leaves.kept (fresh_history c.args.leaves.items) (ap Some c.disk_of-2.ensures))

pub returns-in-Ok-clause-pass : goal.returns-in-Ok-clause-pass
returns-in-Ok-clause-pass g c =
    leaves-pass is_body (leaves_of c.in-Ok.node.records.notes) c.args.leaves.items c.in-Ok.node.records.leaves
    (c.in-Ok.ensures.opened.opens_leaves.kept (fresh_history c.args.leaves.items) (ap Some c.disk_of-2.ensures))

pub returns-in-Err-clause-refused : goal.returns-in-Err-clause-refused
returns-in-Err-clause-refused g c =
    subst (IsRefused (wallet_in (g.H.Hash32.digest_of c.args.h) c.args.notes.items c.args.leaves.items))
    (sym c.only_place.ensures)
    (wallet-refused _ _ _ (g.H.Hash32.digest_of c.args.h) _ _ (fresh_history c.args.notes.items)
    (fresh_history c.args.leaves.items) (ap Some c.disk_of.ensures) (ap Some c.disk_of-2.ensures)
    c.in-Err.returned.why c.in-Err.returned.notes c.in-Err.returned.leaves c.in-Err.ensures.refused)
