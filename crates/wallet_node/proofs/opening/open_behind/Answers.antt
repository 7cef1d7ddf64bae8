use Rattle.std.proofs.Common.{inl, ◌∙◌, ap}
use Rattle.node_rules.specs.WalletRecords.{who_is}
use Rattle.wallet_node.proofs.Behind.{behind-none, behind-opened, behind-over, behind-refused, behind-unbound}
use Rattle.wallet_node.proofs.opening.open_behind.Goals as goal

pub returns-in-Err-clause-refused : goal.returns-in-Err-clause-refused
returns-in-Err-clause-refused g c = (
  c.take_disk.ensures,
  inl (behind-none g.D.Disk.told g.D.Disk.plan g.D.Disk.faults (g.H.Hash32.digest_of c.args.h) c.args.notes.notes
      c.args.leaves),
)

pub returns-in-Ok-open_of-clause-opened : goal.returns-in-Ok-open_of-clause-opened
returns-in-Ok-open_of-clause-opened g c =
    let notes = c.args.notes.notes in
    let dig = g.H.Hash32.digest_of c.args.h in
    let leaves = c.in-Ok-open_of.leaves in
    let opens = behind-opened g.D.Disk.told g.D.Disk.plan g.D.Disk.faults dig notes c.args.leaves
    c.identity_of-who.result c.secret_key.result.now
    (c.identity_of-who.ensures.value ∙ ap who_is c.records.ensures) c.identity_of-who.ensures.types
    (c.secret_key.ensures ∙ c.in-Ok.ensures) leaves.notes c.in-Ok-open_of.ensures.opened in
    behind-over g.D.Disk.told g.D.Disk.plan g.D.Disk.faults dig notes c.args.leaves leaves.notes c.args.h c.over.result
    opens c.over.ensures.opened

pub returns-in-Ok-open_of-clause-refused : goal.returns-in-Ok-open_of-clause-refused
returns-in-Ok-open_of-clause-refused g c =
    let notes = c.args.notes.notes in
    let dig = g.H.Hash32.digest_of c.args.h in
    let leaves = c.in-Ok-open_of.leaves in
    let opens = behind-opened g.D.Disk.told g.D.Disk.plan g.D.Disk.faults dig notes c.args.leaves
    c.identity_of-who.result c.secret_key.result.now
    (c.identity_of-who.ensures.value ∙ ap who_is c.records.ensures) c.identity_of-who.ensures.types
    (c.secret_key.ensures ∙ c.in-Ok.ensures) leaves.notes c.in-Ok-open_of.ensures.opened in
    behind-unbound g.D.Disk.told g.D.Disk.plan g.D.Disk.faults dig notes c.args.leaves leaves.notes c.over.result
    opens
    c.over.ensures.refused c.over.ensures.disk c.over.ensures.leaves_disk

pub returns-in-Err-open_of-clause-refused : goal.returns-in-Err-open_of-clause-refused
returns-in-Err-open_of-clause-refused g c = (
  c.take_disk-in-Err-open_of.ensures,
  inl (behind-refused g.D.Disk.told g.D.Disk.plan g.D.Disk.faults (g.H.Hash32.digest_of c.args.h)
      c.args.notes.notes c.args.leaves c.identity_of-who.result c.secret_key.result.now
      (c.identity_of-who.ensures.value ∙ ap who_is c.records.ensures) c.identity_of-who.ensures.types
      (c.secret_key.ensures ∙ c.in-Ok.ensures) c.in-Err-open_of.returned.disk c.in-Err-open_of.returned.why
      c.in-Err-open_of.ensures.refused),
)
