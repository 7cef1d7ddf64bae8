use Rattle.node_rules.specs.WalletRecords.{identity_text}
use Rattle.world_nodes.proofs.Declared.{declared_both}
use Rattle.world_nodes.proofs.entry.Entry.wallet.Goals as goal

pub returns-clause-began : goal.returns-clause-began
returns-clause-began g c =
    declared_both (identity_text c.args.who.now) c.in_ok-down.down c.over.result
    c.in_ok-down.ensures.notes_told c.in_ok-down.ensures.leaves_told c.over.ensures.notes_disk
    c.over.ensures.leaves_disk
