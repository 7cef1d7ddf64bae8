use Rattle.std.proofs.Common.{None}
use Rattle.operator_rules.specs.Records.{identity_text}
use Rattle.world_nodes.specs.declared.entry.Member.TheVariants.{Operator}
use Rattle.world_nodes.proofs.Declared.{declared, declared_alone}
use Rattle.world_nodes.proofs.entry.Entry.operator.Goals as goal

pub over-requires : goal.over-requires
over-requires g c =
    declared (identity_text (record { tag = c.args.tag.now; account = c.args.account; key_seed = None })) Operator
    c.in_ok-down.down c.in_ok-down.ensures.kind c.in_ok-down.ensures.begun c.in_ok-down.ensures.unfused
    c.in_ok-down.ensures.role tt

pub returns-clause-began : goal.returns-clause-began
returns-clause-began g c =
    declared_alone (identity_text (record { tag = c.args.tag.now; account = c.args.account; key_seed = None })) c.in_ok-down.down
    c.over.result c.in_ok-down.ensures.notes_told c.in_ok-down.ensures.leaves_told c.over.ensures.notes_disk
    c.over.ensures.leaves_disk
