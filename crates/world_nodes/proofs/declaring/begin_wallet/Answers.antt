use Rattle.world_nodes.proofs.Words.{Some, ap, identity_text, HasNoFuse, kept_half}
use Rattle.world_nodes.proofs.Begun.{pair-why, pair-unfused}
use Rattle.world_nodes.proofs.Declared.{both_begun, pair_told}
use Rattle.world_nodes.proofs.Ready.{of-half}
use Rattle.world_nodes.proofs.declaring.begin_wallet.Goals as goal

pub returns-in_default-default-Ok-clause-begun : goal.returns-in_default-default-Ok-clause-begun
returns-in_default-default-Ok-clause-begun c =
    both_begun (identity_text c.args.who.now) c.empty_disk.result c.empty_disk-2.result c.init.result.0
    c.init.result.1
    c.args.key c.init.result.2 c.in_default-default-Ok.field-0-2 c.in_default-default-Ok.is-2 c.init.ensures.inits
    c.empty_disk.ensures c.empty_disk-2.ensures c.init.ensures.begun c.init.ensures.empty

pub returns-in_default-default-Ok-clause-unfused : goal.returns-in_default-default-Ok-clause-unfused
returns-in_default-default-Ok-clause-unfused c =
    let both = pair-unfused (identity_text c.args.who.now) c.empty_disk.result c.empty_disk-2.result c.init.result.0
    c.init.result.1 c.init.result.2 c.empty_disk.ensures c.empty_disk-2.ensures c.init.ensures.inits
    c.in_default-default-Ok.field-0-2 c.in_default-default-Ok.is-2 in
    record { notes = both.0; leaves = of-half HasNoFuse (kept_half c.init.result.1) both.1 }

pub no_memory-requires : goal.no_memory-requires
no_memory-requires c =
    pair-why (identity_text c.args.who.now) c.empty_disk.result c.empty_disk-2.result c.init.result.0
    c.init.result.1 c.init.result.2 c.empty_disk.ensures c.empty_disk-2.ensures c.init.ensures.inits
    c.in_default-default-Err.why c.in_default-default-Err.is-2

pub returns-in_default-default-Ok-clause-notes_told : goal.returns-in_default-default-Ok-clause-notes_told
returns-in_default-default-Ok-clause-notes_told c =
    (pair_told (identity_text c.args.who.now) c.empty_disk.result c.empty_disk-2.result c.init.result.0
    c.init.result.1 c.init.result.2 c.in_default-default-Ok.field-0-2 c.in_default-default-Ok.is-2
    c.init.ensures.inits c.empty_disk.ensures c.empty_disk-2.ensures).0

pub returns-in_default-default-Ok-clause-leaves_told : goal.returns-in_default-default-Ok-clause-leaves_told
returns-in_default-default-Ok-clause-leaves_told c =
    ap Some
    (pair_told (identity_text c.args.who.now) c.empty_disk.result c.empty_disk-2.result c.init.result.0
    c.init.result.1 c.init.result.2 c.in_default-default-Ok.field-0-2 c.in_default-default-Ok.is-2
    c.init.ensures.inits c.empty_disk.ensures c.empty_disk-2.ensures).1
