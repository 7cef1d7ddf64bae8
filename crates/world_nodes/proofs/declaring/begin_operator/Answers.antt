use Rattle.world_nodes.proofs.Words.{None, ap, ◌∙◌, MemState, init_steps, with_beginning, HasNoFuse}
use Rattle.operator_rules.specs.Records.{identity_text}
use Rattle.world_nodes.proofs.Begun.{init-why, init-unfused}
use Rattle.world_nodes.proofs.Declared.{alone_begun, alone_told}
use Rattle.world_nodes.proofs.Ready.{of-none}
use Rattle.world_nodes.proofs.Roles.{operator-alone}
use Rattle.world_nodes.proofs.declaring.begin_operator.Goals as goal

pub returns-in_default-Ok-clause-begun : goal.returns-in_default-Ok-clause-begun
returns-in_default-Ok-clause-begun c = record {
  notes = alone_begun (identity_text (record { tag = c.args.tag.now; account = c.args.account; key_seed = None }))
      c.empty_disk.result c.init.result.0 c.init.result.1 c.in_default-Ok.field-0-1 c.in_default-Ok.is-1
      c.init.ensures.inits c.empty_disk.ensures c.init.ensures.begun;
  leaves = λ half is. absurd (cc is);
}

pub returns-in_default-Ok-clause-unfused : goal.returns-in_default-Ok-clause-unfused
returns-in_default-Ok-clause-unfused c = record {
  notes = init-unfused
      (init_steps (identity_text (record { tag = c.args.tag.now; account = c.args.account; key_seed = None })))
      c.empty_disk.result c.init.result.0 c.init.result.1 c.in_default-Ok.field-0-1 c.in_default-Ok.is-1
      c.empty_disk.ensures c.init.ensures.inits;
  leaves = of-none HasNoFuse;
}

pub no_memory-requires : goal.no_memory-requires
no_memory-requires c =
    init-why (init_steps (identity_text (record { tag = c.args.tag.now; account = c.args.account; key_seed = None })))
    c.empty_disk.result c.init.result.0 c.init.result.1 c.in_default-Err.why c.in_default-Err.is-1
    c.empty_disk.ensures c.init.ensures.inits

pub returns-in_default-Ok-clause-role : goal.returns-in_default-Ok-clause-role
returns-in_default-Ok-clause-role c =
    operator-alone (record { tag = c.args.tag.now; account = c.args.account; key_seed = None })
    (record { tag = c.are_sized.ensures.tag; account = c.are_sized.ensures.account; key_seed = tt })

pub returns-in_default-Err-clause-role : goal.returns-in_default-Err-clause-role
returns-in_default-Err-clause-role c =
    operator-alone (record { tag = c.args.tag.now; account = c.args.account; key_seed = None })
    (record { tag = c.are_sized.ensures.tag; account = c.are_sized.ensures.account; key_seed = tt })

pub returns-in_default-Ok-clause-notes_told : goal.returns-in_default-Ok-clause-notes_told
returns-in_default-Ok-clause-notes_told c =
    let steps = init_steps (identity_text (record { tag = c.args.tag.now; account = c.args.account; key_seed = None })) in
    alone_told steps c.empty_disk.result c.init.result.0 c.init.result.1 c.in_default-Ok.field-0-1 c.in_default-Ok.is-1
    c.init.ensures.inits
    ∙ ap (λ (disk : MemState). with_beginning steps disk.history) c.empty_disk.ensures
