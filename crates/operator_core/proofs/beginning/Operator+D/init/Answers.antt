use Rattle.operator_core.proofs.Words.{None, init_steps, identity_text}
use Rattle.operator_core.proofs.Opening.{no_init}
use Rattle.operator_core.proofs.beginning.Operator+D.init.Goals as goal

pub returns-in-Err-clause-inits : goal.returns-in-Err-clause-inits
returns-in-Err-clause-inits g c =
    no_init g.D.Disk.told g.D.Disk.plan
    (init_steps (identity_text (record { tag = c.args.tag; account = c.args.account; key_seed = None }))) c.args.notes
