use Rattle.operator_core.proofs.Words.{Some, identity_text}
use Rattle.operator_core.proofs.Opening.{no_pair}
use Rattle.operator_core.proofs.beginning.Operator+D.init_with_key.Goals as goal

pub returns-in-Err-clause-inits : goal.returns-in-Err-clause-inits
returns-in-Err-clause-inits g c =
    no_pair g.D.Disk.told g.D.Disk.plan g.E.Disk.told g.E.Disk.plan g.D.Disk.faults g.E.Disk.faults
    (identity_text (record { tag = c.args.tag; account = c.args.account; key_seed = Some c.args.seed })) c.args.notes
    c.args.leaves
