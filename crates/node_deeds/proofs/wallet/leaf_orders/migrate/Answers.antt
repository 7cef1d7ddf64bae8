use Rattle.std.proofs.Common.{None, rules, refl}
use Rattle.node_replies.specs.Orders.{on_migrated}
use Rattle.node_replies.specs.Given.{IsGiven}
use Rattle.node_deeds.proofs.WalletOutcomes.{ok-gives, err-gives, leafed, err-did}
use Rattle.node_deeds.proofs.WalletEffects.{migrate-note, migrate-bare}
use Rattle.node_deeds.proofs.wallet.leaf_orders.migrate.Goals as goal

pub returns-in-Ok-clause-gives : goal.returns-in-Ok-clause-gives
returns-in-Ok-clause-gives g c =
    let is : IsGiven (on_migrated c.in-Ok.field-0) c.says.result = search rules in
    ok-gives on_migrated _ _ _ (c.in-Ok.ensures.answer refl) is

pub returns-in-Ok-clause-did : goal.returns-in-Ok-clause-did
returns-in-Ok-clause-did g c =
    leafed g.D.Disk.told g.D.Disk.plan g.D.Disk.faults _ _ _ _ None (migrate-note _) c.in-Ok.ensures.did

pub returns-in-Err-clause-gives : goal.returns-in-Err-clause-gives
returns-in-Err-clause-gives g c =
    err-gives on_migrated _ c.in-Err.why _ c.in-Err.ensures.answer c.refuse.ensures

pub returns-in-Err-clause-did : goal.returns-in-Err-clause-did
returns-in-Err-clause-did g c =
    err-did g.D.Disk.told g.D.Disk.plan g.D.Disk.faults _ _ _ _ c.in-Err.why _
    (λ free. migrate-bare _ _ (c.in-Err.ensures.answer free)) c.refuse.ensures
    (leafed g.D.Disk.told g.D.Disk.plan g.D.Disk.faults _ _ _ _ _ (migrate-note _) c.in-Err.ensures.did)
