use Rattle.std.proofs.Common.{None, rules, refl}
use Rattle.node_replies.specs.Orders.{on_accepted, wallet_does}
use Rattle.node_replies.specs.Given.{IsGiven}
use Rattle.node_deeds.proofs.WalletOutcomes.{ok-gives, err-gives, noted, err-did}
use Rattle.node_deeds.proofs.WalletEffects.{accept-leaf, accept-bare}
use Rattle.node_deeds.proofs.wallet.note_orders.accept.Goals as goal

pub returns-in-Ok-clause-gives : goal.returns-in-Ok-clause-gives
unfolding wallet_does
returns-in-Ok-clause-gives g c =
    let is : IsGiven (on_accepted c.in-Ok.field-0) c.says.result = search rules in
    ok-gives on_accepted _ _ _ (c.in-Ok.ensures.answer refl) is

pub returns-in-Ok-clause-did : goal.returns-in-Ok-clause-did
unfolding wallet_does
returns-in-Ok-clause-did g c =
    noted g.D.Disk.told g.D.Disk.plan g.D.Disk.faults _ _ _ _ None (accept-leaf _ _ _ _) c.in-Ok.ensures.did

pub returns-in-Err-clause-gives : goal.returns-in-Err-clause-gives
unfolding wallet_does
returns-in-Err-clause-gives g c =
    err-gives on_accepted _ c.in-Err.why _ c.in-Err.ensures.answer c.refuse.ensures

pub returns-in-Err-clause-did : goal.returns-in-Err-clause-did
unfolding wallet_does
returns-in-Err-clause-did g c =
    err-did g.D.Disk.told g.D.Disk.plan g.D.Disk.faults _ _ _ _ c.in-Err.why _
    (λ free. accept-bare _ _ _ _ _ (c.in-Err.ensures.answer free)) c.refuse.ensures
    (noted g.D.Disk.told g.D.Disk.plan g.D.Disk.faults _ _ _ _ _ (accept-leaf _ _ _ _) c.in-Err.ensures.did)
