use Rattle.std.proofs.Common.{None, rules, refl}
use Rattle.node_replies.specs.Orders.{on_sent, wallet_does}
use Rattle.node_replies.specs.Given.{IsGiven}
use Rattle.node_deeds.proofs.WalletOutcomes.{ok-gives, err-gives, leafed, err-did}
use Rattle.node_deeds.proofs.WalletEffects.{send-note, send-bare}
use Rattle.node_deeds.proofs.wallet.leaf_orders.send.Goals as goal
use Rattle.node_deeds.proofs.wallet.leaf_orders.send.Goals.{in-Some, in-None}

pub returns-in-Ok : goal.returns-in-Ok
unfolding wallet_does
returns-in-Ok g c =
    let is : IsGiven (on_sent c.in-Ok.field-0) c.makes.result = search rules in
    elim c.match-last.branch [
      | in-Some w ↦
          (let answer = rw (← w.in-Some.is, ← w.sent-is, c.in-Ok.is) at w.send_until-sent.ensures.answer in
          let did = rw (← w.in-Some.is, ← w.node-is, ← w.sent-is, c.in-Ok.is) at w.send_until-sent.ensures.did in record {
            gives = ok-gives on_sent _ _ _ (answer refl) is;
            did = leafed g.D.Disk.told g.D.Disk.plan g.D.Disk.faults _ _ _ _ None (send-note _ _ _ _ _ _) did;
          })
      | in-None w ↦
          (let answer = rw (← w.in-None.is, ← w.sent-is, c.in-Ok.is) at w.send-sent.ensures.answer in
          let did = rw (← w.in-None.is, ← w.node-is, ← w.sent-is, c.in-Ok.is) at w.send-sent.ensures.did in record {
            gives = ok-gives on_sent _ _ _ (answer refl) is;
            did = leafed g.D.Disk.told g.D.Disk.plan g.D.Disk.faults _ _ _ _ None (send-note _ _ _ _ _ _) did;
          })
    ]

pub returns-in-Err : goal.returns-in-Err
unfolding wallet_does
returns-in-Err g c =
    elim c.match-last.branch [
      | in-Some w ↦
          (let answer = rw (← w.in-Some.is, ← w.sent-is, c.in-Err.is) at w.send_until-sent.ensures.answer in
          let did = rw (← w.in-Some.is, ← w.node-is, ← w.sent-is, c.in-Err.is) at w.send_until-sent.ensures.did in record {
            gives = err-gives on_sent _ c.in-Err.why _ answer c.refuse.ensures;
            did = err-did g.D.Disk.told g.D.Disk.plan g.D.Disk.faults _ _ _ _ c.in-Err.why _ (λ free. send-bare _ _ _ _ _ _ _ (answer free))
                c.refuse.ensures (leafed g.D.Disk.told g.D.Disk.plan g.D.Disk.faults _ _ _ _ _ (send-note _ _ _ _ _ _) did);
          })
      | in-None w ↦
          (let answer = rw (← w.in-None.is, ← w.sent-is, c.in-Err.is) at w.send-sent.ensures.answer in
          let did = rw (← w.in-None.is, ← w.node-is, ← w.sent-is, c.in-Err.is) at w.send-sent.ensures.did in record {
            gives = err-gives on_sent _ c.in-Err.why _ answer c.refuse.ensures;
            did = err-did g.D.Disk.told g.D.Disk.plan g.D.Disk.faults _ _ _ _ c.in-Err.why _ (λ free. send-bare _ _ _ _ _ _ _ (answer free))
                c.refuse.ensures (leafed g.D.Disk.told g.D.Disk.plan g.D.Disk.faults _ _ _ _ _ (send-note _ _ _ _ _ _) did);
          })
    ]
