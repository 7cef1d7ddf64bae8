use Rattle.std.proofs.Common.{sym, subst}
use Rattle.std.specs.Prelude.{IfOk}
use Rattle.node_journal.specs.Notes.{stopped_by}
use Rattle.node_replies.specs.Given.{IsGiven}
use Rattle.node_replies.specs.declared.order.WalletOrder.{WalletOrder}
use Rattle.node_replies.specs.Orders.{wallet_does}
use Rattle.node_deeds.specs.WalletOrders.{Does}
use Rattle.node_deeds.proofs.wallet.running.run_wallet_order.Goals as goal

pub returns-in-Again-clause-gives : goal.returns-in-Again-clause-gives
unfolding wallet_does
returns-in-Again-clause-gives g c =
    let old = c.args.node.now in
    let Response : WalletOrder → Type 0 = λ order. IfOk c.again.result (λ given.
    IsGiven (wallet_does (g.H.Hash32.digest_of old.hash) c.args.log.now.log old.records order).response given) in
    subst Response (sym c.in-Again.is) (c.again.ensures.gives)

pub returns-in-Again-clause-did : goal.returns-in-Again-clause-did
unfolding wallet_does
returns-in-Again-clause-did g c =
    let old = c.args.node.now in
    let DoesIt : WalletOrder → Type 0 = λ order. Does g.D.Disk.told g.D.Disk.plan g.D.Disk.faults
    (wallet_does (g.H.Hash32.digest_of old.hash) c.args.log.now.log old.records order) old
    (stopped_by c.again.result) old in
    subst DoesIt (sym c.in-Again.is) (c.again.ensures.did)

pub returns-in-Migrate-clause-gives : goal.returns-in-Migrate-clause-gives
unfolding wallet_does
returns-in-Migrate-clause-gives g c =
    let old = c.args.node.now in
    let Response : WalletOrder → Type 0 = λ order. IfOk c.migrate.result (λ given.
    IsGiven (wallet_does (g.H.Hash32.digest_of old.hash) c.args.log.now.log old.records order).response given) in
    subst Response (sym c.in-Migrate.is) (c.migrate.ensures.gives)

pub returns-in-Migrate-clause-did : goal.returns-in-Migrate-clause-did
unfolding wallet_does
returns-in-Migrate-clause-did g c =
    let old = c.args.node.now in
    let DoesIt : WalletOrder → Type 0 = λ order. Does g.D.Disk.told g.D.Disk.plan g.D.Disk.faults
    (wallet_does (g.H.Hash32.digest_of old.hash) c.args.log.now.log old.records order) old
    (stopped_by c.migrate.result) c.migrate.new.node in
    subst DoesIt (sym c.in-Migrate.is) (c.migrate.ensures.did)
