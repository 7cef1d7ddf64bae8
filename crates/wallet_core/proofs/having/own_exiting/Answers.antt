use Rattle.std.proofs.lemmas.List.{take_more}
use Rattle.plasma_tx.specs.Views.{is_exiting}
use Rattle.wallet_core.proofs.OwnCoins.{grown-coins, grown-notes}
use Rattle.wallet_core.proofs.having.own_exiting.Goals as goal

pub loop-coin-preserved : goal.loop-coin-preserved
loop-coin-preserved c =
    grown-coins (is_exiting c.args.log.now.log) c.deposits-coin-items.result.now _ c.loop-coin.coin-index _
    c.loop-coin.own c.insert_exiting.new.own c.deposits-coin-items.ensures
    (take_more c.deposits-coin-items.result.now c.loop-coin.coin-index _ c.loop-coin-test.true)
    c.in_ok-insert_exiting.ensures.coins c.loop-coin.invariant

pub loop-note-preserved : goal.loop-note-preserved
loop-note-preserved c =
    grown-notes (is_exiting c.args.log.now.log) c.as_slice-note-items.result.now _ c.loop-note.note-index _
    c.loop-note.own c.insert_exiting-in-loop-note.new.own _ c.as_slice-note-items.ensures
    (take_more c.as_slice-note-items.result.now c.loop-note.note-index _ c.loop-note-test.true)
    c.in_ok-insert_exiting-2.ensures.coins c.loop-note.invariant
