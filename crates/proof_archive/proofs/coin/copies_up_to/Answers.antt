use Rattle.proof_archive.proofs.SpellLaws.{on-err, up-some}
use Rattle.proof_archive.proofs.coin.copies_up_to.Goals as goal

pub returns-in_err-copy-clause-some : goal.returns-in_err-copy-clause-some
returns-in_err-copy-clause-some c =
    on-err c.from_residual.result (up-some c.args.tip _ c.args.openings.now c.opening-item.result
    c.loop-opening-test.true c.opening-item.is c.if-opening-tip.true)

pub returns-in_err-push-clause-some : goal.returns-in_err-push-clause-some
returns-in_err-push-clause-some c =
    on-err c.from_residual-in_err-push.result (up-some c.args.tip _ c.args.openings.now c.opening-item.result
    c.loop-opening-test.true c.opening-item.is c.if-opening-tip.true)
