use Rattle.std.proofs.Common.{length, ◌<◌, get_or, take, arith}
use Rattle.std.proofs.lemmas.List.{take_more}
use Rattle.coin_verdicts.specs.Quiet.{is_quiet_at}
use Rattle.coin_verdicts.proofs.BookLaws.{met-more}
use Rattle.coin_verdicts.proofs.books.Books.meet_all.Goals as goal

pub loop-coin-preserved : goal.loop-coin-preserved
loop-coin-preserved c =
    let within : c.loop-coin.coin-index < length c.args.met.now = omega arith in
    rw (take_more c.args.met.now c.loop-coin.coin-index 0 within)
    (met-more c.args.line c.args.wallets.now (is_quiet_at c.args.nodes.now) (take c.loop-coin.coin-index c.args.met.now)
    (get_or c.args.met.now c.loop-coin.coin-index 0) c.args.self.now c.loop-coin.self c.meet.new.self
    c.loop-coin.invariant c.in_ok-meet.ensures)
