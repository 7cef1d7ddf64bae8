use Rattle.std.proofs.Common.{sym, arith}
use Rattle.operator_core.proofs.Walked.{on_way}
use Rattle.operator_core.proofs.ends.Ends.end_of.Goals as goal

pub returns-then-serves : goal.returns-then-serves
returns-then-serves c = λ dig sealed keeps. on_way dig sealed c.args.tag.now c.args.log.now.log c.args.coin
    c.args.made.now c.args.self.now c.in_ok-end.field-0.now keeps c.requires (sym c.in_ok-end.ensures.value)
    (c.serves.ensures.tag c.if-serves.true) (c.serves.ensures.made c.if-serves.true)
    (c.serves.ensures.low c.if-serves.true)
    (omega (arith, c.serves.ensures.high c.if-serves.true, c.blocks-count.ensures.is))
