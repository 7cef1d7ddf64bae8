use Rattle.std.proofs.Common.{sym, arith}
use Rattle.operator_core.proofs.Ways.{place-early}
use Rattle.operator_core.proofs.walk.begun.Goals as goal

pub returns : goal.returns
returns c = λ dig log sealed coin. record {
  placed = sym (place-early dig c.args.tag.now log sealed coin c.args.made.now c.args.made.now.deposit (omega arith));
  low = omega arith;
  high = λ lt. absurd (omega arith);
}
