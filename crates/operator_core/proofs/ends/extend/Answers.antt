use Rattle.std.proofs.Common.{◌∷◌, [], ap, length, length-append, arith}
use Rattle.operator_core.proofs.Walked.{follows-more, ends-same, ends-more}
use Rattle.operator_core.proofs.ends.extend.Goals as goal

pub way-init : goal.way-init
way-init c = record { long = omega arith; follows = c.requires; keeps = λ dig sealed kept. kept }

pub way-preserved : goal.way-preserved
way-preserved c =
    let pushed = c.is_full_for.ensures.pushed c.if-is_full_for.false in
    record {
      long = omega (
        arith,
        ap length pushed,
        length-append c.way.ends.roots.items (c.root_at.result ∷ []),
        c.way.invariant.long,
      );
      follows = rw pushed (follows-more c.args.log.now.log c.way.ends.roots.items c.root_at.result c.way.before
          c.way.invariant.long c.root_at.ensures c.way.invariant.follows);
      keeps = λ dig sealed kept. ends-more dig sealed c.way.ends c.is_full_for.new.ends c.root_at.result
          c.is_full_for.ensures.ends pushed (c.way.invariant.keeps dig sealed kept);
    }

pub returns-then-is_full_for-clause-follows : goal.returns-then-is_full_for-clause-follows
returns-then-is_full_for-clause-follows c =
    rw (c.is_full_for.ensures.full c.if-is_full_for.true) c.way.invariant.follows

pub returns-then-is_full_for-clause-keeps : goal.returns-then-is_full_for-clause-keeps
returns-then-is_full_for-clause-keeps c = λ dig sealed kept. ends-same dig sealed c.way.ends c.is_full_for.new.ends
    c.is_full_for.ensures.ends (c.is_full_for.ensures.full c.if-is_full_for.true)
    (c.way.invariant.keeps dig sealed kept)
