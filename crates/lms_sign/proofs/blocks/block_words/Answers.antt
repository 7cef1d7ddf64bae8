use Rattle.std.proofs.Common.{rules, ◌*◌, arith}
use Rattle.sha2.specs.Sha256.{word_at}
use Rattle.lms_sign.proofs.Lists.{set_next}
use Rattle.lms_sign.proofs.blocks.block_words.Goals as goal

pub load-preserved : goal.load-preserved
load-preserved c = (
  search rules,
  set_next (λ n. word_at c.args.block.now (4 * n)) c.load.words c.load.k c.word_at.result 0 (omega arith)
      c.word_at.ensures c.load.invariant.1,
)

pub returns : goal.returns
returns c = (c.load.invariant.0, λ n below. c.load.invariant.1 n (omega arith))
