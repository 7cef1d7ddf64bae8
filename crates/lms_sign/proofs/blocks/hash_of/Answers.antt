use Rattle.std.proofs.Common.{rules, ◌*◌, ◌∙◌, arith}
use Rattle.std.proofs.lemmas.List.{take_all}
use Rattle.sha2.specs.Sha256.{word_at}
use Rattle.lms_sign.proofs.BlockFacts.{digest_bytes-words}
use Rattle.lms_sign.proofs.Lists.{set_next}
use Rattle.lms_sign.proofs.blocks.hash_of.Goals as goal

pub words-preserved : goal.words-preserved
words-preserved c = (
  search rules,
  set_next (λ n. word_at c.args.string.now (4 * n)) c.words.hash c.words.k c.word_at.result 0 (omega arith)
      c.word_at.ensures c.words.invariant.1,
)

pub returns : goal.returns
returns c =
    digest_bytes-words c.words.hash c.args.string.now 8 (λ k below. c.words.invariant.1 k (omega arith))
    (omega arith) c.fits-string
    ∙ take_all 32 c.args.string.now (omega arith)
