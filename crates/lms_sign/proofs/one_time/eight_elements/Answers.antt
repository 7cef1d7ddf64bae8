use Rattle.std.proofs.Common.{rules, ◌+◌, ◌*◌, ◌∙◌, [], ap, arith, refl}
use Rattle.std.proofs.lemmas.List.{get_or-replicate}
use Rattle.lms_sign.specs.OneTime.{chain_step, chain_value}
use Rattle.lms_sign.proofs.Lists.{set_next}
use Rattle.lms_sign.proofs.one_time.eight_elements.Goals as goal

pub marks-preserved : goal.marks-preserved
marks-preserved c = (
  search rules,
  set_next (λ n. (c.args.first + n) * 256 + 0xff) c.marks.marks c.marks.k _ 0 (omega arith) refl c.marks.invariant.1,
)

pub returns : goal.returns
unfolding chain_value
returns c = λ id q k of_id begun below.
    c.strings_after.ensures id q k (c.args.first + k) 0xff of_id begun below (c.marks.invariant.1 k (omega arith))
    (omega arith) (omega arith)
    ∙ ap (chain_step id q (c.args.first + k) 0xff) (get_or-replicate 8 k c.args.seed.now [] below)
