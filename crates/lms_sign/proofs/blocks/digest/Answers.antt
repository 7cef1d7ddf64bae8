use Rattle.std.proofs.Common.{rules, ◌≡◌, ◌+◌, ◌*◌, ◌∙◌, add-one, arith, length, refl}
use Rattle.sha2.specs.Sha256.{digest_bytes}
use Rattle.lms_sign.proofs.Lists.{all_of_front, put_on}
use Rattle.lms_sign.proofs.blocks.digest.Goals as goal

pub words-init : goal.words-init
unfolding digest_bytes
words-init c = search rules

pub words-preserved : goal.words-preserved
unfolding digest_bytes
words-preserved c =
    let k = c.words.k in
    let long : length c.to_be_bytes.result ≡ 4 = rw c.to_be_bytes.ensures refl in (
      c.put.auto.out ∙ c.words.invariant.0,
      put_on c.words.digest c.put.new.out c.to_be_bytes.result _ (4 * k) (4 * (k + 1)) c.words.invariant.1
          c.put.ensures (omega arith) ∙ rw (add-one, c.to_be_bytes.ensures) refl,
    )

pub returns : goal.returns
returns c =
    let done : c.words.k ≡ 8 = omega arith in
    all_of_front c.words.digest _ 32 c.words.invariant.0 (rw done at c.words.invariant.1)
