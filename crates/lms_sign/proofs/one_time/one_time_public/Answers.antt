use Rattle.std.proofs.Common.{◌≡◌, ◌∙◌, [], arith, get_or-take, length, refl, take}
use Rattle.std.proofs.lemmas.List.{length-take-le}
use Rattle.lms_sign.specs.Types.{chains}
use Rattle.lms_sign.specs.OneTime.{chain_end}
use Rattle.lms_sign.proofs.Lists.{concatenation-same}
use Rattle.lms_sign.proofs.one_time.one_time_public.Goals as goal

pub returns : goal.returns
returns c =
    let secret = c.args.secret.now in
    let k = c.from.result in
    let ends = c.chain_ends-ends.result in
    let count : k ≡ chains secret.types = omega arith in
    let long : length (take k ends) ≡ chains secret.types = length-take-le k ends (omega arith) ∙ count in
    c.one_time_key.ensures ∙ rw (
      long,
      concatenation-same _ (chain_end secret c.args.q) (chains secret.types)
          (λ i below. get_or-take k ends i [] (omega arith) ∙ c.chain_ends-ends.ensures i below),
    ) refl
