use Rattle.std.proofs.Common.{◌≡◌, ◌∙◌, [], arith, get_or-take, length, refl, take}
use Rattle.std.proofs.lemmas.List.{length-take-le}
use Rattle.lms_sign.specs.Types.{chains}
use Rattle.lms_sign.specs.OneTime.{finished_string}
use Rattle.lms_sign.specs.Valid.{string_of}
use Rattle.lms_sign.proofs.Lists.{concatenation-same}
use Rattle.lms_sign.proofs.one_time.candidate.Goals as goal

pub returns : goal.returns
returns c =
    let types = c.args.types.now in
    let k = c.from.result in
    let ends = c.finished_strings-ends.result in
    let count : k ≡ chains types = omega arith in
    let long : length (take k ends) ≡ chains types = length-take-le k ends (omega arith) ∙ count in
    c.one_time_key.ensures ∙ rw (
      long,
      concatenation-same _ (finished_string types c.args.id.now c.args.q c.message_hash-hash.result
          (string_of c.args.signature.now)) (chains types)
          (λ i below. get_or-take k ends i [] (omega arith) ∙ c.finished_strings-ends.ensures i below),
      c.message_hash-hash.ensures,
    ) refl
