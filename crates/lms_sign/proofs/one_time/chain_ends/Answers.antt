use Rattle.std.proofs.Common.{◌≡◌, ◌-◌, ◌∙◌, arith, get_or-take, length, refl, replicate, take}
use Rattle.std.proofs.lemmas.List.{get_or-replicate, length-take-le}
use Rattle.lms_sign.specs.declared.chains.Span.{Span}
use Rattle.lms_sign.specs.OneTime.{chain_end}
use Rattle.lms_sign.proofs.one_time.chain_ends.Goals as goal

pub returns : goal.returns
unfolding chain_end
returns c i below =
    let none : Span = record { from = 0; to = 0 } in
    let whole : Span = record { from = 0; to = c.chain_length-steps.result } in
    let k = c.from.result in
    let long : length (take k (replicate 67 whole)) ≡ k = length-take-le k (replicate 67 whole) (omega arith) in
    let span = get_or-take k (replicate 67 whole) i none (omega arith)
    ∙ get_or-replicate 67 i whole none (omega arith) in
    let all : c.chain_length-steps.result - 0 ≡ c.chain_length-steps.result = omega arith in
    c.take_steps.ensures i (omega arith) ∙ rw (
      span,
      all,
      c.private_elements-strings.ensures i below,
      c.chain_length-steps.ensures,
    ) refl
