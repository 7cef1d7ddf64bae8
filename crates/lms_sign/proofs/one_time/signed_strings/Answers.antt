use Rattle.std.proofs.Common.{rules, ◌≡◌, ℕ, ◌-◌, ◌∙◌, arith, get_or-take, length, refl, take}
use Rattle.std.proofs.lemmas.List.{length-take-le}
use Rattle.lms_sign.specs.declared.chains.Span.{Span}
use Rattle.lms_sign.specs.OneTime.{digit, signed_string}
use Rattle.lms_sign.proofs.Lists.{set_next}
use Rattle.lms_sign.proofs.one_time.signed_strings.Goals as goal

pub digits-preserved : goal.digits-preserved
digits-preserved c =
    let span : ℕ → Span = λ n. record { from = 0; to = digit c.args.secret.now.types c.args.hash.now n } in (
      search rules,
      rw c.from.ensures (set_next span c.digits.spans c.digits.i _ (record { from = 0; to = 0 }) (omega arith)
          (rw c.digit-to.ensures.value refl) c.digits.invariant.1),
    )

pub returns : goal.returns
unfolding signed_string
returns c i below =
    let k = c.from-2.result in
    let spans = c.digits.spans in
    let steps = digit c.args.secret.now.types c.args.hash.now i in
    let long : length (take k spans) ≡ k = length-take-le k spans (omega arith) in
    let span = get_or-take k spans i (record { from = 0; to = 0 }) (omega arith)
    ∙ c.digits.invariant.1 i (omega arith) in
    let whole : steps - 0 ≡ steps = omega arith in
    c.take_steps.ensures i (omega arith) ∙ rw (span, whole, c.private_elements-strings.ensures i below) refl
