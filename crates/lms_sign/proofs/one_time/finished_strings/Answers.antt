use Rattle.std.proofs.Common.{rules, ◌≡◌, ℕ, ◌∙◌, [], arith, get_or-take, length, refl, take}
use Rattle.std.proofs.lemmas.List.{length-take-le}
use Rattle.lms_sign.specs.declared.chains.Span.{Span}
use Rattle.lms_sign.specs.OneTime.{digit, finished_string}
use Rattle.lms_sign.specs.Valid.{string_of}
use Rattle.lms_sign.proofs.Lists.{set_next}
use Rattle.lms_sign.proofs.one_time.finished_strings.Goals as goal

pub given-preserved : goal.given-preserved
given-preserved c =
    let span : ℕ → Span =
    λ n. record { from = digit c.args.types.now c.args.hash.now n; to = c.chain_length-steps.result } in
    record {
      span_count = search rules;
      string_count = search rules;
      spans = rw c.from.ensures (set_next span c.given.spans c.given.i _ (record { from = 0; to = 0 }) (omega arith)
          (rw c.digit-from.ensures.value refl) c.given.invariant.spans);
      strings = rw c.from-in-given.ensures (set_next (string_of c.args.signature.now) c.given.strings c.given.i
          c.string_of.result [] (omega arith) c.string_of.ensures c.given.invariant.strings);
    }

pub returns : goal.returns
unfolding finished_string
returns c i below =
    let k = c.from-2.result in
    let spans = c.given.spans in
    let long : length (take k spans) ≡ k = length-take-le k spans (omega (arith, c.given.invariant.span_count)) in
    let span = get_or-take k spans i (record { from = 0; to = 0 }) (omega arith)
    ∙ c.given.invariant.spans i (omega arith) in
    c.take_steps.ensures i (omega arith) ∙ rw (
      span,
      c.given.invariant.strings i (omega arith),
      c.chain_length-steps.ensures,
    ) refl
