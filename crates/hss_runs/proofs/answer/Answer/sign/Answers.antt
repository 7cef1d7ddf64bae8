use Rattle.std.proofs.Common.{◌≡◌, [], ◌∷◌, ◌++◌, length, drop, arith, ◌∙◌, ap}
use Rattle.std.proofs.lemmas.List.{take_at}
use Rattle.hex.specs.Hex.{encode_lower}
use Rattle.lms_sign.specs.declared.secret.Secret.{Secret}
use Rattle.hss_keys.specs.Keys.{hss_signature_of, top_secret}
use Rattle.hss_runs.specs.Signing.{first_line, signature_by, signed_text}
use Rattle.hss_runs.proofs.Calls.{text-is}
use Rattle.hss_runs.proofs.answer.Answer.sign.Goals as goal

pub returns : goal.returns
unfolding signed_text
returns c =
    let bound = c.args.bound in
    let seed = c.args.secret.now in
    let signature = signature_by seed bound.top_leaf bound.leaf bound.message in
    let out = c.sign.new.out in
    let made : c.deref.result.now ≡ signature =
    c.deref.ensures.value
    ∙ take_at out (drop (length out) c.args.self.signature.items) c.args.self.signature.len
    (omega (arith, c.sign.auto.out, ap length c.deref_mut.ensures.value, c.args.self.signature.ok.0))
    ∙ c.sign.ensures.value
    ∙ ap (λ (s : Secret). hss_signature_of (top_secret seed) bound.top_leaf s bound.leaf bound.message)
    c.requires.bottom in
    let digits = c.put_digits.new.digits in
    let shown : c.deref-2.result.now ≡ encode_lower signature =
    c.deref-2.ensures.value
    ∙ take_at digits (drop (length digits) c.args.self.digits.items) c.args.self.digits.len
    (omega (arith, c.put_digits.auto.digits, ap length c.deref_mut-2.ensures.value, c.args.self.digits.ok.0))
    ∙ c.put_digits.ensures ∙ ap encode_lower made in
    c.end_line.ensures ∙ (λ i. (c.requires.text i ++ c.deref-2.result.now) ++ 10 ∷ [])
    ∙ text-is (first_line bound.top_leaf bound.leaf) c.deref-2.result.now signature shown
