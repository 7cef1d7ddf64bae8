use Rattle.std.proofs.Common.{◌≡◌, false, true, refl, ap, sym, ◌∙◌}
use Rattle.lms_sign.specs.Valid.{is_formed, is_valid, types_of}
use Rattle.lms_sign.proofs.verifying.verify.Goals as goal

pub returns-then-not-is_formed : goal.returns-then-not-is_formed
unfolding is_valid
returns-then-not-is_formed c =
    let formed : is_formed (types_of c.args.key.now) c.args.signature.now ≡ false = ap
    (λ t. is_formed t c.args.signature.now) (sym c.types-types.ensures.value) ∙ sym c.is_formed.ensures
    ∙ c.if-not-is_formed.true in
    rw formed refl

pub returns : goal.returns
unfolding is_valid
returns c =
    let formed : is_formed (types_of c.args.key.now) c.args.signature.now ≡ true = ap
    (λ t. is_formed t c.args.signature.now) (sym c.types-types.ensures.value) ∙ sym c.is_formed.ensures
    ∙ c.if-not-is_formed.false in
    rw formed (c.eq.ensures ∙ rw (
      c.as_slice.ensures,
      c.root.ensures,
      c.candidate_root.ensures,
      c.types-types.ensures.value,
      c.id.ensures,
    ) refl)
