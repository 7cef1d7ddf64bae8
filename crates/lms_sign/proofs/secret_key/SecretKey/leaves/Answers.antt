use Rattle.std.proofs.Common.{◌∙◌, sym, ap}
use Rattle.lms_sign.specs.Types.{leaf_count}
use Rattle.lms_sign.specs.Tree.{public_key_of}
use Rattle.lms_sign.specs.Valid.{types_of}
use Rattle.lms_sign.specs.declared.secret.Secret.{Secret}
use Rattle.lms_sign.proofs.Laws.{key-types}
use Rattle.lms_sign.proofs.secret_key.SecretKey.leaves.Goals as goal

pub returns-clause-of_public : goal.returns-clause-of_public
returns-clause-of_public c =
    let key = c.self.inside.secret in
    let same = key-types key c.self.invariant.supported c.self.invariant.id in
    c.leaf_count.ensures.value ∙ ap leaf_count (sym same)
    ∙ ap (λ (k : Secret). leaf_count (types_of (public_key_of k))) c.self.view_is
