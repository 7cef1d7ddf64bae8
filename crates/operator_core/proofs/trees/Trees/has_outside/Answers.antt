use Rattle.operator_core.proofs.Words.{◌∙◌, is_outside}
use Rattle.operator_core.proofs.Places.{any-same}
use Rattle.operator_core.proofs.trees.Trees.has_outside.Goals as goal

pub returns : goal.returns
returns g c = rw (← c.self.view_is) (rw c.as_slice.ensures.value at c.any_outside.ensures
    ∙ any-same (λ h. g.H.Hash32.digest_of h) c.self.inside.defaults.value (is_outside c.args.log.now.log c.args.coin)
    c.self.inside.trees.items c.self.invariant.kept.hashes)
