use Rattle.std.proofs.Common.{refl, zero-add}
use Rattle.plasma_base.proofs.toy.ToyHash32.digest.Goals as goal

pub returns : goal.returns
returns c = rw (c.text_of.ensures, c.added.ensures.sum, zero-add) refl
