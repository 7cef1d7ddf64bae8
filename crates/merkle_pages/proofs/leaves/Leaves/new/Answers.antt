use Rattle.merkle_pages.proofs.LeafLaws.{IsMap-none}
use Rattle.merkle_pages.proofs.leaves.Leaves.new.Goals as goal

pub invariant_of-result : goal.invariant_of-result
invariant_of-result c = rw c.new.ensures.empty IsMap-none
