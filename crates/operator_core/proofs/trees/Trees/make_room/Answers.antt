use Rattle.std.proofs.Common.{◌∙◌}
use Rattle.operator_core.proofs.trees.Trees.make_room.Goals as goal

pub invariant_of-self-2 : goal.invariant_of-self-2
invariant_of-self-2 g c = rw c.reserve.ensures.items (record {
  kept = record {
    hashes = c.self.invariant.kept.hashes;
    places = λ root. c.reserve-2.ensures.entries.2 root ∙ c.self.invariant.kept.places root;
  };
  walks = c.self.invariant.walks;
})
