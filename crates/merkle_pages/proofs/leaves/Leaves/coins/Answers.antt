use Rattle.merkle_pages.proofs.LeafLaws.{coins-keys}
use Rattle.merkle_pages.proofs.leaves.Leaves.coins.Goals as goal

pub returns-clause-coins : goal.returns-clause-coins
returns-clause-coins c = rw (← c.self.view_is, ← coins-keys c.self.inside.map.entries) c.keys_of.ensures
