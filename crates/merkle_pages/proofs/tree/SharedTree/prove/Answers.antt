use Rattle.merkle_pages.proofs.Words.{◌^◌, arith, bit_xor, IsMap, AreDefaults, path_to}
use Rattle.sparse_merkle.proofs.PathProof.{proof_of_path-made}
use Rattle.sparse_merkle.proofs.ProofLaws.{proof_path-made, opens-made, is_canonical-made}
use Rattle.merkle_pages.proofs.NodeLaws.{siblings-kept}
use Rattle.merkle_pages.proofs.PartLaws.{IsSibling-xor, path_to-from}
use Rattle.merkle_pages.proofs.tree.SharedTree.prove.Goals as goal

pub returns-clause-path : goal.returns-clause-path
returns-clause-path g c =
    let dig = g.H.Hash32.digest_of c.self.inside.hash in
    let entries = c.self.inside.leaves in
    let siblings = c.siblings-siblings.result in
    let lent : AreDefaults (g.H.Hash32.digest_of c.args.self.now.hash) c.below-below.result.now =
    rw c.requires at c.below-below.ensures in
    let are : AreDefaults dig c.below-below.result.now = rw (← c.self.view_is) at lent in
    let path = path_to-from dig c.args.coin entries (λ k. bit_xor c.args.coin (2 ^ k)) siblings
    (omega arith) c.self.invariant.map.small (λ k lt. IsSibling-xor c.args.coin k (omega arith) lt)
    c.siblings-siblings.ensures.long
    (siblings-kept dig entries c.self.inside.root c.self.inside.pages c.below-below.result.now siblings c.args.coin
    (omega arith) c.self.invariant are c.siblings-siblings.ensures.are) in
    rw (← c.self.view_is) (proof_path-made c.of_path.result dig c.below-below.result.now siblings
    (path_to dig c.args.coin entries) are c.siblings-siblings.ensures.long path c.of_path.ensures)

pub returns-clause-opens : goal.returns-clause-opens
returns-clause-opens g c =
    let map : IsMap c.args.self.now.entries = rw (← c.self.view_is) c.self.invariant.map in
    opens-made c.of_path.result (g.H.Hash32.digest_of c.args.self.now.hash) c.args.coin c.args.self.now.entries
    (omega arith) map (returns-clause-path g c)

pub returns-clause-canonical : goal.returns-clause-canonical
returns-clause-canonical g c =
    let dig = g.H.Hash32.digest_of c.args.self.now.hash in
    let are : AreDefaults dig c.below-below.result.now = rw c.requires at c.below-below.ensures in
    is_canonical-made c.of_path.result dig c.below-below.result.now c.siblings-siblings.result are c.of_path.ensures

pub returns-clause-is : goal.returns-clause-is
returns-clause-is g c =
    let dig = g.H.Hash32.digest_of c.args.self.now.hash in
    let are : AreDefaults dig c.below-below.result.now = rw c.requires at c.below-below.ensures in
    proof_of_path-made c.of_path.result dig c.below-below.result.now c.siblings-siblings.result
    (path_to dig c.args.coin c.args.self.now.entries) are c.siblings-siblings.ensures.long c.of_path.ensures
    (returns-clause-path g c)
