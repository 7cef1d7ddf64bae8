use Rattle.merkle_pages.proofs.Words.{rules, ◌≡◌, ◌-◌, [], arith, part_at}
use Rattle.merkle_pages.proofs.NodeLaws.{AddsPart-none, AddsPart-leaf, AddsPart-more, clear-near, clear-far}
use Rattle.merkle_pages.proofs.PartLaws.{coins-none, coins-parted, near-coins, far-coins, digest-at_leaf, digest-sides}
use Rattle.merkle_pages.proofs.nodes.+add_part.Goals as goal

pub returns-then-is_empty-clause-digest : goal.returns-then-is_empty-clause-digest
returns-then-is_empty-clause-digest g t c =
    let none : part_at c.args.level c.args.coin c.args.leaves.now ≡ [] =
    coins-none c.args.level c.args.coin c.args.leaves.now c.args.coins.now c.requires.part (search rules) in
    rw none c.of_level.ensures

pub returns-then-is_empty-clause-added : goal.returns-then-is_empty-clause-added
returns-then-is_empty-clause-added g t c =
    AddsPart-none (g.H.Hash32.digest_of c.args.defaults.now) c.args.leaves.now c.args.level c.args.coin
    c.args.pages.now
    (coins-none c.args.level c.args.coin c.args.leaves.now c.args.coins.now c.requires.part (search rules))
    c.requires.clear

pub returns-then-level-eq0-clause-digest : goal.returns-then-level-eq0-clause-digest
returns-then-level-eq0-clause-digest g t c =
    digest-at_leaf (g.H.Hash32.digest_of c.args.defaults.now) c.args.level c.args.coin c.args.leaves.now
    c.leaf.result.now c.leaf_digest-leaf.result c.if-level-eq0.true c.leaf.ensures.leaf
    (rw c.hash.ensures at c.leaf_digest-leaf.ensures)

pub returns-then-level-eq0-clause-added : goal.returns-then-level-eq0-clause-added
returns-then-level-eq0-clause-added g t c =
    AddsPart-leaf (g.H.Hash32.digest_of c.args.defaults.now) c.args.leaves.now c.args.level c.args.coin
    c.leaf_digest-leaf.result c.args.pages.now c.keep_part.new.pages c.if-level-eq0.true
    (returns-then-level-eq0-clause-digest g t c) c.in_ok-keep_part.ensures

pub sides-requires-clause-parted : goal.sides-requires-clause-parted
sides-requires-clause-parted g t c =
    coins-parted c.args.coin c.args.level (c.args.level - 1) c.args.leaves.now c.args.coins.now (omega arith)
    c.requires.map c.requires.part

pub add_part-requires : goal.add_part-requires
add_part-requires g t c κs within = (
  omega arith,
  (
    search rules,
    (
      omega arith,
      (
        c.requires.map,
        (
          near-coins c.args.coin c.args.level (c.args.level - 1) c.args.leaves.now c.args.coins.now
              c.sides.result.0.now (omega arith) c.requires.part c.sides.ensures.near,
          clear-near (g.H.Hash32.digest_of c.args.defaults.now) c.args.leaves.now c.args.level (c.args.level - 1)
              c.args.coin c.args.pages.now (omega arith) c.requires.clear,
        ),
      ),
    ),
  ),
)

pub add_part-requires-2 : goal.add_part-requires-2
add_part-requires-2 g t c κs within = (
  omega arith,
  (
    search rules,
    (
      omega arith,
      (
        c.requires.map,
        (
          rw c.sibling_coin-other.ensures (far-coins c.args.coin c.args.level (c.args.level - 1) c.args.leaves.now
              c.args.coins.now c.sides.result.1.now (omega arith) (omega arith) (omega arith) c.requires.part
              c.sides.ensures.far),
          rw c.sibling_coin-other.ensures (clear-far (g.H.Hash32.digest_of c.args.defaults.now) c.args.leaves.now
              c.args.level (c.args.level - 1) c.args.coin (omega arith) (omega arith) (omega arith) c.args.pages.now
              c.add_part.new.pages c.in_ok-near.ensures.added c.requires.clear),
        ),
      ),
    ),
  ),
)

pub returns-clause-digest : goal.returns-clause-digest
returns-clause-digest g t c =
    digest-sides (g.H.Hash32.digest_of c.args.defaults.now) c.args.coin c.args.level (c.args.level - 1)
    c.args.leaves.now c.in_ok-near.near c.in_ok-far.far c.parent_bytes-string.result c.digest-node.result
    c.bit.result (omega arith) (omega arith) (omega arith) c.in_ok-near.ensures.digest
    (rw c.sibling_coin-other.ensures at c.in_ok-far.ensures.digest) c.bit.ensures c.parent_bytes-string.ensures
    (rw c.hash-2.ensures at c.digest-node.ensures)

pub returns-clause-added : goal.returns-clause-added
returns-clause-added g t c =
    AddsPart-more (g.H.Hash32.digest_of c.args.defaults.now) c.args.leaves.now c.args.level (c.args.level - 1)
    c.args.coin (omega arith) (omega arith) (omega arith) c.args.pages.now c.add_part.new.pages
    c.digest-node.result c.add_part-2.new.pages c.keep_part-2.new.pages c.in_ok-near.ensures.added
    (rw c.sibling_coin-other.ensures at c.in_ok-far.ensures.added) (returns-clause-digest g t c)
    c.in_ok-keep_part-2.ensures
