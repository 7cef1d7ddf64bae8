use Rattle.operator_rules.proofs.Openings.{opening-short}
use Rattle.operator_core.proofs.showing.opening_in_tree.Goals as goal

pub returns-clause-short : goal.returns-clause-short
returns-clause-short g c =
    rw (c.in_ok-write.ensures, c.in_ok-copy_of.ensures, c.leaf_in.ensures, c.in_ok-prove.ensures.is)
    (opening-short (g.H.Hash32.digest_of c.args.tree.now.hash) c.args.coin c.args.n c.args.tree.now.entries
    (λ bytes. g.met.H.Hash32.length_is c.args.tree.now.hash bytes) c.requires.short)
