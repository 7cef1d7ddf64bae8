use Rattle.merkle_pages.proofs.NodeLaws.{KeepsDefaults-made}
use Rattle.merkle_pages.proofs.defaults.Defaults.new.Goals as goal

pub invariant_of-result : goal.invariant_of-result
invariant_of-result g c =
    KeepsDefaults-made (g.H.Hash32.digest_of c.args.hash) c.defaults-below.result c.node_digest-root.result
    c.defaults-below.ensures c.node_digest-root.ensures
