use Rattle.proof_archive.proofs.CellLaws.{whole-grown}
use Rattle.proof_archive.proofs.archive.Archive.follow.Goals as goal

pub invariant_of-self : goal.invariant_of-self
invariant_of-self g c = rw c.in_err-push.ensures.err c.self.invariant

pub invariant_of-self-2 : goal.invariant_of-self-2
invariant_of-self-2 g c =
    rw c.in_ok-push.ensures.ok (whole-grown (g.H.Hash32.digest_of c.self.inside.hash) c.self.inside.log c.args.call
    c.self.inside.defaults c.self.inside.coins c.self.invariant)
