use Rattle.proof_archive.proofs.Words.{ap, Chain}
use Rattle.proof_archive.proofs.CellLaws.{whole-none}
use Rattle.proof_archive.proofs.archive.Archive.make.Goals as goal

pub invariant_of-result : goal.invariant_of-result
invariant_of-result g c =
    whole-none (g.H.Hash32.digest_of c.args.h) c.make.result c.defaults-defaults.result c.new.result
    c.defaults-defaults.ensures c.new.ensures.empty (ap (λ (x : Chain). x.log) c.make.ensures)
