use Rattle.std.proofs.Common.{◌∙◌}
use Rattle.proof_archive.proofs.Whole.{broken-seen}
use Rattle.proof_archive.proofs.archive.Archive.broken.Goals as goal

pub returns : goal.returns
returns g c =
    rw (← c.self.view_is) (c.broken_in.ensures ∙ broken-seen (g.H.Hash32.digest_of c.self.inside.hash)
    c.self.inside.log c.self.inside.defaults c.self.inside.coins c.self.invariant c.args.coin)
