use Rattle.std.proofs.Common.{sym, ◌∙◌}
use Rattle.proof_archive.proofs.Whole.{tip-unseen, tip-seen}
use Rattle.proof_archive.proofs.archive.Archive.tip.Goals as goal

pub returns-in-Some : goal.returns-in-Some
returns-in-Some g c =
    rw (← c.self.view_is) (tip-seen (g.H.Hash32.digest_of c.self.inside.hash) c.self.inside.log c.self.inside.defaults
    c.self.inside.coins c.self.invariant c.args.coin c.in-Some.made (sym c.coin.ensures ∙ c.in-Some.is)
    c.tip_in.result c.tip_in.ensures)

pub returns-in-None : goal.returns-in-None
returns-in-None g c =
    rw (← c.self.view_is) (tip-unseen (g.H.Hash32.digest_of c.self.inside.hash) c.self.inside.log
    c.self.inside.defaults c.self.inside.coins c.self.invariant c.args.coin (sym c.coin.ensures ∙ c.in-None.is))
