use Rattle.std.proofs.Common.{◌∙◌, Some}
use Rattle.trace_exhibits.proofs.Found.{met-finds}
use Rattle.trace_exhibits.proofs.collisions.Collisions.take.Goals as goal

pub returns-in-Some-clause-finds : goal.returns-in-Some-clause-finds
returns-in-Some-clause-finds g c earlier finds =
    met-finds (g.H.Hash32.digest_of c.args.h.now) earlier c.args.self.now c.in-Some.field-0 c.args.one.now
    (c.in-Some.ensures ∙ (λ i. Some (record { coin = c.coin.ensures i; opening = c.opening.ensures i }))) finds
