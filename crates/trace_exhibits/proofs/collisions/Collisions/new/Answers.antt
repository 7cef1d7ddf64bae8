use Rattle.trace_exhibits.proofs.Added.{none-added, met-nothing}
use Rattle.trace_exhibits.proofs.collisions.Collisions.new.Goals as goal

pub returns-clause-none : goal.returns-clause-none
returns-clause-none g c =
    let dig = g.H.Hash32.digest_of c.args.h.now in
    record {
      strings = none-added dig c.new.result c.new-2.result c.new-2.ensures.empty;
      met = met-nothing dig c.new.result c.new.ensures;
    }
