use Rattle.std.proofs.Common.{◌≡◌, ◌++◌, ℕ, List, take}
use Rattle.trace_exhibits.specs.Ways.{strings_in_all}
use Rattle.trace_exhibits.specs.Met.{AreStill}
use Rattle.trace_exhibits.specs.Findings.{FindsClash}
use Rattle.trace_exhibits.proofs.collisions.Collisions.take_all.Given as goal

abbrev pub invariant-loop-one : goal.invariant-loop-one
invariant-loop-one g l =
    let dig = g.H.Hash32.digest_of l.h in
    record {
      stay : l.self.defaults ≡ l.fn.self.defaults;
      still : AreStill l.fn.self.met l.self.met;
      finds : (earlier : List (List ℕ)) → FindsClash dig earlier l.fn.self
          → FindsClash dig (earlier ++ strings_in_all dig (take l.one-index l.shown)) l.self;
    }
