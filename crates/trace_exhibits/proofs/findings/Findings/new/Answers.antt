use Rattle.std.proofs.Common.{ℕ, List, sym, subst}
use Rattle.trace_exhibits.specs.Findings.{FindsClash}
use Rattle.trace_exhibits.proofs.Lined.{no-strings}
use Rattle.trace_exhibits.proofs.findings.Findings.new.Goals as goal

pub returns-clause-none : goal.returns-clause-none
returns-clause-none g c tag =
    let dig = g.H.Hash32.digest_of c.args.h.now in
    record {
      clash =
          subst (λ (all : List (List ℕ)). FindsClash dig all c.new.result) (sym (no-strings dig)) c.new.ensures.none;
      forgery = λ none. c.new-2.ensures tag c.new.result.met;
    }
