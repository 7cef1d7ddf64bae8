use Rattle.std.proofs.Common.{◌≡◌, ◌∙◌, ℕ, List, [], ◌∷◌, ◌++◌, sym, ap, subst}
use Rattle.trace_exhibits.specs.Opened.{Opened}
use Rattle.trace_exhibits.specs.Ways.{strings_in_shown}
use Rattle.trace_exhibits.specs.Met.{KeepsMet}
use Rattle.trace_exhibits.specs.Strings.{KeepsStrings}
use Rattle.trace_exhibits.specs.declared.collisions.Collisions.{Collisions}
use Rattle.trace_exhibits.proofs.Clashes.{strings-stay}
use Rattle.trace_exhibits.proofs.Added.{met-added}
use Rattle.trace_exhibits.proofs.Found.{open-kept, added-finds}
use Rattle.trace_exhibits.proofs.collisions.Collisions.add.Goals as goal

pub returns-clause-finds : goal.returns-clause-finds
returns-clause-finds g c earlier finds =
    let dig = g.H.Hash32.digest_of c.args.h.now in
    let one = c.args.one.now in
    let old = c.args.self.now in
    let all = earlier ++ strings_in_shown dig one in
    let kept = open-kept dig earlier old c.requires.open finds in
    let new : Collisions = record {
      alloc = old.alloc;
      defaults = old.defaults;
      met = c.add.new.self;
      strings = c.add_strings.new.strings;
      found = c.in_ok-found.found;
    } in
    let opening = c.in_ok-opening.ensures ∙ c.opening.ensures in
    let same : c.add.new.self ≡ old.met ++ one ∷ [] =
    c.in_ok-place.ensures.added
    ∙ (λ i. old.met ++ record { coin = c.coin.ensures i; opening = opening i } ∷ []) in
    added-finds dig all new
    (c.in_ok-found.ensures earlier (subst (λ (m : List Opened). KeepsStrings dig m old.strings earlier) (sym same)
    (strings-stay dig old.met one old.strings earlier kept.strings)))
    (subst (λ (m : List Opened). KeepsMet dig m all) (sym same) (met-added dig old.met earlier one kept.met))
