use Rattle.std.proofs.Common.{◌++◌, ℕ, List, ◌∙◌, sym, subst}
use Rattle.std.specs.Prelude.{IfOk}
use Rattle.std.proofs.lemmas.List.{append-nil}
use Rattle.trace_exhibits.specs.Strings.{KeepsStrings, IsAdded}
use Rattle.trace_exhibits.proofs.collisions.add_strings.Goals as goal

pub returns-in-None : goal.returns-in-None
returns-in-None g c = λ earlier keeps.
    let none = rw c.in-None.is at c.in_ok-way_of.ensures in
    subst (λ (all : List (List ℕ)). KeepsStrings (g.H.Hash32.digest_of c.args.h.now) c.args.met.now
    c.args.strings.now (earlier ++ all))
    (sym none) (rw (append-nil earlier) keeps)

pub returns-in-Some : goal.returns-in-Some
returns-in-Some g c = λ earlier keeps.
    let made = rw c.in-Some.is at c.in_ok-way_of.ensures in
    subst (λ (all : List (List ℕ)). IfOk c.add_way.result (IsAdded (g.H.Hash32.digest_of c.args.h.now) c.args.met.now
    c.add_way.new.strings (earlier ++ all))) (sym made.0) (c.add_way.ensures earlier keeps)

pub add_way-requires-clause-leaf : goal.add_way-requires-clause-leaf
add_way-requires-clause-leaf g c =
    let made = rw c.in-Some.is at c.in_ok-way_of.ensures in c.requires.leaf ∙ sym made.2

pub add_way-requires-clause-digests : goal.add_way-requires-clause-digests
add_way-requires-clause-digests g c =
    let made = rw c.in-Some.is at c.in_ok-way_of.ensures in made.1
