use Rattle.std.proofs.Common.{◌∙◌, sym}
use Rattle.sparse_merkle.specs.Opening.{hashed_string}
use Rattle.trace_exhibits.proofs.Clashes.{new-string, met-string}
use Rattle.trace_exhibits.proofs.collisions.add_string.Goals as goal

pub returns-in_ok-insert-in-None : goal.returns-in_ok-insert-in-None
returns-in_ok-insert-in-None g c = λ earlier keeps.
    let dig = g.H.Hash32.digest_of c.args.h.now in
    let way = c.args.way.now in
    let met = c.args.met.now in
    let made = c.requires.digests c.args.level c.requires.within in
    new-string dig met c.args.strings.now earlier c.insert.new.self
    (hashed_string dig way.coin way.leaf.now way.path c.args.level) c.string_at-string.result keeps
    (sym (rw made at (c.in-None.ensures ∙ c.get.ensures.value)))
    (rw made at c.in_ok-insert-in-None.ensures.updates) (c.string_at-string.ensures.bytes met c.requires.leaf)
    (c.string_at-string.ensures.kept met c.requires.place)

pub returns-in-Some : goal.returns-in-Some
returns-in-Some g c = λ earlier keeps.
    let dig = g.H.Hash32.digest_of c.args.h.now in
    let way = c.args.way.now in
    let met = c.args.met.now in
    let made = c.requires.digests c.args.level c.requires.within in
    met-string dig met c.args.strings.now earlier
    (hashed_string dig way.coin way.leaf.now way.path c.args.level)
    c.in-Some.first c.clash_of.result keeps (sym (rw made at (c.in-Some.ensures ∙ c.get.ensures.value)))
    (rw (c.string_at-string.ensures.bytes met c.requires.leaf) at c.clash_of.ensures)
