use Rattle.std.proofs.Common.{◌≡◌, ◌++◌, append_assoc, arith}
use Rattle.std.proofs.lemmas.List.{append-nil}
use Rattle.trace_exhibits.specs.Ways.{strings_below}
use Rattle.trace_exhibits.proofs.Strings.{strings_below-zero, strings_below-more, strings_below-all}
use Rattle.trace_exhibits.proofs.Added.{way-clashes}
use Rattle.trace_exhibits.proofs.collisions.add_way.Goals as goal

pub loop-level-init : goal.loop-level-init
loop-level-init g c = λ earlier keeps.
    let dig = g.H.Hash32.digest_of c.args.h.now in
    let way = c.args.way.now in
    rw (strings_below-zero dig way.coin way.leaf.now way.path, append-nil earlier) keeps

pub returns-in-Some : goal.returns-in-Some
returns-in-Some g c = λ earlier keeps.
    let dig = g.H.Hash32.digest_of c.args.h.now in
    let way = c.args.way.now in
    let below = strings_below dig way.coin way.leaf.now way.path c.loop-level.level in
    way-clashes dig earlier way.coin way.leaf.now way.path c.loop-level.level c.in-Some.clash (omega arith)
    (rw c.in-Some.is at (c.in_ok-clash.ensures (earlier ++ below) (c.loop-level.invariant earlier keeps)))

pub loop-level-preserved : goal.loop-level-preserved
loop-level-preserved g c = λ earlier keeps.
    let dig = g.H.Hash32.digest_of c.args.h.now in
    let way = c.args.way.now in
    let below = strings_below dig way.coin way.leaf.now way.path c.loop-level.level in
    rw (strings_below-more dig way.coin way.leaf.now way.path c.loop-level.level, ← append_assoc)
    (rw c.in_default.is at (c.in_ok-clash.ensures (earlier ++ below) (c.loop-level.invariant earlier keeps)))

pub returns : goal.returns
returns g c = λ earlier keeps.
    let dig = g.H.Hash32.digest_of c.args.h.now in
    let way = c.args.way.now in
    let top : c.loop-level.level ≡ 65 = omega arith in
    rw (← strings_below-all dig way.coin way.leaf.now way.path) (rw top at (c.loop-level.invariant earlier keeps))
