use Rattle.coin_safety.proofs.Words.{◌<◌, ◌-◌, length, arith, nat_cmp, get}
use Rattle.coin_safety.proofs.Indexes.{places-more}
use Rattle.coin_safety.proofs.index.places.Goals as goal

pub loop-place-preserved : goal.loop-place-preserved
loop-place-preserved c =
    let u = c.loop-place.place in
    let within : u - 1 < length c.args.exits.now = omega (arith, c.loop-place-test.true, c.loop-place.auto.place) in
    places-more c.args.exits.now u c.index-exits-place.result (get nat_cmp c.loop-place.places)
    (get nat_cmp c.insert.new.self) within c.loop-place-test.true c.index-exits-place.is
    c.in_ok-insert.ensures.updates.0 c.loop-place.invariant
