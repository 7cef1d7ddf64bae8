use Rattle.hss_keys.proofs.Words.{refl, ap, arith, leaf_count, HssSeed}
use Rattle.hss_keys.proofs.Form.{none_are}
use Rattle.hss_keys.proofs.records.LevelRecords.new.Goals as goal

pub invariant_of-result : goal.invariant_of-result
invariant_of-result c =
    let room = ap (λ (s : HssSeed). leaf_count s.top) c.seed.ensures.value in
    record {
      top = rw c.seed.ensures.value c.seed.ensures.top;
      bottom = rw c.seed.ensures.value c.seed.ensures.bottom;
      id = rw c.seed.ensures.value c.seed.ensures.id;
      are = rw c.new.ensures.items (none_are c.seed.result.now);
      keys_are = rw (c.in_ok-keys.ensures.items, c.new.ensures.items) refl;
      used_is = rw c.new.ensures.items refl;
      keys_room = omega (arith, room, c.in_ok-keys.ensures.exact, c.top_leaves.ensures);
    }
