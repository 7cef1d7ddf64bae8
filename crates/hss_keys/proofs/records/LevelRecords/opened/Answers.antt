use Rattle.hss_keys.proofs.Words.{ap, arith, length, LevelRecordsState, leaf_count, leaf_count-le}
use Rattle.hss_keys.proofs.Form.{are_counted}
use Rattle.hss_keys.proofs.records.LevelRecords.opened.Goals as goal

pub overflow_cast-result : goal.overflow_cast-result
overflow_cast-result c =
    let inside = c.self.inside in
    let are = are_counted inside.seed inside.records.items c.self.invariant.are in
    omega (
      arith,
      c.len.ensures,
      inside.keys.ok,
      ap length c.self.invariant.keys_are,
      are.opened,
      leaf_count-le inside.seed.top,
    )

pub returns-clause-within : goal.returns-clause-within
returns-clause-within c =
    let inside = c.self.inside in
    let are = are_counted inside.seed inside.records.items c.self.invariant.are in
    let same = ap (λ (s : LevelRecordsState). leaf_count s.seed.top) c.self.view_is in
    omega (arith, c.len.ensures, inside.keys.ok, ap length c.self.invariant.keys_are, are.opened, same)
