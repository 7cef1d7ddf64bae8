use Rattle.hss_keys.proofs.Words.{◌-◌, ap, arith, entries_of, opened_count, LevelRecordsState, leaf_count}
use Rattle.hss_keys.proofs.Form.{are_counted}
use Rattle.hss_keys.proofs.records.LevelRecords.used.Goals as goal

pub returns-clause-within : goal.returns-clause-within
returns-clause-within c =
    let inside = c.self.inside in
    let entries = entries_of inside.records.items in
    let are = are_counted inside.seed inside.records.items c.self.invariant.are in
    let same = ap (λ (s : LevelRecordsState). leaf_count s.seed.bottom) c.self.view_is in
    omega (arith, c.self.invariant.used_is, are.each (opened_count entries - 1), same)
