use Rattle.operator_core.proofs.Words.{◌≡◌, [], take, unwrap_or, forest_of, forest_now, notes_among}
use Rattle.operator_core.proofs.rebuild.rebuild.Given as goal

abbrev pub invariant-records : goal.invariant-records
invariant-records g l = record {
  forest : forest_now l.pool l.trees ≡ forest_of (notes_among (unwrap_or l.tag []) (take l.record-index l.records));
  pool_hash : l.pool.hash ≡ l.fn.h;
  trees_hash : l.trees.hash ≡ l.fn.h;
}
