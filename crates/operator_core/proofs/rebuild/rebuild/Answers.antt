use Rattle.operator_core.proofs.Words.{◌≡◌, [], List, take, option_map, refl, ◌∙◌, ap, sym, arith, unwrap_or, take_all, note_in, Forest, forest_of, forest_now, put_of, changed}
use Rattle.operator_core.proofs.Rebuilt.{forest-more}
use Rattle.operator_core.proofs.rebuild.rebuild.Goals as goal

pub records-init : goal.records-init
unfolding forest_of
records-init g c = rw c.new-pool.ensures (record {
  forest = ap (λ (sealed : List (List _)). record { pool = []; sealed = sealed }) c.in_ok-trees.ensures.none;
  pool_hash = refl;
  trees_hash = c.in_ok-trees.ensures.hash;
})

pub records-preserved : goal.records-preserved
records-preserved g c =
    let tag = unwrap_or c.args.tag [] in
    let more = forest-more tag c.args.records.now c.records.record-index c.record-item.result c.records-test.true
    c.record-item.is in
    let read = rw c.as_slice.ensures at c.change_in.ensures in
    record {
      forest = c.in_ok-apply.ensures.done
          ∙ ap (λ (o : _). changed o (forest_now c.records.pool c.records.trees)) read
          ∙ ap (λ (f : Forest). changed (option_map put_of
          (note_in tag c.record-item.result)) f) c.records.invariant.forest
          ∙ sym more;
      pool_hash = c.apply.ensures.pool_hash ∙ c.records.invariant.pool_hash;
      trees_hash = c.apply.ensures.trees_hash ∙ c.records.invariant.trees_hash;
    }

pub returns-clause-forest : goal.returns-clause-forest
returns-clause-forest g c =
    let all : take c.records.record-index c.args.records.now ≡ c.args.records.now =
    take_all c.records.record-index c.args.records.now (omega arith) in
    rw all at c.records.invariant.forest
