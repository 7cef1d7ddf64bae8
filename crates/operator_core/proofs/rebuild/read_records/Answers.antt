use Rattle.operator_core.proofs.Words.{◌≡◌, List, ℕ, drop, ◌∙◌, ap, notes_of, Identity, Forest, forest_of, forest_in, forest_now, notes_among}
use Rattle.operator_core.proofs.rebuild.read_records.Goals as goal

pub returns : goal.returns
unfolding notes_of
returns g c =
    let forest : forest_now c.in_ok-pool.pool c.in_ok-pool.trees ≡ forest_in c.args.records.now =
    c.in_ok-pool.ensures.forest
    ∙ ap (λ (notes : List (List ℕ)). forest_of (notes_among c.who_is-who.result.tag notes)) c.notes_in.ensures
    ∙ ap (λ (who : Identity). forest_of (notes_among who.tag (drop 1 c.args.records.now))) c.who_is-who.ensures in
    record {
      who_is = c.who_is-who.ensures;
      pool_is = ap (λ (f : Forest). f.pool) forest;
      sealed_is = ap (λ (f : Forest). f.sealed) forest;
      pool_hash = c.in_ok-pool.ensures.pool_hash;
      trees_hash = c.in_ok-pool.ensures.trees_hash;
      fits = c.requires.fits;
    }
