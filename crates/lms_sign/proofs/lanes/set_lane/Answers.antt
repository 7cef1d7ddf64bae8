use Rattle.std.proofs.Common.{rules, ◌≡◌, ℕ, ◌∙◌, List, [], ap, arith, length, length-set, slice_index}
use Rattle.std.proofs.lemmas.List.{ext_get_or, length-map, map-set}
use Rattle.std.proofs.Math.Seq.{map-set_same}
use Rattle.lms_sign.specs.Lanes.{lane_hash}
use Rattle.lms_sign.proofs.Lists.{set_next}
use Rattle.lms_sign.proofs.lanes.set_lane.Goals as goal

pub words-preserved : goal.words-preserved
words-preserved c =
    let rows = c.words.rows in
    let row = c.set_word.new.row in
    let i = c.words.i in
    let k = c.args.k in
    let at : ℕ → List ℕ → ℕ = λ n r. slice_index r n in
    record {
      long = length-set rows i row ∙ c.words.invariant.long;
      value = λ n below. ap (λ (h : List ℕ). slice_index h n) (map-set (at k) rows i row)
          ∙ set_next (slice_index c.args.hash) (lane_hash rows k) i (slice_index row k) 0
          (omega (arith, length-map rows (at k), c.words.invariant.long)) c.set_word.ensures.value
          c.words.invariant.value n below;
      kept = λ n other. map-set_same (at n) rows i row [] (c.set_word.ensures.kept n other)
          ∙ c.words.invariant.kept n other;
    }

pub returns-clause-value : goal.returns-clause-value
returns-clause-value c =
    let lane = lane_hash c.words.rows c.args.k in
    let wide : length c.args.hash ≡ 8 = search rules in
    let long : length lane ≡ 8 = length-map c.words.rows (λ row. slice_index row c.args.k) ∙ c.words.invariant.long in
    ext_get_or 0 lane c.args.hash (omega arith) (λ n below. c.words.invariant.value n (omega arith))
