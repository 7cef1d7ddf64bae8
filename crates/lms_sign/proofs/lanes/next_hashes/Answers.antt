use Rattle.std.proofs.Common.{◌≡◌, ℕ, ◌∙◌, inl, inr, List, ap, arith}
use Rattle.std.proofs.lemmas.Bool.{cases_lt}
use Rattle.sha2.specs.Sha256.{digest_bytes}
use Rattle.lms_sign.specs.OneTime.{chain_step}
use Rattle.lms_sign.specs.Lanes.{step_block}
use Rattle.lms_sign.proofs.BlockFacts.{length-digest_bytes, step_block-begins, step_block-digest}
use Rattle.lms_sign.proofs.lanes.next_hashes.Goals as goal

pub lanes-preserved : goal.lanes-preserved
lanes-preserved c =
    let k = c.lanes.k in
    let bytes : List ℕ → List ℕ = λ h. digest_bytes h 8 in
    let string = bytes c.lane_hash.result in
    record {
      taken = λ n below. elim (cases_lt n k) [
        | inl earlier ↦
            rw (c.set_lane.ensures.kept n (omega arith)) (c.lanes.invariant.taken n earlier)
        | inr last ↦
            let same : n ≡ k = omega arith in
            rw same (λ id q i j of_id begun of_mark small place.
            let block = step_block id q i j string in
            ap bytes (c.set_lane.ensures.value
            ∙ c.first_hash.ensures block (c.step_words-words.ensures id q i j of_id begun.0 of_mark small place)
            (begun.1 block (step_block-begins id q i j string of_id)))
            ∙ step_block-digest id q i j string of_id (length-digest_bytes c.lane_hash.result)
            ∙ ap (λ (h : List ℕ). chain_step id q i j (bytes h))
            (c.lane_hash.ensures ∙ c.lanes.invariant.kept k (omega arith)))
      ];
      kept = λ n from. c.set_lane.ensures.kept n (omega arith) ∙ c.lanes.invariant.kept n (omega arith);
    }

pub returns : goal.returns
returns c = λ id q k i j of_id begun below of_mark small place.
    c.lanes.invariant.taken k (omega arith) id q i j of_id begun of_mark small place
