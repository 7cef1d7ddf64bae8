use Rattle.std.proofs.Common.{rules, ◌≡◌, ℕ, ◌+◌, ◌∙◌, inl, inr, List, [], ap, arith, refl, slice_index_or, sym}
use Rattle.std.proofs.lemmas.Bool.{cases_lt}
use Rattle.sha2.specs.Sha256.{digest_bytes}
use Rattle.lms_sign.specs.Lanes.{lane_hash}
use Rattle.lms_sign.specs.OneTime.{chain_step, chain_value}
use Rattle.lms_sign.proofs.Lists.{chain_value-last, chain_value-none, set_next}
use Rattle.lms_sign.proofs.blocks.strings_after.Goals as goal

pub load-preserved : goal.load-preserved
load-preserved c = λ n below.
    let bytes : List ℕ → List ℕ = λ h. digest_bytes h 8 in
    elim (cases_lt n c.load.k) [
      | inl earlier ↦ ap bytes (c.set_lane.ensures.kept n (omega arith)) ∙ c.load.invariant n earlier
      | inr last ↦
          let same : n ≡ c.load.k = omega arith in
          rw same (ap bytes c.set_lane.ensures.value ∙ c.hash_of.ensures)
    ]

pub steps-init : goal.steps-init
steps-init c = λ n below id q i j of_id begun of_mark small fits.
    c.load.invariant n (omega arith) ∙ sym (chain_value-none id q i j 0 (slice_index_or c.args.strings.now n []) refl)

pub steps-preserved : goal.steps-preserved
steps-preserved c = λ n below id q i j of_id begun of_mark small fits.
    let string = slice_index_or c.args.strings.now n [] in
    c.next_hashes.ensures id q n i (j + c.steps.step) of_id begun below (omega arith) small (omega arith)
    ∙ ap (chain_step id q i (j + c.steps.step)) (c.steps.invariant n below id q i j of_id begun of_mark small fits)
    ∙ sym (chain_value-last id q i j c.steps.step string)

pub store-preserved : goal.store-preserved
store-preserved c = (
  search rules,
  set_next (λ n. digest_bytes (lane_hash c.steps.rows n) 8) c.store.ends c.store.k c.digest.result [] (omega arith)
      (c.digest.ensures ∙ ap (λ (h : List ℕ). digest_bytes h 8) c.lane_hash.ensures) c.store.invariant.1,
)

pub returns : goal.returns
returns c = λ id q k i j of_id begun below of_mark small fits.
    let string = slice_index_or c.args.strings.now k [] in
    let done : c.steps.step ≡ c.args.count = omega arith in
    c.store.invariant.1 k (omega arith) ∙ c.steps.invariant k below id q i j of_id begun of_mark small fits
    ∙ ap (λ (n : ℕ). chain_value id q i j n string) done
