use Rattle.std.proofs.Common.{ℕ, [], ◌∷◌, slice_index, subst, sym}
use Rattle.sha2.specs.Sha256.{digest_bytes}
use Rattle.lms_sign.specs.Lanes.{HasWords, step_block}
use Rattle.lms_sign.proofs.BlockFacts.{step_block-words}
use Rattle.lms_sign.proofs.lanes.step_words.Goals as goal

pub returns : goal.returns
returns c = λ id q i j of_id of_leaf of_mark small place.
    let leaf : ℕ → ℕ = slice_index c.args.leaf.now in
    subst (HasWords (step_block id q i j (digest_bytes c.args.string 8))) (λ n. leaf 0 ∷ leaf 1 ∷ leaf 2 ∷ leaf 3
    ∷ leaf 4 ∷ sym c.across.ensures n ∷ sym c.across-2.ensures n ∷ sym c.across-3.ensures n ∷ sym c.across-4.ensures n
    ∷ sym c.across-5.ensures n ∷ sym c.across-6.ensures n ∷ sym c.across-7.ensures n ∷ sym c.across-8.ensures n
    ∷ sym c.across-9.ensures n ∷ 0 ∷ 440 ∷ [])
    (step_block-words id c.args.leaf.now c.args.string q i j c.args.mark of_id of_leaf of_mark small place)
