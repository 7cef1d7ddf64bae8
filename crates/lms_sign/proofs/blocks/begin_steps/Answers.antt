use Rattle.std.proofs.Common.{arith, refl, ◌≡◌, ℕ, ◌∙◌, [], ◌∷◌, slice_index, sym}
use Rattle.lms_sign.proofs.BeginFacts.{same_begun, same_word}
use Rattle.lms_sign.proofs.BlockFacts.{below_five}
use Rattle.lms_sign.proofs.blocks.begin_steps.Goals as goal

pub returns : goal.returns
returns c =
    let first = c.leaf_block.result in
    let words = c.block_words-words.ensures in
    let w : ℕ → ℕ = slice_index c.block_words-words.result in (
      λ block begins k below.
          below_five (λ (t : ℕ). slice_index (w 0 ∷ w 1 ∷ w 2 ∷ w 3 ∷ w 4 ∷ []) t ≡ w t) refl refl refl refl refl k
          below
          ∙ words.1 k (omega arith)
          ∙ same_word first block k below (c.leaf_block.ensures ∙ sym begins),
      λ block begins. c.first_five_rounds.ensures first words
          ∙ same_begun first block (c.leaf_block.ensures ∙ sym begins),
    )
