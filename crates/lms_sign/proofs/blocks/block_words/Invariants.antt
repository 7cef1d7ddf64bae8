use Rattle.std.proofs.Common.{◌≡◌, ℕ, ◌*◌, ◌<◌, length, slice_index}
use Rattle.sha2.specs.Sha256.{word_at}
use Rattle.lms_sign.proofs.blocks.block_words.Given as goal

abbrev pub invariant-load : goal.invariant-load
invariant-load l = (length l.words ≡ 16) × ((n : ℕ) → n < l.k → slice_index l.words n ≡ word_at l.block (4 * n))
