use Rattle.std.proofs.Common.{◌≡◌, ℕ, ◌*◌, ◌<◌, length, slice_index}
use Rattle.sha2.specs.Sha256.{word_at}
use Rattle.lms_sign.proofs.blocks.hash_of.Given as goal

abbrev pub invariant-words : goal.invariant-words
invariant-words l = (length l.hash ≡ 8) × ((n : ℕ) → n < l.k → slice_index l.hash n ≡ word_at l.string (4 * n))
