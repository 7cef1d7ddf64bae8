-- The toy digest of tests. A byte string is cut from its end into groups of eight bytes, of which the first may be
-- shorter. Each is read as a number, the highest byte first, and the numbers are added modulo 2^61 - 1.
use Rattle.std.specs.Prelude.{◌≡◌, refl, ℕ, ◌+◌, ◌*◌, ◌^◌, ◌%◌, List, [], ◌∷◌, ◌++◌, length, replicate}
use Rattle.std.specs.Int.{w64, to_be_bytes}
use Rattle.plasma_base.specs.declared.TheConstants.{TOY_MODULUS}

-- the sum of the groups, where so many bytes follow: a byte before n others counts 256 ^ (n modulo 8) times
unfoldable pub group_sum : ℕ → List ℕ → ℕ
group_sum after [] = 0
group_sum after (byte ∷ bytes) = byte * 256 ^ ((length bytes + after) % 8) + group_sum after bytes

-- 24 zero bytes, and the number as 8 bytes
unfoldable pub toy_text : ℕ → List ℕ
toy_text number = replicate 24 0 ++ to_be_bytes w64 number

-- the digest: the sum of all groups
abbrev pub toy_digest : List ℕ → List ℕ
toy_digest bytes = toy_text (group_sum 0 bytes % TOY_MODULUS)

pub length-toy_digest : (bytes : List ℕ) → length (toy_digest bytes) ≡ 32
unfolding toy_text
length-toy_digest bytes = refl
