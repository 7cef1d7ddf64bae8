-- What the verdicts of the program say.
use Rattle.std.specs.Prelude.{◌≡◌, ℕ, Bool, true, false, ◌&&◌, ◌==◌, List, length}
use Rattle.lms_sign.specs.Types.{is_supported}
use Rattle.lms_sign.specs.Valid.{is_valid, types_of}
use Rattle.verify_example.specs.declared.Verdict.{Verdict}
use Rattle.verify_example.specs.declared.Verdict.TheVariants.{Valid, Invalid, NoKey}

-- the bytes are a key: there are 56, and their types are a pair that is supported
abbrev pub is_key : List ℕ → Bool
is_key bytes = (length bytes == 56) && is_supported (types_of bytes)

-- what a verdict says of a key, a message and a signature
abbrev pub Says : Verdict → List ℕ → List ℕ → List ℕ → Type 0
Says Valid key message signature = is_valid key message signature ≡ true
Says Invalid key message signature = (is_key key ≡ true) × (is_valid key message signature ≡ false)
Says NoKey key message signature = is_key key ≡ false
