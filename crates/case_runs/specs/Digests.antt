use Rattle.std.specs.Prelude.{◌≡◌, ◌<◌, ℕ, List, Bool, true, false, cond, length}
use Rattle.std.specs.List.{All}
use Rattle.sha2.specs.Sha256.{sha256}
use Rattle.sha2.proofs.Facts256.{length-sha256}
use Rattle.plasma_base.specs.DigestBytes.{small-sha256, small-toy_digest}
use Rattle.plasma_base.specs.Toy.{toy_digest, length-toy_digest}

-- the digest that a case chooses, SHA-256 or the toy digest, has 32 bytes
pub length-chosen : (is_toy : Bool) (bytes : List ℕ) → length (cond is_toy (toy_digest bytes) (sha256 bytes)) ≡ 32
length-chosen true bytes = length-toy_digest bytes
length-chosen false bytes = length-sha256 bytes

-- its numbers are bytes
pub bytes-chosen : (is_toy : Bool) (bytes : List ℕ)
    → All (λ byte. byte < 256) (cond is_toy (toy_digest bytes) (sha256 bytes))
bytes-chosen true bytes = (small-toy_digest bytes).are
bytes-chosen false bytes = (small-sha256 bytes).are
