-- What is read of the records that a stopped order left.
use Rattle.std.specs.Prelude.{ℕ, ◌==◌, if◌then◌else◌, nat_lt, List, length, drop, slice_range, Option, None, unwrap_or}
use Rattle.std.specs.Int.{w32}
use Rattle.std.specs.Result.{result_ok}
use Rattle.plasma_base.specs.Fields.{field_at}
use Rattle.plasma_tx.specs.{declared.body.Body.{Body}, Spelling.{body_in}}

-- the body that bytes begin with, whatever its tag is
abbrev pub body_found : List ℕ → Option Body
body_found bytes = if nat_lt (length bytes) 36 then None else result_ok (body_in (slice_range bytes 4 36) bytes)

-- the message of a leaf's record: all of it where it has 116 bytes, or else what follows its number
abbrev pub message_in : List ℕ → List ℕ
message_in bytes = if length bytes == 116 then bytes else drop 4 bytes

-- the leaf that a wallet's note takes back
abbrev pub leaf_at_end : List ℕ → ℕ
leaf_at_end bytes = unwrap_or (field_at w32 bytes 17) 0
