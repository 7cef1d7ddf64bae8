-- The test of a two-level signature, as words.
use Rattle.std.specs.Prelude.{ℕ, ◌==◌, ◌&&◌, Bool, if◌then◌else◌, List, [], ◌∷◌, ◌++◌, length, codes}
use Rattle.run_endings.specs.declared.status.Status.TheVariants.{Done}
use Rattle.run_endings.specs.Outputs.{Output}
use Rattle.hss_keys.specs.Keys.{is_hss_valid}

-- the key has 60 bytes, and the signature of the message is valid under it (RFC 8554, section 6.3)
unfoldable pub is_hss_verified : List ℕ → List ℕ → List ℕ → Bool
is_hss_verified key message signature = (length key == 60) && is_hss_valid key message signature

-- one word
abbrev pub verdict_output : Bool → Output
verdict_output verified = record {
  status = Done;
  answers = [];
  last = (if verified then codes "valid" else codes "invalid") ++ 10 ∷ [];
}
