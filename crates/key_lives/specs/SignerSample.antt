-- A small life of a two-level signer: an init, a signing that a device fault stops, a crash, and one that signs. So the
-- laws don't hold for want of a life.
use Rattle.std.specs.Prelude.{ℕ, List, [], ◌∷◌, replicate, codes}
use Rattle.run_endings.specs.Texts.{device_fault_text}
use Rattle.run_endings.specs.declared.status.Status.TheVariants.{Done, DeviceFault}
use Rattle.hss_keys.specs.declared.seed.HssSeed.{HssSeed}
use Rattle.hss_keys.specs.Levels.{bound_of}
use Rattle.hss_runs.specs.Identity.{signer_seed}
use Rattle.hss_runs.specs.Signing.{signed_text}
use Rattle.node_lives.specs.Calls.{ToSign}
use Rattle.node_lives.specs.Lives.{IsLife}
use Rattle.node_lives.specs.Samples.{told, foretold, met, DriveCall, Went}
use Rattle.key_lives.specs.Signers.{SignsBy}
use Rattle.key_lives.specs.SignerLaws.{BeginsSigner}

-- a seed of zeros, the key that is made of it, and a message
abbrev pub seed : List ℕ
seed = replicate 32 0

abbrev pub key : HssSeed
key = signer_seed seed

abbrev pub message : List ℕ
message = codes "M"

-- Under a digest: the first signing meets a fault as it opens a bottom key, and a crash leaves no record of it. The second
-- one opens the key, and signs by its first leaf.
pub record SmallSignerLife (dig : List ℕ → List ℕ) : Type 0 where
  pub begun : DriveCall dig
  pub faulted : DriveCall dig
  pub signed : DriveCall dig
  pub life : IsLife told foretold met dig (signed ∷ faulted ∷ begun ∷ [])
  pub begins : BeginsSigner told foretold met dig begun
  pub faulted_is : Went dig (ToSign message) DeviceFault device_fault_text faulted
  pub signed_is : Went dig (ToSign message) Done (signed_text key 0 0 message) signed
  pub signs : SignsBy told foretold met dig signed (bound_of key 0 0 message)
