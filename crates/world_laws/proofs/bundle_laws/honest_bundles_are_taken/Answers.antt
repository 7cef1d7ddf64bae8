use Rattle.world_laws.proofs.BundlesTaken.{honest_bundles_are_taken}
use Rattle.world_laws.proofs.bundle_laws.honest_bundles_are_taken.Goals as goal

pub returns : goal.returns
returns c = honest_bundles_are_taken
