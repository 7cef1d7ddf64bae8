use Rattle.proof_archive.proofs.Held.{bundles_are_histories, tips_have_bundles}
use Rattle.proof_archive.proofs.laws.bundles_are_histories.Goals as goal

pub returns : goal.returns
returns c = record { bundles = bundles_are_histories; tips = tips_have_bundles }
