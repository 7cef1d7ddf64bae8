use Rattle.operator_rules.proofs.Made.{bundles_are_histories, present_bundles_are_histories}
use Rattle.operator_rules.proofs.laws.bundles_are_histories.Goals as goal

pub returns : goal.returns
returns c = record { passed = bundles_are_histories; present = present_bundles_are_histories }
