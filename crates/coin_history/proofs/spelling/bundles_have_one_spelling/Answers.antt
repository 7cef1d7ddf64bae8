use Rattle.coin_history.proofs.BundleLaws.{bundle_in-text, text-bundle_in}
use Rattle.coin_history.proofs.spelling.bundles_have_one_spelling.Goals as goal

pub returns : goal.returns
returns c = record { read_back = bundle_in-text; one = text-bundle_in }
