use Rattle.world_laws.proofs.SignedRuns.{given_out_is_bound, leaves_sign_one_message}
use Rattle.world_laws.proofs.signed_laws.leaves_sign_one_message.Goals as goal

pub returns : goal.returns
returns c = record { bound = given_out_is_bound; one = leaves_sign_one_message }
