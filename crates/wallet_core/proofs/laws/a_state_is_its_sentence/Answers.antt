use Rattle.wallet_core.proofs.StateLaws.{sending_is, leaving_is, held_is, nothing_is}
use Rattle.wallet_core.proofs.laws.a_state_is_its_sentence.Goals as goal

pub returns : goal.returns
returns c = record { sending = sending_is; leaving = leaving_is; held = held_is; nothing = nothing_is }
