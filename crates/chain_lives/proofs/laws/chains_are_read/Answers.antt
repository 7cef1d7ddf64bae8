use Rattle.chain_lives.proofs.Samples.{received_watched_sent, power_is_lost, hasty_is_wrong}
use Rattle.chain_lives.proofs.laws.chains_are_read.Goals as goal

pub returns : goal.returns
returns c = record { sent = received_watched_sent; lost = power_is_lost; hasty = hasty_is_wrong }
