-- The worked chains, computed.
use Rattle.std.proofs.Common.{refl}
use Rattle.plasma_tx.specs.Views.{now, blocks, coins, coin_at, responses, exits, exit_at, is_withdrawn}
use Rattle.world_rules.specs.Events.{log_of, wallet_owner, accepted, bound_by, taken_back, not_taken, guarded_by}
use Rattle.world_rules.specs.Safety.{holds}
use Rattle.world_laws.specs.Looked.{has_look, is_looked_after}
use Rattle.chain_lives.specs.Steps.{answered_events, events_behind}
use Rattle.chain_lives.specs.Samples.{ReceivedWatchedSent, PowerIsLost, HastyIsWrong}

pub received_watched_sent : ReceivedWatchedSent
unfolding answered_events events_behind is_looked_after has_look guarded_by holds log_of wallet_owner accepted bound_by
    taken_back not_taken now blocks coins coin_at responses exits exit_at is_withdrawn
received_watched_sent = record {
  events = refl;
  before = refl;
  received = refl;
  unwatched = refl;
  unfulfilled = refl;
  challenged = refl;
  sent = refl;
}

pub power_is_lost : PowerIsLost
unfolding answered_events events_behind is_looked_after has_look guarded_by holds log_of wallet_owner accepted bound_by
    taken_back not_taken now blocks coins coin_at responses exits exit_at is_withdrawn
power_is_lost = record {
  send_stands = refl;
  send_is_gone = refl;
  accept_stands = refl;
  accept_is_gone = refl;
  watch_is_none = refl;
  events = refl;
}

pub hasty_is_wrong : HastyIsWrong
unfolding answered_events events_behind is_looked_after has_look guarded_by holds log_of wallet_owner accepted bound_by
    taken_back not_taken now blocks coins coin_at responses exits exit_at is_withdrawn
hasty_is_wrong = record {
  accepted = refl;
  signed = refl;
  watched = refl;
}
