use Rattle.plasma_tx.proofs.Accepted.{accepted_calls_show as calls_show}
use Rattle.plasma_tx.proofs.Acceptance.{shown_calls_are_accepted}
use Rattle.plasma_tx.proofs.rule_laws.accepted_calls_show.Goals as goal

pub returns : goal.returns
returns c = record { shows = calls_show; accepted = shown_calls_are_accepted }
