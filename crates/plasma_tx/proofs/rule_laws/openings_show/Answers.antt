use Rattle.plasma_tx.proofs.Accepted.{openings_show as openings_are_opened}
use Rattle.plasma_tx.proofs.Acceptance.{transfers_are_shown}
use Rattle.plasma_tx.proofs.rule_laws.openings_show.Goals as goal

pub returns : goal.returns
returns c = record { opened = openings_are_opened; shown = transfers_are_shown }
