use Rattle.coin_history.proofs.HistoryRefusals.{readers_refusals, histories_refusals, absences_refusals}
use Rattle.coin_history.proofs.laws.refusals_are_their_own.Goals as goal

pub returns : goal.returns
returns c = record { reader = readers_refusals; history = histories_refusals; absence = absences_refusals }
