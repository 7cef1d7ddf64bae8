use Rattle.coin_history.proofs.HistoryGrow.{histories_stay, absences_stay}
use Rattle.coin_history.proofs.laws.histories_stay.Goals as goal

pub returns : goal.returns
returns c = record { links = histories_stay; absences = absences_stay }
