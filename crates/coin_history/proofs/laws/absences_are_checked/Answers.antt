use Rattle.coin_history.proofs.HistoryAbsent.{absences_are_found, absences_pass}
use Rattle.coin_history.proofs.laws.absences_are_checked.Goals as goal

pub returns : goal.returns
returns c = record { found = absences_are_found; pass = absences_pass }
