use Rattle.coin_history.proofs.HistoryFound.{histories_are_found, histories_pass}
use Rattle.coin_history.proofs.laws.histories_are_checked.Goals as goal

pub returns : goal.returns
returns c = record { found = histories_are_found; pass = histories_pass }
