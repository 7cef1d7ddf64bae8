use Rattle.coin_history.proofs.HistoryGrow.{histories_have_beginnings as law}
use Rattle.coin_history.proofs.laws.histories_have_beginnings.Goals as goal

pub returns : goal.returns
returns c = law
