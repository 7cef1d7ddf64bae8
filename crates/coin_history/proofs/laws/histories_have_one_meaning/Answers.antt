use Rattle.coin_history.proofs.HistoryGrow.{histories_have_one_meaning as law}
use Rattle.coin_history.proofs.laws.histories_have_one_meaning.Goals as goal

pub returns : goal.returns
returns c = law
