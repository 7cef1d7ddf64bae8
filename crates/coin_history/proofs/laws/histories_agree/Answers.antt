use Rattle.coin_history.proofs.HistoryAgree.{histories_agree as law}
use Rattle.coin_history.proofs.laws.histories_agree.Goals as goal

pub returns : goal.returns
returns c = law
