use Rattle.coin_history.proofs.HistoryFailures.{refusals-behind as law}
use Rattle.coin_history.proofs.laws.refusals_come_behind_links.Goals as goal

pub returns : goal.returns
returns c = law
