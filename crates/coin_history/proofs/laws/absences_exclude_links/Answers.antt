use Rattle.coin_history.proofs.HistoryAgree.{absences_exclude_links as law}
use Rattle.coin_history.proofs.laws.absences_exclude_links.Goals as goal

pub returns : goal.returns
returns c = law
