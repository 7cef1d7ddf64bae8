use Rattle.coin_safety.proofs.Telling.{words_tell}
use Rattle.coin_safety.proofs.laws.words_tell.Goals as goal

pub returns : goal.returns
returns c = words_tell
