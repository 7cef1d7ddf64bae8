use Rattle.coin_safety.proofs.Advised.{enough_is_enough, none_is_poor}
use Rattle.coin_safety.proofs.laws.enough_is_enough.Goals as goal

pub returns : goal.returns
returns c = record { each = enough_is_enough; none = none_is_poor }
