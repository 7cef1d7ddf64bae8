use Rattle.key_lives.proofs.DeskSample.{small_desk_life}
use Rattle.key_lives.proofs.laws.a_small_desks_life_is_one.Goals as goal

pub returns : goal.returns
returns c = small_desk_life
