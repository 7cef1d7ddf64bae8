use Rattle.coin_history.proofs.HistoryShape.{links_rise, deposits_are_bare, tips_are_links}
use Rattle.coin_history.proofs.laws.a_history_has_its_shape.Goals as goal

pub returns : goal.returns
returns c = record { rise = links_rise; deposit = deposits_are_bare; tip = tips_are_links }
