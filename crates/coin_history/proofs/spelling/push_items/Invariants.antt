use Rattle.coin_history.proofs.Words.{◌≡◌, ◌++◌, take, flat_map, item_text}
use Rattle.coin_history.proofs.spelling.push_items.Given as goal

abbrev pub invariant-loop-opening : goal.invariant-loop-opening
invariant-loop-opening l = l.out.items ≡ l.fn.out.items ++ flat_map item_text (take l.opening-index l.openings)
