use Rattle.coin_history.proofs.BundleItems.{front_kept, item_put}
use Rattle.coin_history.proofs.spelling.push_items.Goals as goal

pub returns-in_err-push_item-clause-front : goal.returns-in_err-push_item-clause-front
returns-in_err-push_item-clause-front c = front_kept _ _ _ _ c.loop-opening.invariant c.push_item.ensures.front

pub loop-opening-preserved : goal.loop-opening-preserved
loop-opening-preserved c = item_put _ _ _ _ _ _ c.loop-opening-test.true c.opening-item.is c.loop-opening.invariant
    c.in_ok-push_item.ensures.ok
