use Rattle.line_forms.proofs.PrintLaws.{front_more, front_put}
use Rattle.node_replies.proofs.replies.push_offers.Goals as goal

pub returns-in_err-push_kind-clause-front : goal.returns-in_err-push_kind-clause-front
returns-in_err-push_kind-clause-front c =
    front_more _ _ _ (front_put _ _ _ c.loop-kind.invariant)
    (front_more _ _ _ (front_put _ _ _ c.in_ok-push.ensures.items) c.push_kind.ensures.front)
