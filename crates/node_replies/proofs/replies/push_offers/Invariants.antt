use Rattle.std.proofs.Common.{◌≡◌, ◌++◌, ◌∷◌, [], take, length}
use Rattle.std.specs.Prelude.{codes}
use Rattle.node_replies.specs.Causes.{phrase}
use Rattle.node_replies.specs.Texts.{kinds_text}
use Rattle.node_replies.proofs.replies.push_offers.Given as goal

abbrev pub invariant-loop-kind : goal.invariant-loop-kind
invariant-loop-kind l =
    l.out.items ≡ l.fn.out.items
    ++ (phrase (codes "offers") (length l.kinds ∷ []) ++ kinds_text (take l.kind-index l.kinds))
