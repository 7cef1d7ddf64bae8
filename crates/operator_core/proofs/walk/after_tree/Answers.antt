-- Where the tree has no leaf of the coin the place stays, since an empty leaf spells no transfer.
use Rattle.operator_core.proofs.Words.{◌≡◌, List, [], ℕ, sym, ap, ◌∙◌, transfer_in, moved_by, place_of_tip}
use Rattle.plasma_tx.proofs.Leaves.{empty-none}
use Rattle.coin_history.proofs.CheckFacts.{empty-from, empty-is}
use Rattle.operator_core.proofs.walk.after_tree.Goals as goal

pub returns-then-is_empty-clause-value : goal.returns-then-is_empty-clause-value
returns-then-is_empty-clause-value g c =
    let leaf = c.leaf_in-leaf.result.now in
    let none : leaf ≡ [] = empty-is leaf (sym (empty-from leaf) ∙ sym c.if-is_empty.ensures) in
    let after : List ℕ → _ = λ leaf. moved_by c.args.n (place_of_tip c.args.last)
    (transfer_in c.args.tag.now c.args.coin c.args.n leaf) in
    rw c.in-Some.is (sym (ap after (sym c.leaf_in-leaf.ensures ∙ none)
    ∙ ap (moved_by c.args.n (place_of_tip c.args.last)) (empty-none c.args.tag.now c.args.coin c.args.n)))
