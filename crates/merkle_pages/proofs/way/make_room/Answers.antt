use Rattle.merkle_pages.proofs.Words.{◌≡◌, List, ℕ, [], Some, None, Result, Ok, Err, OnOk, OnErr, slice_index_or, refl, rules, Paged, node_at, ReadsSame, SameNodes, PutsAt}
use Rattle.merkle_pages.proofs.WayLaws.{reads-nodes, reads-put}
use Rattle.merkle_pages.proofs.way.make_room.Goals as goal

made : {A E : Type 0} (result : Result A E) (defaults : List (List ℕ)) (level coin : ℕ) (old new : Paged)
    → OnOk result (PutsAt level coin (Some (slice_index_or defaults level [])) old new)
    → OnErr result (SameNodes old new) → node_at level coin old ≡ None → ReadsSame defaults old new
made (Ok value) defaults level coin old new puts same none =
    reads-put defaults level coin (Some (slice_index_or defaults level [])) old new puts (rw none refl)
made (Err why) defaults level coin old new puts same none = reads-nodes defaults old new same

pub returns-clause-same : goal.returns-clause-same
returns-clause-same c =
    made c.put_node.result c.args.defaults.now c.args.level c.args.coin c.args.pages.now c.put_node.new.pages
    c.put_node.ensures.ok c.put_node.ensures.err (search rules)
