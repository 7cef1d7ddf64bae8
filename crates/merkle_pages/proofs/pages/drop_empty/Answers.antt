use Rattle.merkle_pages.proofs.PageLaws.{page_node-removed}
use Rattle.merkle_pages.proofs.pages.drop_empty.Goals as goal

pub returns-then-has_empty : goal.returns-then-has_empty
returns-then-has_empty c =
    page_node-removed c.args.pages.now c.remove.new.self c.args.name (c.has_empty.ensures c.if-has_empty.true)
    c.remove.ensures.updates.0
