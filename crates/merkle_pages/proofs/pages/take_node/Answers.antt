use Rattle.std.proofs.Common.{None, sym, ◌∙◌, rules}
use Rattle.merkle_pages.proofs.PageLaws.{puts-page, page_node-there}
use Rattle.merkle_pages.proofs.pages.take_node.Goals as goal

pub returns-in-Some : goal.returns-in-Some
returns-in-Some c =
    let page = c.take_from_page.new.page in
    let written = c.get_mut.follows.holds page in
    puts-page c.args.pages.now (c.get_mut.follows.lender page) c.args.name page c.args.place None
    (written.3 (search rules)).0 c.take_from_page.ensures.here
    (λ other ne. c.take_from_page.ensures.elsewhere other ne
    ∙ sym (page_node-there c.args.pages.now c.args.name c.in-Some.page.now other c.in-Some.ensures.value))
