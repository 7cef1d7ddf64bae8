use Rattle.std.proofs.Common.{Some, refl, sym, ◌∙◌, rules}
use Rattle.merkle_pages.proofs.PageLaws.{found-ok, found-err, found-absent, puts-page, page_node-absent}
use Rattle.merkle_pages.proofs.pages.insert_node.Goals as goal

pub returns-in-Some-clause-ok : goal.returns-in-Some-clause-ok
returns-in-Some-clause-ok c =
    let page = c.insert_in_page.new.page in
    found-ok c.insert_in_page.result c.args.pages.now (c.get_mut.follows.lender page) c.args.name c.in-Some.page.now
    page c.args.place c.args.digest c.in-Some.ensures.value ((c.get_mut.follows.holds page).3 (search rules)).0
    c.insert_in_page.ensures.here c.insert_in_page.ensures.elsewhere

pub returns-in-Some-clause-err : goal.returns-in-Some-clause-err
returns-in-Some-clause-err c =
    let page = c.insert_in_page.new.page in
    found-err c.insert_in_page.result c.args.pages.now (c.get_mut.follows.lender page) c.args.name
    c.in-Some.page.now page c.in-Some.ensures.value ((c.get_mut.follows.holds page).3 (search rules)).0
    c.insert_in_page.ensures.err

pub returns-in-Some-clause-absent : goal.returns-in-Some-clause-absent
returns-in-Some-clause-absent c =
    found-absent c.insert_in_page.result c.args.pages.now c.args.name c.in-Some.page.now c.args.place
    c.in-Some.ensures.value c.insert_in_page.ensures.absent

pub returns-clause-ok : goal.returns-clause-ok
returns-clause-ok c =
    puts-page c.args.pages.now c.insert.new.self c.args.name c.insert_in_page-2.new.page c.args.place
    (Some c.args.digest)
    (λ other. rw c.get_mut.follows.holds-at-none at (c.in_ok-insert.ensures.updates.0 other))
    c.in_ok-insert_in_page.ensures.here
    (λ other ne. c.in_ok-insert_in_page.ensures.elsewhere other ne ∙ rw c.new-page.ensures.empty refl
    ∙ sym (page_node-absent c.args.pages.now c.args.name other (search rules)))
