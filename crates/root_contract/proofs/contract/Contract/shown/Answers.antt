use Rattle.root_contract.proofs.Words.{sym, ◌∙◌, tests_by, rules_of}
use Rattle.root_contract.proofs.Showing.{show-uncommitted, show-unopened, show-opened}
use Rattle.root_contract.proofs.contract.Contract.shown.Goals as goal

pub returns-in-None : goal.returns-in-None
returns-in-None g c =
    let chain = c.args.self.now in
    sym (show-uncommitted (tests_by (g.H.Hash32.digest_of c.args.h.now)) (rules_of chain) chain.log c.args.coin
    c.args.opening.now (sym c.root_at.ensures ∙ c.in-None.is))

pub returns-then-not-is_open : goal.returns-then-not-is_open
returns-then-not-is_open g c =
    let chain = c.args.self.now in
    sym (show-unopened (tests_by (g.H.Hash32.digest_of c.args.h.now)) (rules_of chain) chain.log c.args.coin
    c.args.opening.now c.in-Some.root (sym c.root_at.ensures ∙ c.in-Some.is)
    (sym c.in_ok-is_open.ensures.opens ∙ c.if-not-is_open.true))

pub returns : goal.returns
returns g c =
    let chain = c.args.self.now in
    let shows = show-opened (tests_by (g.H.Hash32.digest_of c.args.h.now)) (rules_of chain) chain.log c.args.coin
    c.args.opening.now c.in-Some.root (sym c.root_at.ensures ∙ c.in-Some.is)
    (sym c.in_ok-is_open.ensures.opens ∙ c.if-not-is_open.false) in
    rw shows (rw (c.tag.ensures, c.self.view_is, c.leaf_in-leaf.ensures, c.as_slice.ensures) at c.leaf_tx.ensures)
