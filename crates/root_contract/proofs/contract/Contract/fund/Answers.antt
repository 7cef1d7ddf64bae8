use Rattle.root_contract.proofs.Words.{sym, refl, Err, ap, ◌∙◌, Funded, Fund, answer_to}
use Rattle.root_contract.proofs.Called.{no_tests, takes-stopped, takes-unheld, accepted-may, accepted}
use Rattle.root_contract.proofs.contract.Contract.fund.Goals as goal

pub returns-in_err-judge_fund : goal.returns-in_err-judge_fund
unfolding answer_to
returns-in_err-judge_fund c = λ tests.
    takes-stopped tests c.args.self.now (Fund c.args.account c.args.amount) (Unit {0})
    (λ _. Funded) c.in_err-judge_fund.field-0.0
    c.from_residual.result c.from_residual.ensures.1 c.in_err-judge_fund.ensures.answer
    (λ is. absurd (c.judge_fund.ensures.never (c.in_err-judge_fund.was ∙ ap Err is)))

pub fund_account-requires : goal.fund_account-requires
unfolding answer_to
fund_account-requires c =
    accepted no_tests c.args.self.now (Fund c.args.account c.args.amount) Funded c.in_ok-judge_fund.ensures.answer
    refl

pub returns-in_err-fund_account : goal.returns-in_err-fund_account
unfolding answer_to
returns-in_err-fund_account c = λ tests.
    takes-unheld tests c.args.self.now _ (Fund c.args.account c.args.amount)
    c.from_residual-in_err-fund_account.result c.from_residual-in_err-fund_account.ensures.1
    c.in_err-fund_account.ensures.err (accepted-may tests c.args.self.now
    (Fund c.args.account c.args.amount) Funded c.in_ok-judge_fund.ensures.answer refl)

pub returns : goal.returns
unfolding answer_to
returns c = λ tests. (sym c.in_ok-judge_fund.ensures.answer, refl, c.in_ok-fund_account.ensures.ok)
