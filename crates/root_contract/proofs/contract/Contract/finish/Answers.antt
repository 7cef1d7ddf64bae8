use Rattle.root_contract.proofs.Words.{sym, Err, ap, ◌∙◌, Answer, Finish, answer_to}
use Rattle.root_contract.proofs.Called.{no_tests, takes-stopped, takes-unheld, accepted-may, accepted, finish-stands, finish-changes}
use Rattle.root_contract.proofs.contract.Contract.finish.Goals as goal

pub returns-in_err-answer : goal.returns-in_err-answer
unfolding answer_to
returns-in_err-answer c = λ tests.
    takes-stopped tests c.args.self.now (Finish c.args.account c.args.coin c.args.exit) Answer (λ x. x)
    c.in_err-answer.field-0.0 c.from_residual.result c.from_residual.ensures.1 c.in_err-answer.ensures.answer
    (λ is. absurd (c.judge_finish.ensures.never (c.in_err-answer.was ∙ ap Err is)))

pub settle-requires-clause-stands : goal.settle-requires-clause-stands
unfolding answer_to
settle-requires-clause-stands c =
    finish-stands c.args.self.now c.args.account c.args.coin c.args.exit
    (accepted no_tests c.args.self.now (Finish c.args.account c.args.coin c.args.exit) c.in_ok-answer.answer
    c.in_ok-answer.ensures.answer c.in_ok-answer.ensures.accepted)

pub settle-requires-clause-changes : goal.settle-requires-clause-changes
unfolding answer_to
settle-requires-clause-changes c =
    finish-changes c.args.self.now c.args.account c.args.coin c.args.exit
    (accepted no_tests c.args.self.now (Finish c.args.account c.args.coin c.args.exit) c.in_ok-answer.answer
    c.in_ok-answer.ensures.answer c.in_ok-answer.ensures.accepted)

pub returns-in_err-settle : goal.returns-in_err-settle
unfolding answer_to
returns-in_err-settle c = λ tests.
    takes-unheld tests c.args.self.now _ (Finish c.args.account c.args.coin c.args.exit)
    c.from_residual-in_err-settle.result c.from_residual-in_err-settle.ensures.1 c.in_err-settle.ensures.err
    (accepted-may tests c.args.self.now (Finish c.args.account c.args.coin c.args.exit) c.in_ok-answer.answer
    c.in_ok-answer.ensures.answer c.in_ok-answer.ensures.accepted)

pub returns : goal.returns
unfolding answer_to
returns c = λ tests. (sym c.in_ok-answer.ensures.answer, c.in_ok-answer.ensures.accepted, c.in_ok-settle.ensures.ok)
