use Rattle.root_contract.proofs.Words.{◌+◌, ◌∙◌, sym, refl, ap, Err, Owner, Started, StartDeposit, now, EXIT_PERIOD, answer_to}
use Rattle.root_contract.proofs.Called.{no_tests, takes-stopped, takes-unheld, accepted-may, accepted, start_deposit-changes}
use Rattle.root_contract.proofs.contract.Contract.start_deposit.Goals as goal

pub returns-in_err-owner : goal.returns-in_err-owner
unfolding answer_to
returns-in_err-owner c = λ tests.
    takes-stopped tests c.args.self.now (StartDeposit c.args.account c.args.coin c.args.block) Owner
    (λ x. Started (now c.args.self.now.log + EXIT_PERIOD)) c.in_err-owner.field-0.0 c.from_residual.result
    c.from_residual.ensures.1 c.in_err-owner.ensures.answer
    (λ is. absurd (c.judge_start_deposit.ensures.never (c.in_err-owner.was ∙ ap Err is)))

pub start-requires-clause-changes : goal.start-requires-clause-changes
unfolding answer_to
start-requires-clause-changes c =
    start_deposit-changes c.args.self.now c.args.account c.args.coin c.args.block c.in_ok-owner.owner
    c.new_slot-slot.result
    (accepted no_tests c.args.self.now (StartDeposit c.args.account c.args.coin c.args.block)
    (Started (now c.args.self.now.log + EXIT_PERIOD)) c.in_ok-owner.ensures.answer refl)
    c.in_ok-owner.ensures.owner c.new_slot-slot.ensures

pub returns-in_err-start : goal.returns-in_err-start
unfolding answer_to
returns-in_err-start c = λ tests.
    takes-unheld tests c.args.self.now _ (StartDeposit c.args.account c.args.coin c.args.block)
    c.from_residual-in_err-start.result c.from_residual-in_err-start.ensures.1 c.in_err-start.ensures.err
    (accepted-may tests c.args.self.now (StartDeposit c.args.account c.args.coin c.args.block) (Started
    (now c.args.self.now.log + EXIT_PERIOD)) c.in_ok-owner.ensures.answer refl)

pub returns : goal.returns
unfolding answer_to
returns c = λ tests. (
  ap (λ x. Started (x + EXIT_PERIOD)) c.clock-opens.ensures.is ∙ sym c.in_ok-owner.ensures.answer,
  refl,
  c.in_ok-start.ensures.ok,
)
