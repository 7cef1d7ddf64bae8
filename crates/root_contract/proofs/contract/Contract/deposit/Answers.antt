use Rattle.root_contract.proofs.Words.{◌+◌, ◌∙◌, sym, refl, Err, ap, Deposited, Deposit, blocks, coins, answer_to}
use Rattle.root_contract.proofs.Called.{no_tests, takes-stopped, takes-unheld, accepted-may, accepted, deposit-changes}
use Rattle.root_contract.proofs.contract.Contract.deposit.Goals as goal

pub returns-in_err-judge_deposit : goal.returns-in_err-judge_deposit
unfolding answer_to
returns-in_err-judge_deposit c = λ tests.
    takes-stopped tests c.args.self.now (Deposit c.args.account c.args.amount c.args.key) (Unit {0})
    (λ x. Deposited (coins c.args.self.now.log + 1) (blocks c.args.self.now.log + 1)) c.in_err-judge_deposit.field-0.0
    c.from_residual.result c.from_residual.ensures.1 c.in_err-judge_deposit.ensures.answer
    (λ is. absurd (c.judge_deposit.ensures.never (c.in_err-judge_deposit.was ∙ ap Err is)))

pub hold-requires : goal.hold-requires
unfolding answer_to
hold-requires c =
    deposit-changes c.args.self.now c.args.account c.args.amount c.args.key
    (accepted no_tests c.args.self.now (Deposit c.args.account c.args.amount c.args.key) (Deposited
    (coins c.args.self.now.log + 1) (blocks c.args.self.now.log + 1)) c.in_ok-judge_deposit.ensures.answer refl)

pub returns-in_err-hold : goal.returns-in_err-hold
unfolding answer_to
returns-in_err-hold c = λ tests.
    takes-unheld tests c.args.self.now _ (Deposit c.args.account c.args.amount c.args.key)
    c.from_residual-in_err-hold.result c.from_residual-in_err-hold.ensures.1 c.in_err-hold.ensures.err
    (accepted-may tests c.args.self.now (Deposit c.args.account c.args.amount c.args.key) (Deposited
    (coins c.args.self.now.log + 1) (blocks c.args.self.now.log + 1)) c.in_ok-judge_deposit.ensures.answer refl)

pub returns : goal.returns
unfolding answer_to
returns c = λ tests. (
  (λ i. Deposited (c.coin_count.ensures.is i + 1) (c.block_count.ensures.is i + 1))
      ∙ sym c.in_ok-judge_deposit.ensures.answer,
  refl,
  c.in_ok-hold.ensures.ok,
)
