use Rattle.std.proofs.Common.{Some}
use Rattle.node_answers.specs.Answers.{wallet_outcome}
use Rattle.node_answers.proofs.Sayings.{stops-in}
use Rattle.node_answers.proofs.wallet.answer_wallet.Goals as goal

pub returns-in_err-given-in-Order-clause-did : goal.returns-in_err-given-in-Order-clause-did
unfolding wallet_outcome
returns-in_err-given-in-Order-clause-did g c =
    rw c.in-Order.is (
      Some c.in_err-given-in-Order.field-0.0,
      c.in_err-given-in-Order.ensures.did,
      stops-in c.from_residual.result c.in_err-given-in-Order.field-0.0 c.from_residual.ensures.1,
    )
