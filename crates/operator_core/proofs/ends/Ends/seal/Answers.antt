use Rattle.operator_core.proofs.Walked.{ends-unknown}
use Rattle.operator_core.proofs.ends.Ends.seal.Goals as goal

pub returns-clause-keeps : goal.returns-clause-keeps
returns-clause-keeps c = λ dig sealed tree keeps is. ends-unknown dig sealed tree c.args.self.now c.args.root.now keeps
    is (rw c.as_slice.ensures.value at (c.is_among.ensures c.if-is_among.false))
