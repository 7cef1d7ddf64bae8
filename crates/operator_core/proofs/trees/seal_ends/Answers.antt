use Rattle.std.proofs.Common.{sym, ◌∙◌}
use Rattle.operator_core.proofs.Walked.{ends-known}
use Rattle.operator_core.proofs.trees.seal_ends.Goals as goal

pub returns-then-contains_key-clause-keeps : goal.returns-then-contains_key-clause-keeps
returns-then-contains_key-clause-keeps c = λ dig sealed tree keeps is known. ends-known dig sealed tree c.args.ends.now
    c.args.root keeps is (known (sym c.contains_key.ensures ∙ c.if-contains_key.true))
