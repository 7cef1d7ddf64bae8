use Rattle.plasma_tx.proofs.Acceptance.{answers_decide as law}
use Rattle.plasma_tx.proofs.rule_laws.answers_decide.Goals as goal

pub returns : goal.returns
returns c = law
